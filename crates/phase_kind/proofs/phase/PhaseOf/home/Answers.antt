use Rattle.std.proofs.Common.{◌<◌, ap, subst, ◌∙◌}
use Rattle.phase_kind.proofs.phase.PhaseOf.home.Goals as goal
use Rattle.phase_kind.specs.Phase.{OpenPhase}
use Rattle.step_core.specs.Shape.{homes_of}
use Rattle.step_core.specs.declared.shape.Shape.{Shape}
use Rattle.word_rule.proofs.Stores.{home_in_cells}

pub returns : goal.returns
returns g c =
    let i = c.self.invariant in
    let shape = (g.K.Kind.seen c.self.inside.words).shape in
    subst (λ (p : OpenPhase). c.home.result < p.words.shape.cells) c.self.view_is
    (home_in_cells c.self.inside.closed.election shape i.own.of_store.shape i.stored.election.few_bits c.args.number c.home.result (c.home.ensures ∙ ap (λ (s : Shape). homes_of s c.args.number) i.shape_is))
