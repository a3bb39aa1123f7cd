use Rattle.std.proofs.Common.{◌∙◌, pos_of_ne-zero, subst}
use Rattle.store_spec.proofs.Common.{Act, Probing, Rest}
use Rattle.step_core.specs.CastTables.{LeadsTo, note_of, state_of}
use Rattle.step_core.specs.Shape.{table_of}
use Rattle.step_core.specs.declared.shape.Shape.{Shape}
use Rattle.word_rule.proofs.CastAnswers.{HasStepped, allows_first, has_stepped, may_begin, same_shape}
use Rattle.word_rule.proofs.cast.CastWords.begin.Goals as goal
use Rattle.word_rule.specs.CastSeats.{begins}
use Rattle.word_rule.specs.Steps.{step_of}

pub perform-found-requires-clause-rule : goal.perform-found-requires-clause-rule
perform-found-requires-clause-rule c =
    let seat = c.args.seat.now in
    let shared = c.self.inside.table.shared in
    let rest = c.requires.at_rest in
    allows_first shared.key shared.table_id.slots seat.id seat.me c.args.number c.args.shape _
    (c.requires.own ∙ same_shape c.args.self.now Rest seat rest)
    c.cast_act_from-act.ensures rest.single.weight rest.state_is
    (may_begin c.args.self.now seat c.args.number rest.belongs c.requires.may_begin)

stepped : (c : goal.After-cast_first) → HasStepped c.args.self.now (Probing c.args.number 0) c.args.seat.now c.perform-found.new.seat (state_of c.cast_first.result.0) (note_of c.cast_first.result.1)
stepped c =
    let seat = c.args.seat.now in
    let now = c.perform-found.new.seat in
    has_stepped c.args.self.now Rest (Probing c.args.number 0) seat now c.perform-found.result _ _ c.requires.at_rest c.perform-found.ensures.table
    (c.requires.may_begin.some, pos_of_ne-zero c.requires.may_begin.claims)
    (subst (λ (a : Act). begins (step_of c.self.inside.table.shared.table_id.slots a) seat.me c.perform-found.result now.me) c.cast_act_from-act.ensures c.perform-found.ensures.told)
    (subst (λ (s : Shape). LeadsTo (table_of s) (Probing c.args.number 0) c.perform-found.result (state_of c.cast_first.result.0) (note_of c.cast_first.result.1)) c.requires.own c.cast_first.ensures)

pub returns-clause-about : goal.returns-clause-about
returns-clause-about c = (stepped c).about

pub returns-clause-row : goal.returns-clause-row
returns-clause-row c = (stepped c).row

pub returns-clause-told_alike : goal.returns-clause-told_alike
returns-clause-told_alike c = (stepped c).told_alike

pub returns-clause-begins : goal.returns-clause-begins
returns-clause-begins c = (stepped c).begins c.args.first c.requires.begins
