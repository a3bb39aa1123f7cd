use Rattle.std.proofs.Common.{ap, sym, ◌∙◌}
use Rattle.store_spec.proofs.Common.{Casts, opened}
use Rattle.phase_gate.proofs.waiting.Waiting.opened.Goals as goal
use Rattle.script_lines.specs.Words.{work}

pub returns-in_ok-no_ballots-in-Casting-clause-phase : goal.returns-in_ok-no_ballots-in-Casting-clause-phase
returns-in_ok-no_ballots-in-Casting-clause-phase c =
    ap Casts c.in_ok-no_ballots-in-Casting.ensures.empty
    ∙ ap (λ named. opened (work named) c.args.tabs) (sym c.in-Casting.is)
