use Rattle.std.proofs.Common.{sym, ap, ◌-◌, ◌/◌, ◌∙◌, arith}
use Rattle.std.specs.List.{slice_get}
use Rattle.script_lines.proofs.Places.{ballot_at, behind_ballots}
use Rattle.script_lines.proofs.part.part_at.Goals as goal
use Rattle.script_lines.specs.Parts.{withdrawing_parts}

pub returns-then-before-from : goal.returns-then-before-from
returns-then-before-from c = sym (ballot_at c.args.index c.args.ballots (omega arith) (omega arith) (omega arith))

pub returns-else-before-from : goal.returns-else-before-from
returns-else-before-from c =
    c.withdrawing_part.ensures
    ∙ ap (λ n. slice_get (withdrawing_parts (c.args.ballots / 10)) (c.args.index - 2 - n)) c.from-else-before-from.ensures
    ∙ sym (behind_ballots c.args.index c.args.ballots (omega arith) (omega arith) (omega arith))
