use Rattle.std.proofs.Common.{sym, ap, ◌-◌, ◌∙◌, arith}
use Rattle.std.specs.List.{slice_get}
use Rattle.script_lines.proofs.Places.{behind_tenths, tenth_at}
use Rattle.script_lines.proofs.part.withdrawing_part.Goals as goal
use Rattle.script_lines.specs.Parts.{closing_parts}

pub returns-then-before-from : goal.returns-then-before-from
returns-then-before-from c = sym (tenth_at c.args.before c.args.tenths (omega arith) (omega arith) (omega arith))

pub returns-else-before-from : goal.returns-else-before-from
returns-else-before-from c =
    c.closing_part.ensures
    ∙ ap (λ n. slice_get closing_parts (c.args.before - 2 - n)) c.from-else-before-from.ensures
    ∙ sym (behind_tenths c.args.before c.args.tenths (omega arith) (omega arith) (omega arith))
