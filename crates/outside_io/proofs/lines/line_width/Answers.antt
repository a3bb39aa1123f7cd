use Rattle.std.proofs.Common.{length, arith}
use Rattle.outside_io.proofs.Windows.{found_first}
use Rattle.outside_io.proofs.lines.line_width.Goals as goal

pub returns-in-Some : goal.returns-in-Some
returns-in-Some c =
    let first = c.in-Some.ensures.0 in
    found_first c.args.bytes.now c.in-Some.place (omega (arith, first.high)) first.before (λ _. c.in-Some.ensures.1)

pub returns-in-None : goal.returns-in-None
returns-in-None c = found_first c.args.bytes.now (length c.args.bytes.now) (omega arith) c.in-None.ensures (λ past. absurd (omega (arith, past)))
