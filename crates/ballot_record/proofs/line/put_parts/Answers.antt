use Rattle.std.proofs.Common.{sym, arith}
use Rattle.ballot_record.proofs.LineNumbers.{number_takes}
use Rattle.ballot_record.proofs.line.put_parts.Goals as goal

pub overflow_cast-parts : goal.overflow_cast-parts
overflow_cast-parts c =
    let style = number_takes 255 (omega arith) c.in_ok-after_byte.field-0.now c.in_ok-style.style c.in_ok-style.rest.now (sym c.in_ok-style.ensures) in
    omega (arith, style.within)
