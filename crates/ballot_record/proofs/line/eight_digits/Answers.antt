use Rattle.std.proofs.Common.{◌≡◌, true, sym, arith}
use Rattle.std.proofs.lemmas.List.{take_rest}
use Rattle.ballot_record.proofs.LineRuns.{EightHere, are_eight, eight_here}
use Rattle.ballot_record.proofs.line.eight_digits.Goals as goal
use Rattle.ballot_record.proofs.line.eight_digits.Goals.{After-from-in-len8-up-7}

here : (c : After-from-in-len8-up-7) → EightHere c.args.bytes.now
here c =
    let all : are_eight c.args.bytes.now ≡ true = rw (
      sym c.is_ascii_digit.ensures.value,
      sym c.is_ascii_digit-2.ensures.value,
      sym c.is_ascii_digit-3.ensures.value,
      sym c.is_ascii_digit-4.ensures.value,
      sym c.is_ascii_digit-5.ensures.value,
      sym c.is_ascii_digit-6.ensures.value,
      sym c.is_ascii_digit-7.ensures.value,
      sym c.is_ascii_digit-8.ensures.value,
    ) c.if-is_ascii_digit.true in
    eight_here c.args.bytes.now c.in-len8-up.len_at_least all

pub overflow_sub-result : goal.overflow_sub-result
overflow_sub-result c = omega (arith, (here c).high_enough)

pub returns-in-len8-up : goal.returns-in-len8-up
returns-in-len8-up c =
    let bytes = c.args.bytes.now in
    let rest = take_rest bytes 8 in
    rw (
      c.from.ensures,
      c.from-in-len8-up.ensures,
      c.from-in-len8-up-2.ensures,
      c.from-in-len8-up-3.ensures,
      c.from-in-len8-up-4.ensures,
      c.from-in-len8-up-5.ensures,
      c.from-in-len8-up-6.ensures,
      c.from-in-len8-up-7.ensures,
      rest,
    ) (sym (here c).number)
