use Rattle.std.proofs.Common.{◌≡◌, ◌<◌, ◌*◌, ◌+◌, length, ap, ◌∙◌, arith, below_more}
use Rattle.election_def.proofs.Salts.{fits, small_grows, number_grows, salt_digit-lt, text_of_digits}
use Rattle.election_def.proofs.parts.salt.Goals as goal

pub overflow_mul-salt : goal.overflow_mul-salt
overflow_mul-salt c =
    let size : length c.as_bytes-digit-items.result.now ≡ 16 = ap length c.as_bytes-digit-items.ensures.value ∙ c.if-text-ne16.false in
    omega (arith, fits c.loop-digit.salt c.loop-digit.digit-index 0 c.loop-digit.invariant.small (omega arith) (omega arith))

pub overflow_add-salt : goal.overflow_add-salt
overflow_add-salt c =
    let size : length c.as_bytes-digit-items.result.now ≡ 16 = ap length c.as_bytes-digit-items.ensures.value ∙ c.if-text-ne16.false in
    let digit = c.in_ok-salt_digit.ensures in
    let small : c.from.result < 16 = omega (arith, c.from.ensures, digit.value, salt_digit-lt _ digit.digit) in
    omega (arith, fits c.loop-digit.salt c.loop-digit.digit-index c.from.result c.loop-digit.invariant.small (omega arith) small)

pub loop-digit-preserved : goal.loop-digit-preserved
loop-digit-preserved c =
    let l = c.loop-digit in
    let digit = c.in_ok-salt_digit.ensures in
    let small : c.from.result < 16 = omega (arith, c.from.ensures, digit.value, salt_digit-lt _ digit.digit) in
    record {
      number = ap (λ d. l.salt * 16 + d) (c.from.ensures ∙ digit.value) ∙ number_grows c.as_bytes-digit-items.result.now l.digit-index l.salt c.loop-digit-test.true l.invariant.number;
      small = small_grows l.salt l.digit-index c.from.result l.invariant.small small;
      digits = below_more _ _ l.invariant.digits digit.digit;
    }

pub returns-clause-value : goal.returns-clause-value
returns-clause-value c =
    text_of_digits c.args.text.now c.as_bytes-digit-items.result.now c.loop-digit.digit-index c.loop-digit.salt c.as_bytes-digit-items.ensures.value c.if-text-ne16.false
    (omega arith) c.loop-digit.invariant.number c.loop-digit.invariant.digits
