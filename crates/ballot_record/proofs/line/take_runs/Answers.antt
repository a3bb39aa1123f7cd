use Rattle.std.proofs.Common.{◌∙◌, sym, refl, inl, inr, arith}
use Rattle.ballot_record.proofs.LineRuns.{four_on, eight_on}
use Rattle.ballot_record.proofs.line.take_runs.Goals as goal

pub loop-value-init : goal.loop-value-init
loop-value-init c = record { some = inl c.in-None.ensures; goes_on = refl }

pub overflow_add-value : goal.overflow_add-value
overflow_add-value c =
    let l = c.loop-value in
    let on = eight_on c.args.limit l.value l.rest.now c.in-Some.eight c.in-Some.after.now (sym c.in-Some.ensures) l.invariant.some (omega (arith, c.loop-value-test.true)) in
    omega (arith, on.small, c.loop-value-test.true, c.ranges.limit.fits)

pub loop-value-smaller : goal.loop-value-smaller
loop-value-smaller c =
    let l = c.loop-value in
    let on = eight_on c.args.limit l.value l.rest.now c.in-Some.eight c.in-Some.after.now (sym c.in-Some.ensures) l.invariant.some (omega (arith, c.loop-value-test.true)) in
    omega (arith, on.some, c.loop-value-test.true)

pub loop-value-preserved : goal.loop-value-preserved
loop-value-preserved c =
    let l = c.loop-value in
    let on = eight_on c.args.limit l.value l.rest.now c.in-Some.eight c.in-Some.after.now (sym c.in-Some.ensures) l.invariant.some (omega (arith, c.loop-value-test.true)) in
    record { some = inr on.some; goes_on = on.goes_on ∙ l.invariant.goes_on }

pub overflow_add-value-in-loop-value-2 : goal.overflow_add-value-in-loop-value-2
overflow_add-value-in-loop-value-2 c =
    let l = c.loop-value-2 in
    let on = four_on c.args.limit l.value l.rest.now c.in-Some-four_digits.four c.in-Some-four_digits.after.now (sym c.in-Some-four_digits.ensures) l.invariant.some (omega (arith, c.loop-value-2-test.true)) in
    omega (arith, on.small, c.loop-value-2-test.true, c.ranges.limit.fits)

pub loop-value-2-smaller : goal.loop-value-2-smaller
loop-value-2-smaller c =
    let l = c.loop-value-2 in
    let on = four_on c.args.limit l.value l.rest.now c.in-Some-four_digits.four c.in-Some-four_digits.after.now (sym c.in-Some-four_digits.ensures) l.invariant.some (omega (arith, c.loop-value-2-test.true)) in
    omega (arith, on.some, c.loop-value-2-test.true)

pub loop-value-2-preserved : goal.loop-value-2-preserved
loop-value-2-preserved c =
    let l = c.loop-value-2 in
    let on = four_on c.args.limit l.value l.rest.now c.in-Some-four_digits.four c.in-Some-four_digits.after.now (sym c.in-Some-four_digits.ensures) l.invariant.some (omega (arith, c.loop-value-2-test.true)) in
    record { some = inr on.some; goes_on = on.goes_on ∙ l.invariant.goes_on }
