use Rattle.std.proofs.Common.{◌≡◌, ◌+◌, ◌-◌, length, sym, ◌∙◌, arith}
use Rattle.store_spec.proofs.Common.{take_all}
use Rattle.image_builder.proofs.FirstZeros.{zeros_front, zeros_on, zeros_within}
use Rattle.image_builder.proofs.zeros.is_empty_by.Goals as goal

pub loop-from-preserved : goal.loop-from-preserved
loop-from-preserved c =
    let from = c.loop-from.from in
    record {
      within = omega (arith, c.loop-from-test.true);
      zeros = zeros_on c.args.cell.now from from (from + c.args.step) (omega arith) (omega (arith, c.loop-from-test.true)) c.loop-from.invariant.zeros (c.are_zero.ensures.0 c.if-not-are_zero.false);
    }

pub returns-then-not-are_zero : goal.returns-then-not-are_zero
returns-then-not-are_zero c =
    let from = c.loop-from.from in (
      λ wrong. absurd cc,
      λ zeros.
          sym c.if-not-are_zero.true
          ∙ c.are_zero.ensures.1 (zeros_within c.args.cell.now from (from + c.args.step) (omega (arith, c.loop-from-test.true)) zeros),
    )

pub returns : goal.returns
returns c =
    let cell = c.args.cell.now in
    let last = length cell - c.args.step in
    let long : last + c.args.step ≡ length cell = omega (arith, c.requires.long) in (
      λ zero.
          sym (take_all (length cell) cell (omega arith)) ∙ zeros_front cell (length cell) (omega arith)
          (λ k less. zeros_on cell c.loop-from.from last (last + c.args.step) c.loop-from-test.false (omega (arith, long)) c.loop-from.invariant.zeros (c.are_zero-2.ensures.0 zero) k (omega (arith, long, less))),
      λ zeros. c.are_zero-2.ensures.1 (zeros_within cell last (last + c.args.step) (omega (arith, long)) zeros),
    )
