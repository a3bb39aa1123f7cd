use Rattle.std.proofs.Common.{◌≡◌, ◌+◌, ◌-◌, length, sym, ◌∙◌, arith}
use Rattle.ballot_record.proofs.Barring.{none_in_front, none_on, none_within}
use Rattle.ballot_record.proofs.format.has_none_by.Goals as goal

pub loop-from-init : goal.loop-from-init
loop-from-init c = none_in_front c.args.cell.now c.args.barred.now (λ i. omega (arith, c.type_inv.cell i)) c.requires.front

pub loop-from-preserved : goal.loop-from-preserved
loop-from-preserved c =
    let from = c.loop-from.from in
    none_on c.args.cell.now c.args.barred.now from from (from + c.args.step) (omega arith) (omega (arith, c.loop-from-test.true)) c.loop-from.invariant (c.have_none.ensures.0 c.if-not-have_none.false)

pub returns-then-not-have_none : goal.returns-then-not-have_none
returns-then-not-have_none c =
    let from = c.loop-from.from in (
      λ wrong. absurd cc,
      λ none. sym c.if-not-have_none.true ∙ c.have_none.ensures.1 (none_within c.args.cell.now c.args.barred.now from (from + c.args.step) (omega (arith, c.loop-from-test.true)) none),
    )

pub returns : goal.returns
returns c =
    let cell = c.args.cell.now in
    let barred = c.args.barred.now in
    let last = length cell - c.args.step in
    let long : last + c.args.step ≡ length cell = omega (arith, c.requires.long) in (
      λ none k within.
          none_on cell barred c.loop-from.from last (last + c.args.step) c.loop-from-test.false (omega (arith, long)) c.loop-from.invariant (c.have_none-2.ensures.0 none) k (omega (arith, long, within)),
      λ none. c.have_none-2.ensures.1 (none_within cell barred last (last + c.args.step) (omega (arith, long)) none),
    )
