use Rattle.std.proofs.Common.{ℕ, List, length, sym, subst, arith}
use Rattle.store_spec.proofs.Common.{IsOrdered}
use Rattle.layout_def.proofs.Carried.{HoldsFirst, first_also, first_are_all, holds_none}
use Rattle.layout_def.proofs.LaidOut.{none_ordered}
use Rattle.layout_def.proofs.walk.put_all.Goals as goal

-- empty cells hold none of the numbers
pub loop-number-init : goal.loop-number-init
loop-number-init g c =
    let home = g.O.Order.home c.args.order.now in
    let empty = c.requires.empty in
    record {
      ordered = subst (λ (l : List ℕ). IsOrdered home l) (sym empty) (none_ordered home (length c.args.cells.now));
      first = subst (λ (l : List ℕ). HoldsFirst 0 c.args.numbers.now l) (sym empty) (holds_none (length c.args.cells.now) c.args.numbers.now);
    }

pub put-requires-clause-ordered : goal.put-requires-clause-ordered
put-requires-clause-ordered g c = c.loop-number.invariant.ordered

pub loop-number-preserved : goal.loop-number-preserved
loop-number-preserved g c =
    let i = c.loop-number.invariant in
    let put = c.put.ensures in
    record {
      ordered = put.ordered c.if-not-put.false;
      first = first_also c.loop-number.number-index c.args.numbers.now _ _ c.loop-number-test.true c.requires.some (put.also c.if-not-put.false) i.first;
    }

pub returns-clause-ordered : goal.returns-clause-ordered
returns-clause-ordered g c told = c.loop-number.invariant.ordered

pub returns-clause-exactly : goal.returns-clause-exactly
returns-clause-exactly g c told = first_are_all _ _ _ (omega arith) c.requires.some c.loop-number.invariant.first
