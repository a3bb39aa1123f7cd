use Rattle.std.proofs.Common.{◌≤◌, length, refl, subst, sym, ap, arith}
use Rattle.ballot_record.specs.BallotList.{ListedBallots}
use Rattle.body_store.proofs.Listed.{length-one_more}
use Rattle.body_store.proofs.relay.list_with.Goals as goal
use Rattle.body_store.proofs.relay.list_with.Goals.{then-place-front, else-place-front}
use Rattle.body_store.specs.Fronts.{IsListStart}
use Rattle.body_store.specs.declared.relay.Front.{Front}

pub lists-init : goal.lists-init
lists-init c =
    let P : Front → Type 0 = λ front. IsListStart c.args.lists.now front × (front.first ≤ c.args.place) in
    let holds : P c.if-place-front.front = elim c.if-place-front.branch [
      | then-place-front w ↦ subst P (sym w.front-is) (record { within = omega arith; first = refl }, omega arith)
      | else-place-front w ↦ subst P (sym w.front-is) (c.requires.front, w.if-place-front.false)
    ] in
    record { front = holds.0; past = holds.1 }

pub lists-preserved : goal.lists-preserved
lists-preserved c =
    let list = c.index-lists-front.result in
    let before = c.lists.invariant in
    let count = ap (λ (list : ListedBallots). length list.ballots) c.index-lists-front.is in
    record {
      front = record {
        within = omega (arith, c.lists-test.true);
        first =
            omega (arith, length-one_more c.args.lists.now c.lists.front.list list c.lists-test.true, count, before.front.first, c.len-count.ensures.count);
      };
      past = omega (arith, c.if-place-front-2.false, before.past);
    }
