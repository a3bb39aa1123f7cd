use Rattle.std.proofs.Common.{length, ap, ◌∙◌, arith}
use Rattle.store_spec.proofs.Common.{take_all}
use Rattle.ballot_record.specs.BallotList.{ListedBallots}
use Rattle.body_store.proofs.Listed.{length-one_more, stands}
use Rattle.body_store.proofs.relay.count.Goals as goal
use Rattle.body_store.specs.Contents.{all_listed}

pub overflow_add-count : goal.overflow_add-count
overflow_add-count c =
    let list = c.list-item.result in
    let here = stands c.args.lists.now c.lists.list-index list c.lists-test.true in
    omega (arith, ap (λ (list : ListedBallots). length list.ballots) c.list-item.is, c.requires, here.within, c.lists.invariant, c.len-count.ensures.count)

pub lists-preserved : goal.lists-preserved
lists-preserved c =
    let list = c.list-item.result in
    omega (
      arith,
      ap (λ (list : ListedBallots). length list.ballots) c.list-item.is,
      length-one_more c.args.lists.now c.lists.list-index list c.lists-test.true,
      c.lists.invariant,
      c.len-count.ensures.count,
    )

pub returns : goal.returns
returns c = c.lists.invariant ∙ ap (λ lists. length (all_listed lists)) (take_all c.lists.list-index c.args.lists.now (omega arith))
