use Rattle.std.proofs.Common.{◌<◌, ◌≤◌, ⊎_elim, length, take, sym, ap, subst, ◌∙◌, arith}
use Rattle.store_spec.proofs.Common.{cases_lt, take_all}
use Rattle.ballot_record.specs.BallotList.{ListedBallots}
use Rattle.body_store.proofs.Listed.{length-one_more, stands}
use Rattle.body_store.specs.Contents.{all_listed}
use Rattle.body_store.specs.Moves.{StandsFrom}
use Rattle.body_store.proofs.relay.take_in.Goals as goal

pub take_list-requires : goal.take_list-requires
take_list-requires g c =
    let list = c.list-item.result in
    let lists = c.args.lists.now in
    let first = length (all_listed (take c.lists.list-index lists)) in
    let here : StandsFrom c.lists.first list.ballots g.new.ballots =
    subst (λ first. StandsFrom first list.ballots g.new.ballots) (sym c.lists.invariant.first)
    (subst (λ all. StandsFrom first list.ballots all) (sym c.requires.1.1.1.0)
    (subst (λ (list : ListedBallots). StandsFrom first list.ballots (all_listed lists)) (sym c.list-item.is)
    (stands lists c.lists.list-index list c.lists-test.true))) in
    (c.requires.0, (c.requires.1.0, (c.requires.1.1.0, (here, c.lists.invariant.right))))

pub lists-preserved : goal.lists-preserved
lists-preserved g c =
    let before = c.lists.invariant in
    let now = c.in_ok-take_list.ensures in
    let list = c.list-item.result in
    record {
      first =
          omega (
            arith,
            ap (λ (list : ListedBallots). length list.ballots) c.list-item.is,
            length-one_more c.args.lists.now c.lists.list-index list c.lists-test.true,
            before.first,
            c.len-count.ensures.count,
          );
      right = now.right;
      sought = λ k lt.
          ⊎_elim
          (λ (early : k < c.lists.first). λ cell same. now.still cell (before.sought k early cell same))
          (λ (later : c.lists.first ≤ k). now.sought k later (omega (arith, lt, c.len-count.ensures.count)))
          (cases_lt k c.lists.first);
      bytes = now.bytes ∙ before.bytes;
    }

pub returns-clause-sought : goal.returns-clause-sought
returns-clause-sought g c k lt =
    let all = take_all c.lists.list-index c.args.lists.now (omega arith) in
    c.lists.invariant.sought k
    (omega (arith, lt, ap length c.requires.1.1.1.0, c.lists.invariant.first, ap (λ lists. length (all_listed lists)) all))

pub overflow_add-first : goal.overflow_add-first
overflow_add-first g c =
    let list = c.list-item.result in
    let here = stands c.args.lists.now c.lists.list-index list c.lists-test.true in
    omega (
      arith,
      ap (λ (list : ListedBallots). length list.ballots) c.list-item.is,
      here.within,
      c.requires.1.1.0.few,
      ap length c.requires.1.1.1.0,
      c.lists.invariant.first,
      c.len-count.ensures.count,
    )
