use Rattle.std.proofs.Common.{sym, ◌∙◌}
use Rattle.ballot_record.proofs.BallotSets.{listing_of_set}
use Rattle.body_store.proofs.Listings.{image_of-IsPermutation}
use Rattle.image_builder.proofs.write.image.Goals as goal

pub returns-clause-any_order : goal.returns-clause-any_order
returns-clause-any_order c ballots order =
    let store = c.args.closed.now in
    c.in_ok-from_slice.ensures.items ∙ c.image.ensures.image
    ∙ sym (image_of-IsPermutation store.election ballots store.ballots (listing_of_set store.election ballots store.ballots order c.image.ensures.stored.set).distinct order)
