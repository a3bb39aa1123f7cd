use Rattle.body_store.proofs.BallotSets.{cells_of-IsPermutation}
use Rattle.body_store.proofs.laws.any_listing.Goals as goal

pub returns : goal.returns
returns c = cells_of-IsPermutation
