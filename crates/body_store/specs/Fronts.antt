-- Where a list stands among several.
use Rattle.std.specs.Prelude.{◌≡◌, ◌≤◌, List, length, take}
use Rattle.ballot_record.specs.BallotList.{ListedBallots}
use Rattle.body_store.specs.Contents.{all_listed}
use Rattle.body_store.specs.declared.relay.Front.{Front}

-- the ballots of the lists before this one are so many
pub record IsListStart (lists : List ListedBallots) (front : Front) : Type 0 where
  pub within : front.list ≤ length lists
  pub first : front.first ≡ length (all_listed (take front.list lists))
