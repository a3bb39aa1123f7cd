use Rattle.std.proofs.Common.{map, take}
use Rattle.store_spec.proofs.Common.{AllZip}
use Rattle.serde_json.specs.View.{view}
use Rattle.ballot_record.specs.Contest.{contests_of}
use Rattle.election_def.specs.Text.{IsContestIn}
use Rattle.election_def.proofs.read.contests.Given as goal

abbrev pub invariant-loop-item : goal.invariant-loop-item
invariant-loop-item l = AllZip (IsContestIn l.most) (map view (take l.item-index l.item-items)) (contests_of l.contests.items)
