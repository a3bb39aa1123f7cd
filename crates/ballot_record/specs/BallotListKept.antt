-- How a list of ballots is kept: the bytes of their cells, how many there are, and for how many memory was taken.
use Rattle.std.specs.Prelude.{◌≡◌, ◌-◌, ◌*◌, ◌≤◌, All, flat_map, vec_capacity}
use Rattle.ballot_record.specs.BallotList.{ListedBallots, ballots_at}
use Rattle.ballot_record.specs.declared.list.BallotList.TheInside.{Inside}
use Rattle.store_spec.specs.Ballot.{IsValid}
use Rattle.store_spec.specs.Election.{IsElection, cell_size}
use Rattle.store_spec.specs.Image.{ballot_bytes}

abbrev pub list_seen : Inside → ListedBallots
list_seen a = record {
  election = a.of.value;
  ballots = ballots_at a.of.value a.count a.bytes.items;
  room = a.places - a.count;
}

pub record IsBallotList (a : Inside) : Type 0 where
  pub election : IsElection a.of.value
  pub width : a.size ≡ cell_size a.of.value
  pub valid : All (IsValid a.of.value) (ballots_at a.of.value a.count a.bytes.items)
  pub bytes : a.bytes.items ≡ flat_map (ballot_bytes a.of.value) (ballots_at a.of.value a.count a.bytes.items)
  pub reserved : a.places * a.size ≤ vec_capacity a.bytes
