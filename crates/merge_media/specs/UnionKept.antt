-- How a union is kept: the list of its ballots, and the least number in dispute.
use Rattle.std.specs.Prelude.{◌<◌, ◌^◌, AllPairs, length}
use Rattle.merge_media.specs.Union.{Joined}
use Rattle.merge_media.specs.declared.union.Union.TheInside.{Inside}

abbrev pub union_seen : Inside → Joined
union_seen a = record { election = a.ballots.election; ballots = a.ballots.ballots; dispute = a.dispute }

pub record IsUnionKept (a : Inside) : Type 0 where
  pub ascending : AllPairs (λ x y. x.number < y.number) a.ballots.ballots
  pub few : length a.ballots.ballots < 2 ^ 32
