use Rattle.std.proofs.Common.{◌≡◌, take}
use Rattle.store_spec.proofs.Common.{numbers_of}
use Rattle.ballot_record.proofs.list.BallotList.numbers.Given as goal

-- the numbers so far
abbrev pub invariant-places : goal.invariant-places
invariant-places l = l.numbers.items ≡ take l.place (numbers_of l.self.ballots)
