-- Whether numbers are held.
use Rattle.std.specs.Prelude.{ℕ, Bool, List, is_some}
use Rattle.store_spec.specs.Ballot.{Ballot, ballot_of}

-- whether a ballot has this number
abbrev pub is_present : List Ballot → ℕ → Bool
is_present held number = is_some (ballot_of held number)
