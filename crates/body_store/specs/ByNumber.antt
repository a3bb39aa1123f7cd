-- Ballots in ascending order of their numbers.
use Rattle.std.specs.Prelude.{◌≢◌, nat_le, All, AllPairs, if◌then◌else◌, List, [], ◌∷◌}
use Rattle.store_spec.specs.Ballot.{Ballot}

abbrev pub put_by_number : Ballot → List Ballot → List Ballot
put_by_number b [] = b ∷ []
put_by_number b (x ∷ xs) = if nat_le b.number x.number then b ∷ x ∷ xs else x ∷ put_by_number b xs

abbrev pub by_number : List Ballot → List Ballot
by_number [] = []
by_number (b ∷ ballots) = put_by_number b (by_number ballots)

-- each ballot has a number of its own
pub record AreNumbered (ballots : List Ballot) : Type 0 where
  pub some : All (λ b. b.number ≢ 0) ballots
  pub distinct : AllPairs (λ a b. a.number ≢ b.number) ballots
