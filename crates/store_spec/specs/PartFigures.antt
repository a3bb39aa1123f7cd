-- Worked figures of a store in parts, under the example election.
use Rattle.std.specs.Prelude.{◌≡◌, List, [], ◌∷◌}
use Rattle.store_spec.specs.Ballot.{Ballot}
use Rattle.store_spec.specs.Figures.{example_ballot}
use Rattle.store_spec.specs.Parts.{part_of, share}

-- the last number of a part and the first of the next, in one, two, four and eight parts
pub record ExampleBorders : Type 0 where
  pub one : part_of 0 18446744073709551615 ≡ 0
  pub first_of_2 : part_of 1 9223372036854775807 ≡ 0
  pub second_of_2 : part_of 1 9223372036854775808 ≡ 1
  pub first_of_4 : part_of 2 4611686018427387903 ≡ 0
  pub second_of_4 : part_of 2 4611686018427387904 ≡ 1
  pub first_of_8 : part_of 3 2305843009213693951 ≡ 0
  pub second_of_8 : part_of 3 2305843009213693952 ≡ 1
  pub last_of_2 : part_of 1 18446744073709551615 ≡ 1
  pub last_of_4 : part_of 2 18446744073709551615 ≡ 3
  pub last_of_8 : part_of 3 18446744073709551615 ≡ 7

-- ballots 1, 9 and 2 ^ 64 - 1, with no marks
abbrev pub parted_set : List Ballot
parted_set = example_ballot 1 0 0 ∷ example_ballot 9 0 0 ∷ example_ballot 18446744073709551615 0 0 ∷ []

-- in two parts, the least two are in the first and the greatest in the second
pub record ExampleShares : Type 0 where
  pub first : share 1 0 parted_set ≡ example_ballot 1 0 0 ∷ example_ballot 9 0 0 ∷ []
  pub second : share 1 1 parted_set ≡ example_ballot 18446744073709551615 0 0 ∷ []
  pub whole : share 0 0 parted_set ≡ parted_set
