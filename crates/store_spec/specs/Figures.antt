-- Worked figures of the definitions, under the example election.
use Rattle.std.specs.Prelude.{◌≡◌, ℕ, ◌+◌, ◌*◌, ◌^◌, [], ◌∷◌, ◌++◌, replicate, codes}
use Rattle.store_spec.specs.Ballot.{Ballot}
use Rattle.store_spec.specs.Election.{Election, example, example_in, cell_count, cell_size, bank_size, medium_size}
use Rattle.store_spec.specs.Home.{home_of}
use Rattle.store_spec.specs.Image.{ballot_bytes, image_of}
use Rattle.store_spec.specs.Input.{lines_of}
use Rattle.store_spec.specs.Layout.{layout_of}
use Rattle.store_spec.specs.Medium.{bank_place, gate_place}
use Rattle.store_spec.specs.Medium.Bank.{A, B}

pub record ExampleHomes : Type 0 where
  pub of_5 : home_of 3 0 5 ≡ 0
  pub of_2 : home_of 3 0 2 ≡ 1
  pub of_greatest : home_of 3 0 18446744073709551615 ≡ 3
  pub of_1 : home_of 3 0 1 ≡ 4
  pub of_9 : home_of 3 0 9 ≡ 4
  pub of_17 : home_of 3 0 17 ≡ 4
  pub of_22 : home_of 3 0 22 ≡ 4
  pub of_6 : home_of 3 0 6 ≡ 5
  pub of_14 : home_of 3 0 14 ≡ 5

-- cells, and bytes of a cell, a bank and a medium
pub record ExampleSizes : Type 0 where
  pub cells : cell_count example ≡ 16
  pub cell : cell_size example ≡ 17
  pub bank : bank_size example ≡ 304
  pub medium : medium_size example ≡ 610

-- the same in version 2
pub record ExampleSizesInVersionTwo : Type 0 where
  pub cells : cell_count (example_in 2) ≡ 16
  pub cell : cell_size (example_in 2) ≡ 25
  pub bank : bank_size (example_in 2) ≡ 432
  pub medium : medium_size (example_in 2) ≡ 866

-- where the banks and the gates of its medium stand
pub record ExamplePlaces : Type 0 where
  pub bank_a : bank_place example A ≡ 0
  pub bank_b : bank_place example B ≡ 304
  pub gate_a : gate_place example A ≡ 608
  pub gate_b : gate_place example B ≡ 609

-- cells 4 = 9, 5 = 14 and 6 = 1, and all others empty
pub record ExampleLayout : Type 0 where
  pub is : layout_of (home_of 3 0) 16 (1 ∷ 9 ∷ 14 ∷ [])
      ≡ 0 ∷ 0 ∷ 0 ∷ 0 ∷ 9 ∷ 14 ∷ 1 ∷ 0 ∷ 0 ∷ 0 ∷ 0 ∷ 0 ∷ 0 ∷ 0 ∷ 0 ∷ 0 ∷ []

-- a ballot of style 1, with these marks in the two contests of the example
abbrev pub example_ballot : ℕ → ℕ → ℕ → Ballot
example_ballot number first second = record {
  number = number;
  style = 1;
  marks = first ∷ second ∷ replicate 22 0;
}

-- ballot 9 marks choice 1 of contest 1, ballot 14 choice 2 of contest 2, and ballot 1 choice 2 and choices 1 and 3
pub record ExampleImage : Type 0 where
  pub is : image_of example
      (example_ballot 9 1 0 ∷ example_ballot 14 0 2 ∷ example_ballot 1 2 5 ∷ [])
      ≡ codes "HIBSTORE" ++ 0 ∷ 1 ∷ 3 ∷ 2 ∷ 0 ∷ 0 ∷ 0 ∷ 8 ∷ replicate (16 + 4 * 17) 0
      ++ replicate 7 0 ++ 9 ∷ 1 ∷ 0 ∷ 0 ∷ 0 ∷ 1 ∷ 0 ∷ 0 ∷ 0 ∷ 0
      ∷ replicate 7 0 ++ 14 ∷ 1 ∷ 0 ∷ 0 ∷ 0 ∷ 0 ∷ 0 ∷ 0 ∷ 0 ∷ 2
      ∷ replicate 7 0 ++ 1 ∷ 1 ∷ 0 ∷ 0 ∷ 0 ∷ 2 ∷ 0 ∷ 0 ∷ 0 ∷ 5 ∷ replicate (9 * 17) 0

-- the same ballots in version 2, where a mark set has eight bytes
pub record ExampleImageInVersionTwo : Type 0 where
  pub is : image_of (example_in 2)
      (example_ballot 9 1 0 ∷ example_ballot 14 0 2 ∷ example_ballot 1 2 5 ∷ [])
      ≡ codes "HIBSTORE" ++ 0 ∷ 2 ∷ 3 ∷ 2 ∷ 0 ∷ 0 ∷ 0 ∷ 8 ∷ replicate (16 + 4 * 25) 0
      ++ replicate 7 0 ++ 9 ∷ 1 ∷ replicate 7 0 ++ 1 ∷ replicate 8 0
      ++ replicate 7 0 ++ 14 ∷ 1 ∷ replicate 8 0 ++ replicate 7 0 ++ 2
      ∷ replicate 7 0 ++ 1 ∷ 1 ∷ replicate 7 0 ++ 2 ∷ replicate 7 0 ++ 5 ∷ replicate (9 * 25) 0

-- a contest of 64 choices in version 2, and the cell of a ballot that marks the last of them
abbrev pub wide_election : Election
wide_election = record {
  version = 2;
  contests = record { choices = 64; allowed = 1 } ∷ [];
  styles = 1 ∷ [];
  limit = 1;
  bits = 0;
  salt = 0;
}

pub record ExampleWideCell : Type 0 where
  pub medium : medium_size wide_election ≡ 134
  pub cell : ballot_bytes wide_election
      (record { number = 7; style = 1; marks = 2 ^ 63 ∷ replicate 23 0 })
      ≡ replicate 7 0 ++ 7 ∷ 1 ∷ 128 ∷ replicate 7 0

-- the lines `a`, `bc`, an empty one, and `d`, which has no end
pub record ExampleLines : Type 0 where
  pub is : lines_of (97 ∷ 10 ∷ 98 ∷ 99 ∷ 10 ∷ 10 ∷ 100 ∷ [])
      ≡ (97 ∷ []) ∷ (98 ∷ 99 ∷ []) ∷ [] ∷ (100 ∷ []) ∷ []
