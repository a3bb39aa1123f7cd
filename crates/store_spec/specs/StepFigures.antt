-- Worked figures of the steps of casting, under the example election: 16 cells and 8 claim words.
use Rattle.std.specs.Prelude.{◌≡◌, [], ◌∷◌}
use Rattle.store_spec.specs.CastStep.{CastRow, Table, claim_place}
use Rattle.store_spec.specs.CastStep.CastNote.{Quiet, Claimed, Placed}
use Rattle.store_spec.specs.CastStep.CastState.{Rest, Probing, Carrying, Ready}
use Rattle.store_spec.specs.Home.{home_of}
use Rattle.store_spec.specs.Phase.{CastOutcome}
use Rattle.store_spec.specs.Phase.Met.{Held, Accepted, Taken, Full}

abbrev pub example_table : Table
example_table = record { home = home_of 3 0; cells = 16; claims = 8 }

-- the order in which the claim words of 14 are tried
pub record ExampleClaims : Type 0 where
  pub first : claim_place 14 0 8 ≡ 6
  pub second : claim_place 14 1 8 ≡ 7
  pub third : claim_place 14 2 8 ≡ 0
  pub last : claim_place 14 7 8 ≡ 5

-- Two tabulators, of which one casts 1 and the other 9, whose homes are 4 and whose first claim words are the same. The
-- lower number is placed first and displaced.
pub record ExampleRace : Type 0 where
  pub one_claims : CastRow example_table (Probing 1 0) 17 0 1 (Carrying 1 4) Claimed
  pub nine_passes : CastRow example_table (Probing 9 0) 17 1 1 (Probing 9 1) Quiet
  pub nine_claims : CastRow example_table (Probing 9 1) 18 0 9 (Carrying 9 4) Claimed
  pub one_looks : CastRow example_table (Carrying 1 4) 4 0 0 (Ready 1 4 0) Quiet
  pub nine_looks : CastRow example_table (Carrying 9 4) 4 0 0 (Ready 9 4 0) Quiet
  pub one_wins : CastRow example_table (Ready 1 4 0) 4 0 1 Rest Placed
  pub nine_loses : CastRow example_table (Ready 9 4 0) 4 1 1 (Ready 9 4 1) Quiet
  pub nine_wins : CastRow example_table (Ready 9 4 1) 4 1 9 (Carrying 1 5) Quiet

-- A set of 9 that may hold one more: of two lists one casts 9 and 1, and the other 1 and 5. Each gets its answer.
pub record ExampleOutcome : Type 0 where
  pub is : CastOutcome 2 (9 ∷ [])
      ((record { number = 9; met = Held } ∷ record { number = 1; met = Accepted } ∷ [])
      ∷ (record { number = 1; met = Taken } ∷ record { number = 5; met = Full } ∷ []) ∷ [])
      (1 ∷ 9 ∷ [])
