-- Worked figures of the steps of withdrawing and of the outcomes of a withdrawing phase and a finding phase, under the
-- example election: 16 cells.
use Rattle.std.specs.Prelude.{◌≡◌, ℕ, true, false, [], ◌∷◌}
use Rattle.store_spec.specs.Home.{home_of}
use Rattle.store_spec.specs.Layout.{layout_of}
use Rattle.store_spec.specs.WithdrawPhase as outcome
use Rattle.store_spec.specs.WithdrawPhase.{FindOutcome, WithdrawOutcome}
use Rattle.store_spec.specs.WithdrawPhase.WithdrawReply.{Withdrawn, Absent}
use Rattle.store_spec.specs.WithdrawStep.{FirstRow, WithdrawRow}
use Rattle.store_spec.specs.WithdrawStep.WithdrawNote.{Quiet, Begun, Done}
use Rattle.store_spec.specs.WithdrawStep.WithdrawState.{Rest, Chosen, Owing, Up, Down}

abbrev pub example_home : ℕ → ℕ
example_home = home_of 3 0

-- Two withdrawers, of which one removes 22 and the other 9. The first has seen 9 as what may fill its hole when the
-- second removes it. So 9 stands in a cell once more, and the first owes its removal.
pub record ExampleStaleCandidate : Type 0 where
  pub cells_before : layout_of example_home 16 (1 ∷ 9 ∷ 14 ∷ 22 ∷ []) ≡ 0 ∷ 0 ∷ 0 ∷ 0 ∷ 22 ∷ 14 ∷ 9 ∷ 1 ∷ 0 ∷ 0 ∷ 0 ∷ 0 ∷ 0 ∷ 0 ∷ 0 ∷ 0 ∷ []
  pub one_chooses : FirstRow example_home 22 0 (Chosen 22 4) Quiet
  pub one_begins : WithdrawRow example_home (Chosen 22 4) 4 22 22 (Owing 22 4) Begun
  pub one_finds_22 : WithdrawRow example_home (Owing 22 4) 4 22 22 (Up 22 4 5) Quiet
  pub one_passes_14 : WithdrawRow example_home (Up 22 4 5) 5 14 14 (Up 22 4 6) Quiet
  pub one_sees_9 : WithdrawRow example_home (Up 22 4 6) 6 9 9 (Down 22 4 5 9 6) Quiet
  pub one_comes_back : WithdrawRow example_home (Down 22 4 5 9 6) 5 14 14 (Down 22 4 4 9 6) Quiet
  pub two_chooses : FirstRow example_home 9 0 (Chosen 9 4) Quiet
  pub two_passes_22 : WithdrawRow example_home (Chosen 9 4) 4 22 22 (Chosen 9 5) Quiet
  pub two_passes_14 : WithdrawRow example_home (Chosen 9 5) 5 14 14 (Chosen 9 6) Quiet
  pub two_begins : WithdrawRow example_home (Chosen 9 6) 6 9 9 (Owing 9 6) Begun
  pub two_finds_9 : WithdrawRow example_home (Owing 9 6) 6 9 9 (Up 9 6 7) Quiet
  pub two_sees_1 : WithdrawRow example_home (Up 9 6 7) 7 1 1 (Down 9 6 6 1 7) Quiet
  pub two_puts_1 : WithdrawRow example_home (Down 9 6 6 1 7) 6 9 1 (Owing 1 7) Quiet
  pub two_finds_1 : WithdrawRow example_home (Owing 1 7) 7 1 1 (Up 1 7 8) Quiet
  pub two_sees_none : WithdrawRow example_home (Up 1 7 8) 8 0 0 (Down 1 7 7 0 8) Quiet
  pub two_empties : WithdrawRow example_home (Down 1 7 7 0 8) 7 1 0 Rest Done
  pub one_puts_9 : WithdrawRow example_home (Down 22 4 4 9 6) 4 22 9 (Owing 9 6) Quiet
  pub one_misses_9 : WithdrawRow example_home (Owing 9 6) 6 1 1 (Owing 9 5) Quiet
  pub one_misses_9_again : WithdrawRow example_home (Owing 9 5) 5 14 14 (Owing 9 4) Quiet
  pub one_finds_9 : WithdrawRow example_home (Owing 9 4) 4 9 9 (Up 9 4 5) Quiet
  pub one_passes_14_again : WithdrawRow example_home (Up 9 4 5) 5 14 14 (Up 9 4 6) Quiet
  pub one_sees_1 : WithdrawRow example_home (Up 9 4 6) 6 1 1 (Down 9 4 5 1 6) Quiet
  pub one_comes_back_again : WithdrawRow example_home (Down 9 4 5 1 6) 5 14 14 (Down 9 4 4 1 6) Quiet
  pub one_puts_1 : WithdrawRow example_home (Down 9 4 4 1 6) 4 9 1 (Owing 1 6) Quiet
  pub one_finds_1 : WithdrawRow example_home (Owing 1 6) 6 1 1 (Up 1 6 7) Quiet
  pub one_sees_none : WithdrawRow example_home (Up 1 6 7) 7 0 0 (Down 1 6 6 0 7) Quiet
  pub one_empties : WithdrawRow example_home (Down 1 6 6 0 7) 6 1 0 Rest Done
  pub cells_after : layout_of example_home 16 (1 ∷ 14 ∷ []) ≡ 0 ∷ 0 ∷ 0 ∷ 0 ∷ 1 ∷ 14 ∷ 0 ∷ 0 ∷ 0 ∷ 0 ∷ 0 ∷ 0 ∷ 0 ∷ 0 ∷ 0 ∷ 0 ∷ []

-- Of a set of 1, 9, 14 and 22 one list withdraws 22, 9, 9 once more and 5, which is not held.
pub record ExampleWithdrawal : Type 0 where
  pub is : WithdrawOutcome (1 ∷ 9 ∷ 14 ∷ 22 ∷ [])
      ((record { number = 22; reply = Withdrawn } ∷ record { number = 9; reply = Withdrawn }
      ∷ record { number = 9; reply = outcome.Gone } ∷ record { number = 5; reply = Absent } ∷ []) ∷ [])
      (1 ∷ 14 ∷ [])

-- In a set of 9 and 14 one list looks for 9, and another for 5 and 14.
pub record ExampleFinding : Type 0 where
  pub is : FindOutcome (9 ∷ 14 ∷ [])
      ((record { number = 9; present = true } ∷ [])
      ∷ (record { number = 5; present = false } ∷ record { number = 14; present = true } ∷ []) ∷ [])
      (9 ∷ 14 ∷ [])
