-- Phases as machines: some that step, one at a time, until nobody has anything left to do.
use Rattle.std.specs.Prelude.{ℕ, ◌+◌, ◌*◌, ◌^◌, ◌<◌, ◌≤◌, List, [], ◌∷◌, length, replicate, All, slice_get}
use Rattle.std.specs.Option.{option_map_or}
use Rattle.std.specs.List.Sorted.{IsNonDecreasing}
use Rattle.step_core.specs.Casting as casting
use Rattle.step_core.specs.CastingInvariant as casting_kept
use Rattle.step_core.specs.Casting.{Casting}
use Rattle.step_core.specs.Withdrawing as withdrawing
use Rattle.step_core.specs.WithdrawingInvariant as withdrawing_kept
use Rattle.step_core.specs.Schedule.{Follows}
use Rattle.step_core.specs.Withdrawing.{Withdrawing}
use Rattle.store_spec.specs.Election.{most_ballots}

-- one of them steps so many times
abbrev pub StepsOn : {C : Type 0} → (C → ℕ → C → Type 0) → (C → ℕ → Type 0) → C → ℕ → C → Type 0
StepsOn Steps IsDone c id end = (count : ℕ) × Follows Steps IsDone c (replicate count id) end

-- they step in ascending order
pub record InTurn {C : Type 0} (Steps : C → ℕ → C → Type 0) (IsDone : C → ℕ → Type 0) (c end : C) : Type 0 where
  pub rounds : List ℕ
  pub ascending : IsNonDecreasing rounds
  pub follows : Follows Steps IsDone c rounds end

-- ---- how much is left to do

-- a list of numbers as one, of which an earlier one counts more
abbrev pub number_of : ℕ → List ℕ → ℕ
number_of base [] = 0
number_of base (n ∷ ns) = n * base ^ length ns + number_of base ns

-- more than any number of a measure
abbrev pub measure_base : ℕ
measure_base = 2 ^ 65

abbrev pub cast_work : Casting → ℕ → ℕ
cast_work c id = option_map_or (λ tab. number_of measure_base (casting_kept.tab_measure (casting.table_in c) tab)) (slice_get c.tabs id) 0

abbrev pub withdraw_work : Withdrawing → ℕ → ℕ
withdraw_work w id = option_map_or (λ tab. number_of measure_base (withdrawing_kept.tab_measure (withdrawing.count_in w) tab)) (slice_get w.tabs id) 0

-- ---- what holds between two steps

abbrev pub IsShort : ℕ → Type 0
IsShort n = n < 2 ^ 64

pub record IsShortTab (tab : casting.Tabulator) : Type 0 where
  pub answered : All (λ a. IsShort a.number) tab.answers
  pub left : All IsShort tab.left

pub record IsShortCasting (c : Casting) : Type 0 where
  pub holds : casting_kept.IsCasting c
  pub limit : c.limit ≤ most_ballots
  pub base : All IsShort c.base
  pub tabs : All IsShortTab c.tabs

pub record IsShortWithdrawing (w : Withdrawing) : Type 0 where
  pub holds : withdrawing_kept.IsWithdrawing w
  pub limit : w.limit ≤ most_ballots
  pub held : All IsShort w.held
