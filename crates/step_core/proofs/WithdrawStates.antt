-- What holds of a withdrawer by its state, after another one has made a step.
use Rattle.std.proofs.Common.{◌≡◌, ℕ, ◌+◌, ◌<◌, ◌≤◌, List, get_or, refl, arith}
use Rattle.store_spec.proofs.Common.{Chosen, Down, IsLive, IsSound, Owing, Up, WithdrawState, WithdrawView, copies}
use Rattle.step_core.proofs.Copies.{hit_yes}
use Rattle.step_core.proofs.Debts.{chosen}
use Rattle.store_spec.specs.WithdrawInvariant.{SearchesUp, SearchesDown}
use Rattle.store_spec.specs.WithdrawStep.WithdrawState.{Rest}

-- How a step changes what the withdrawers rest on: no number comes to life, words only fall, and the lowest copy of a
-- live number does not rise.
pub record Follows (base cells : List ℕ) (views : List WithdrawView) (cells' : List ℕ) (views' : List WithdrawView) : Type 0 where
  pub live : (x : ℕ) → IsLive base views' x → IsLive base views x
  pub falls : (place : ℕ) → get_or cells' place 0 ≤ get_or cells place 0
  pub kept : (x first : ℕ) → IsLive base views' x → 0 < copies cells x first → 0 < copies cells' x first

module _ (home : ℕ → ℕ) (base cells : List ℕ) (views : List WithdrawView) (cells' : List ℕ) (views' : List WithdrawView) (h : Follows base cells views cells' views') where
  still_up : (x bound place : ℕ) → SearchesUp base cells x bound place → SearchesUp base cells' x bound place
  still_up x bound place s = record {
    owed = s.owed;
    hole = let falls = h.falls bound in let hole = s.hole in omega arith;
    above = s.above;
    within = s.within;
  }

  still_down : (x bound place c source : ℕ) → SearchesDown home base cells views x bound place c source → SearchesDown home base cells' views' x bound place c source
  still_down x bound place c source s = record {
    owed = s.owed;
    hole = let falls = h.falls bound in let hole = s.hole in omega arith;
    above = s.above;
    below = s.below;
    within = s.within;
    fits = s.fits;
    of_base = s.of_base;
    low = λ live. h.kept c (source + 1) live (s.low (h.live c live));
    overlooked = λ y live from more. h.kept y (place + 1) live (s.overlooked y (h.live y live) from more);
  }

  -- it holds on, where the number on whose walk it is lives on
  pub sound_after : (state : WithdrawState) → ((x : ℕ) → chosen state x ≡ 1 → IsLive base views x → IsLive base views' x) → IsSound home base cells views state → IsSound home base cells' views' state
  sound_after Rest lives s = s
  sound_after (Chosen x place) lives s = record { live = lives x (hit_yes x x refl) s.live; from_home = s.from_home; within = s.within }
  sound_after (Owing x bound) lives s = s
  sound_after (Up x bound place) lives s = still_up x bound place s
  sound_after (Down x bound place c source) lives s = still_down x bound place c source s
