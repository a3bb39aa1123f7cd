-- The places of a list that begins with a range.
use Rattle.std.proofs.Common.{◌≡◌, ◌≢◌, ℕ, zero, suc, ◌+◌, ◌-◌, ◌/◌, ◌<◌, ◌≤◌, List, ◌++◌, map, Some, refl, ap, ◌∙◌, arith}
use Rattle.std.specs.List.{range_with_len, slice_get}
use Rattle.script_lines.specs.Parts.{casting_parts, closing_parts, withdrawing_parts}
use Rattle.script_lines.specs.declared.part.Part.TheVariants.{Cast, Withdraw}

-- a place within the range
pub in_range : {X : Type 0} (f : ℕ → X) (a n i j : ℕ) (rest : List X) → i < n → a + i ≡ j → slice_get (map f (range_with_len a n) ++ rest) i ≡ Some (f j)
in_range f a zero i j rest within is = absurd (omega arith)
in_range f a (suc n) zero j rest within is = let same : a ≡ j = omega arith in ap (λ k. Some (f k)) same
in_range f a (suc n) (suc i) j rest within is = in_range f (a + 1) n i j rest (omega arith) (omega arith)

-- a place behind it
pub behind_range : {X : Type 0} (f : ℕ → X) (a n i k : ℕ) (rest : List X) → n + k ≡ i → slice_get (map f (range_with_len a n) ++ rest) i ≡ slice_get rest k
behind_range f a zero i k rest is = let same : i ≡ k = omega arith in ap (slice_get rest) same
behind_range f a (suc n) zero k rest is = absurd (omega arith)
behind_range f a (suc n) (suc i) k rest is = behind_range f (a + 1) n i k rest (omega arith)

-- ---- the parts of the generated script

-- one of the numbers that are withdrawn, and what is behind them
pub tenth_at : (before tenths : ℕ) → before ≢ 0 → before ≢ 1 → before - 2 < tenths → slice_get (withdrawing_parts tenths) before ≡ Some (Withdraw (before - 2 + 1))
tenth_at zero tenths some more within = absurd (some refl)
tenth_at (suc zero) tenths some more within = absurd (more refl)
tenth_at (suc (suc k)) tenths some more within = in_range Withdraw 1 tenths k (suc (suc k) - 2 + 1) closing_parts (omega arith) (omega arith)

pub behind_tenths : (before tenths : ℕ) → before ≢ 0 → before ≢ 1 → tenths ≤ before - 2 → slice_get (withdrawing_parts tenths) before ≡ slice_get closing_parts (before - 2 - tenths)
behind_tenths zero tenths some more within = absurd (some refl)
behind_tenths (suc zero) tenths some more within = absurd (more refl)
behind_tenths (suc (suc k)) tenths some more within = behind_range Withdraw 1 tenths k (suc (suc k) - 2 - tenths) closing_parts (omega arith)

-- one of the ballots, and what is behind them, by the line's index
pub ballot_at : (index ballots : ℕ) → 1 ≤ index → index ≢ 1 → index - 2 < ballots → slice_get (casting_parts ballots) (index - 1) ≡ Some (Cast (index - 2 + 1))
ballot_at zero ballots some more within = absurd (omega arith)
ballot_at (suc k) ballots some more within = ap (slice_get (casting_parts ballots)) (omega arith) ∙ at k (omega arith) (omega arith)
  where
    at : (k : ℕ) → k ≢ 0 → k - 1 < ballots → slice_get (casting_parts ballots) k ≡ Some (Cast (suc k - 2 + 1))
    at zero none inside = absurd (none refl)
    at (suc i) none inside = in_range Cast 1 ballots i (suc (suc i) - 2 + 1) (withdrawing_parts (ballots / 10)) (omega arith) (omega arith)

pub behind_ballots : (index ballots : ℕ) → 1 ≤ index → index ≢ 1 → ballots ≤ index - 2
    → slice_get (casting_parts ballots) (index - 1) ≡ slice_get (withdrawing_parts (ballots / 10)) (index - 2 - ballots)
behind_ballots zero ballots some more behind = absurd (omega arith)
behind_ballots (suc k) ballots some more behind = ap (slice_get (casting_parts ballots)) (omega arith) ∙ at k (omega arith) (omega arith)
  where
    at : (k : ℕ) → k ≢ 0 → ballots ≤ k - 1 → slice_get (casting_parts ballots) k ≡ slice_get (withdrawing_parts (ballots / 10)) (suc k - 2 - ballots)
    at zero none past = absurd (none refl)
    at (suc i) none past = behind_range Cast 1 ballots i (suc (suc i) - 2 - ballots) (withdrawing_parts (ballots / 10)) (omega arith)
