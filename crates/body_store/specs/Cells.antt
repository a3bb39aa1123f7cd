-- Cells, and behind them words that are 0.
use Rattle.std.specs.Prelude.{◌≡◌, ℕ, ◌-◌, ◌≤◌, List, drop, length, replicate}

-- behind so many first words each is 0
pub record HasZeros (count : ℕ) (words : List ℕ) : Type 0 where
  pub within : count ≤ length words
  pub zeros : drop count words ≡ replicate (length words - count) 0
