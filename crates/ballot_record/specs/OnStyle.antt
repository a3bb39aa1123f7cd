-- The contests on a style as a word, in which bit k - 1 stands for contest k.
use Rattle.std.specs.Prelude.{◌≡◌, ◌==◌, ℕ, ◌-◌, ◌<◌, ◌≤◌, length}
use Rattle.std.specs.Int.{bit_at}
use Rattle.store_spec.specs.Election.{Election, is_on_style}

abbrev pub AreOnStyle : Election → ℕ → ℕ → Type 0
AreOnStyle e style contests =
    (k : ℕ) → 1 ≤ k → is_on_style e style k ≡ (bit_at contests (k - 1) == 1)

-- no bit stands for a contest that there is not
abbrev pub AreTheirs : Election → ℕ → Type 0
AreTheirs e contests = (k : ℕ) → bit_at contests k ≡ 1 → k < length e.contests
