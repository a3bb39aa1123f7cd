-- Measures that show that steps end: lists of numbers, of which an earlier one counts more.
use Rattle.std.specs.Prelude.{◌≡◌, ℕ, ◌<◌, ◌⊎◌, List, [], ◌∷◌}

-- the first number that differs is less now than before
abbrev pub Falls : List ℕ → List ℕ → Type 0
Falls [] before = ⊥
Falls (n ∷ now) [] = ⊥
Falls (n ∷ now) (b ∷ before) = (n < b) ⊎ ((n ≡ b) × Falls now before)
