-- What stands in cells after a number was put into them.
use Rattle.std.specs.Prelude.{◌≡◌, ◌≢◌, ℕ, ◌↔◌, ◌⊎◌, List, Contains}

-- the number, and what stood in them before
abbrev pub HoldsAlso : ℕ → List ℕ → List ℕ → Type 0
HoldsAlso number before after =
    (v : ℕ) → v ≢ 0 → Contains after v ↔ (Contains before v ⊎ (v ≡ number))
