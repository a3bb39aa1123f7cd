-- A schedule of those that step one after another.
use Rattle.std.specs.Prelude.{ℕ, List, [], ◌∷◌}

-- A schedule is followed: at each of its places one makes a step, or has nothing left to do and all stays.
pub data Follows {C : Type 0} (Steps : C → ℕ → C → Type 0) (IsDone : C → ℕ → Type 0) : C → List ℕ → C → Type 0 where
  ended : (c : C) → Follows Steps IsDone c [] c
  goes : (c next end : C) (id : ℕ) (ids : List ℕ) → Steps c id next → Follows Steps IsDone next ids end → Follows Steps IsDone c (id ∷ ids) end
  rests : (c end : C) (id : ℕ) (ids : List ℕ) → IsDone c id → Follows Steps IsDone c ids end → Follows Steps IsDone c (id ∷ ids) end
