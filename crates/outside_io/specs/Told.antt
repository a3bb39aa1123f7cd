-- What an object outside tells of its bytes: a source of those that it has left, a sink of those that it has taken, a
-- disk of those that it holds. It may tell none.
use Rattle.std.specs.Prelude.{◌≡◌, List, ℕ, Option, Some, is_some}

-- Bytes are told before and after, or neither time. Where they are told, the bytes before and those after are related.
pub record IfTold (before now : Option (List ℕ)) (Related : List ℕ → List ℕ → Type 0) : Type 0 where
  pub told : is_some now ≡ is_some before
  pub related : (x y : List ℕ) → before ≡ Some x → now ≡ Some y → Related x y

-- the same of an object before and after, and of what it tells
abbrev pub AsTold : {X : Type 0} → (X → Option (List ℕ)) → X → X → (List ℕ → List ℕ → Type 0) → Type 0
AsTold tells old new Related = IfTold (tells old) (tells new) Related
