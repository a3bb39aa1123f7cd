-- The first place at which two lists of bytes differ.
use Rattle.std.specs.Prelude.{◌≡◌, ◌≢◌, ℕ, List, take, slice_index, Option, Some, None}

-- they differ at this place, and at none before it
pub record DiffersFirstAt (place : ℕ) (xs ys : List ℕ) : Type 0 where
  pub before : take place xs ≡ take place ys
  pub here : slice_index xs place ≢ slice_index ys place

-- they differ there first, or they are the same
abbrev pub IsFirstDifference : List ℕ → List ℕ → Option ℕ → Type 0
IsFirstDifference xs ys None = xs ≡ ys
IsFirstDifference xs ys (Some place) = DiffersFirstAt place xs ys
