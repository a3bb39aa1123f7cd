-- A table whose rows have been turned into its columns.
use Rattle.std.specs.Prelude.{◌≡◌, ℕ, List, [], ◌∷◌, ◌++◌, length, map, Some, slice_get}

-- Each of so many columns is what the rows have at its place, row by row.
pub record IsTurned {X : Type 0} (places : ℕ) (rows columns : List (List X)) : Type 0 where
  pub as_many : length columns ≡ places
  pub each : (place : ℕ) (column : List X) → slice_get columns place ≡ Some column → map Some column ≡ map (λ row. slice_get row place) rows

-- columns with one row more, as far as the row goes
abbrev pub grown : {X : Type 0} → List (List X) → List X → List (List X)
grown [] row = []
grown (column ∷ columns) [] = column ∷ columns
grown (column ∷ columns) (x ∷ row) = (column ++ x ∷ []) ∷ grown columns row
