-- The calls of further disks at the marks of a session.
use Rattle.std.specs.Prelude.{◌≡◌, ◌⊎◌, ℕ, List, [], ◌∷◌, ◌++◌, map, Option, Vec}
use Rattle.std.specs.declared.alloc.Global.{Global}
use Rattle.any_store.specs.Beside.{calls_beside, row_beside}
use Rattle.any_store.specs.Disks.{StoreDisks}

-- one list for each mark
abbrev pub AreBeside : Option (ℕ × ℕ) → List ℕ → List (Vec ℕ Global) → Type 0
AreBeside begun marks others = map (λ list. list.items) others ≡ map (calls_beside begun) marks

-- a mark more was made, or none
abbrev pub IsOneMore : List ℕ → List ℕ → Type 0
IsOneMore marks now = (now ≡ marks) ⊎ ((mark : ℕ) × (now ≡ marks ++ mark ∷ []))

-- no mark was made, and no row added; or one was, and the row that stands beside it now
abbrev pub AddsRow : {D : Type 0} → StoreDisks D → D → Option (ℕ × ℕ) → List ℕ → List ℕ → List (List ℕ) → List (List ℕ)
    → Type 0
AddsRow disks now begun marks marks_now rows rows_now =
    ((marks_now ≡ marks) × (rows_now ≡ rows))
    ⊎ ((mark : ℕ) × (marks_now ≡ marks ++ mark ∷ []) × (rows_now ≡ rows ++ row_beside disks now begun mark ∷ []))
