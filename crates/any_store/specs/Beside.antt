-- The calls of further disks, which stand beside a mark of the first.
use Rattle.std.specs.Prelude.{◌≡◌, ◌+◌, ◌-◌, ℕ, List, [], ◌∷◌, All, length, map, min, Option, None, Some}
use Rattle.std.specs.List.{range_with_len}
use Rattle.any_store.specs.Disks.{StoreDisks}
use Rattle.any_store.specs.Disks.StoreDisks.{Alone, Parted}
use Rattle.store_spec.specs.Disk.{DiskModel}
use Rattle.store_spec.specs.Fault.{last_count}

-- Those at a mark of one disk: where it is two that were paired, the calls of the second, which rose as those of the
-- first did since.
abbrev pub calls_beside : Option (ℕ × ℕ) → ℕ → List ℕ
calls_beside None mark = []
calls_beside (Some begun) mark = min (mark - begun.0 + begun.1) last_count ∷ []

-- those of so many further disks now, in order
abbrev pub further_calls : {D : Type 0} → ℕ → (ℕ → DiskModel D) → D → List ℕ
further_calls more models now = map (λ i. (models i).calls now) (range_with_len 1 more)

-- the row that stands beside a mark that is made now
abbrev pub row_beside : {D : Type 0} → StoreDisks D → D → Option (ℕ × ℕ) → ℕ → List ℕ
row_beside (Alone model) now begun mark = calls_beside begun mark
row_beside (Parted more models parts) now begun mark = further_calls more models now

-- how many numbers it has
abbrev pub row_width : {D : Type 0} → StoreDisks D → Option (ℕ × ℕ) → ℕ
row_width (Alone model) None = 0
row_width (Alone model) (Some begun) = 1
row_width (Parted more models parts) begun = more

-- there is such a row for each mark
abbrev pub AreRows : {D : Type 0} → StoreDisks D → Option (ℕ × ℕ) → List ℕ → List (List ℕ) → Type 0
AreRows (Alone model) begun marks rows = rows ≡ map (calls_beside begun) marks
AreRows (Parted more models parts) begun marks rows =
    (length rows ≡ length marks) × All (λ row. length row ≡ more) rows
