-- A disk over two disks as its parts, and what a crash may leave of it: what it leaves of either disk.
use Rattle.std.specs.Prelude.{ℕ, ◌+◌, ◌-◌, ◌⊎◌, min, List, Option}
use Rattle.store_spec.specs.Disk.{after_calls}
use base.Fml.{GName}

-- The two disks and the names of the references to them, the counts of calls at which they began, how many calls of
-- the first came before the one that failed, the disk that failed first, and the twin's own counts.
pub record TwinState (A B : Type 0) : Type 0 where
  pub first : A
  pub second : B
  pub first_name : GName
  pub second_name : GName
  pub first_begun : ℕ
  pub second_begun : ℕ
  pub passed : ℕ
  pub failed : Option ℕ
  pub calls : ℕ
  pub faults : ℕ

-- what a crash at a moment leaves of a disk that made no more than so many calls
abbrev pub leaves_until : {D : Type 0} → (D → ℕ → List ℕ → Type 0) → D → ℕ → ℕ → List ℕ → Type 0
leaves_until may_leave disk calls m c = may_leave disk (min m (after_calls calls)) c

-- A moment of the second disk. The moments are those of the first, and both counts rose alike since the twin began.
abbrev pub second_moment : {A B : Type 0} → TwinState A B → ℕ → ℕ
second_moment twin m = m - after_calls twin.first_begun + after_calls twin.second_begun

-- What a crash at a moment may leave of the first disk or of the second. The first is also as it was before the call
-- that failed: a sync may have failed on the second disk alone, and what was not safe before it is not safe after it.
abbrev pub twin_leaves : {A B : Type 0} → (A → ℕ) → (A → ℕ → List ℕ → Type 0) → (B → ℕ) → (B → ℕ → List ℕ → Type 0) → TwinState A B → ℕ → List ℕ → Type 0
twin_leaves first_calls first_leaves second_calls second_leaves twin m c =
    leaves_until first_leaves twin.first twin.passed m c
    ⊎ (leaves_until first_leaves twin.first (first_calls twin.first) m c
    ⊎ leaves_until second_leaves twin.second (second_calls twin.second) (second_moment twin m) c)
