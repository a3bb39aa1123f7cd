-- Calls that write nothing.
use Rattle.std.specs.Prelude.{◌≡◌, ℕ, List, Option, Some}
use Rattle.store_spec.specs.Disk.{leaves_now, IsSettled, LeavesOnly}

-- A read gives what it gave, and a crash at each moment leaves what it might have left before, and nothing else.
pub record WritesNothing {D : Type 0} (seen : D → Option (List ℕ)) (calls : D → ℕ) (may_leave : D → ℕ → List ℕ → Type 0) (old new : D) : Type 0 where
  pub same_bytes : seen new ≡ seen old
  pub still : (image : List ℕ) → leaves_now calls may_leave old image → leaves_now calls may_leave new image
  pub any_moment : LeavesOnly calls may_leave old new (leaves_now calls may_leave old)

-- The same of a settled disk: a read gives what it gave, the disk is settled, and a crash at each moment leaves that
-- alone.
pub record ReadsOnly {D : Type 0} (seen : D → Option (List ℕ)) (calls : D → ℕ) (may_leave : D → ℕ → List ℕ → Type 0) (old new : D) : Type 0 where
  pub same_bytes : seen new ≡ seen old
  pub settled : IsSettled seen calls may_leave new
  pub any_moment : LeavesOnly calls may_leave old new (λ image. seen old ≡ Some image)
