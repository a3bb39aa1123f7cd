-- What a crash may leave of a byte that was written over.
use Rattle.std.specs.Prelude.{◌≡◌, ℕ, List, [], ◌∷◌}
use Rattle.crash_disk.specs.History.{left_at}
use Rattle.crash_disk.specs.History.Event.{Wrote, Synced}

-- after the write of 167 over 0: the old byte, the new one, or any other
pub record HasThreeCrashImages : Type 0 where
  pub old : left_at (0 ∷ []) (Wrote 0 (167 ∷ []) ∷ []) 2 (0 ∷ [])
  pub new : left_at (0 ∷ []) (Wrote 0 (167 ∷ []) ∷ []) 2 (167 ∷ [])
  pub other : left_at (0 ∷ []) (Wrote 0 (167 ∷ []) ∷ []) 2 (60 ∷ [])

-- after the sync: the new byte, and nothing else
pub record HasOneCrashImage : Type 0 where
  pub new : left_at (0 ∷ []) (Wrote 0 (167 ∷ []) ∷ Synced ∷ []) 4 (167 ∷ [])
  pub only : (c : List ℕ) → left_at (0 ∷ []) (Wrote 0 (167 ∷ []) ∷ Synced ∷ []) 4 c → c ≡ 167 ∷ []
