-- What calls made on a disk do beside what they read and write.
use Rattle.std.specs.Prelude.{◌≡◌, ◌≤◌, ℕ, List, Option, is_some}

-- A disk that told its bytes tells them still, and none does that did not; the count of calls did not fall, faults were
-- counted in this way, and the calls lead from the state before to the one now.
pub record MakesCalls {D : Type 0} (seen : D → Option (List ℕ)) (calls faults : D → ℕ) (leads_to : D → D → Type 0) (Counts : ℕ → ℕ → Type 0) (old new : D) : Type 0 where
  pub told : is_some (seen new) ≡ is_some (seen old)
  pub later : calls old ≤ calls new
  pub fault : Counts (faults old) (faults new)
  pub leads : leads_to old new
