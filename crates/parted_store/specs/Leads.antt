-- What calls on the disks of a store in parts lead to, for whoever gets the disks back.
use Rattle.std.specs.Prelude.{◌≡◌, ◌≢◌, ◌⊎◌, ℕ, ◌≤◌, List, Option, Some}
use Rattle.std.specs.List.{AllZip}
use Rattle.store_spec.specs.Disk.{DiskModel}
use Rattle.store_spec.specs.Fault.{Rose}
use base.Fml.{GName}

-- the first disk and the further ones, the names of the references to them, and the part whose checkpoint failed last
pub record PartsState (A B : Type 0) : Type 0 where
  pub disks : A × List B
  pub first_name : GName
  pub more_name : GName
  pub failed : Option ℕ

-- the disk of this part is told, and its count of faults rose
pub record Blames {D : Type 0} (last : ℕ) (models : ℕ → DiskModel D) (failed : Option ℕ) (old new : D) (i : ℕ)
    : Type 0 where
  pub within : i ≤ last
  pub told : failed ≡ Some i
  pub rose : Rose ((models i).faults old) ((models i).faults new)

-- Each disk was led on, and they are the disks of the same references. No count of faults fell, and no other part is
-- told than before, but for one whose count rose.
pub record PartsLead {A B : Type 0} (last : ℕ) (models : ℕ → DiskModel (A × List B)) (first_leads : A → A → Type 0)
    (further_leads : B → B → Type 0) (old new : PartsState A B) : Type 0 where
  pub same_first : new.first_name ≡ old.first_name
  pub same_more : new.more_name ≡ old.more_name
  pub first : first_leads old.disks.0 new.disks.0
  pub more : AllZip further_leads old.disks.1 new.disks.1
  pub faults : (i : ℕ) → i ≤ last → (models i).faults old.disks ≤ (models i).faults new.disks
  pub told : (new.failed ≡ old.failed) ⊎ ((i : ℕ) × Blames last models new.failed old.disks new.disks i)

-- a call failed on the disk of the part that is told, and on no other
pub record PartFails {D : Type 0} (last : ℕ) (models : ℕ → DiskModel D) (failed : Option ℕ) (old new : D) (i : ℕ)
    : Type 0 where
  pub blamed : Blames last models failed old new i
  pub others : (j : ℕ) → j ≤ last → j ≢ i → (models j).faults new ≡ (models j).faults old

-- on one of them
abbrev pub OnePartFails : {D : Type 0} → ℕ → (ℕ → DiskModel D) → Option ℕ → D → D → Type 0
OnePartFails last models failed old new = (i : ℕ) × PartFails last models failed old new i
