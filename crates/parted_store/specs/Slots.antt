-- The disks of a store in parts: the first one and a list of further ones, each as a disk of all of them.
use Rattle.std.specs.Prelude.{ℕ, zero, suc, List, Option, None, Some, slice_get}
use Rattle.any_store.specs.Disks.{StoreDisks}
use Rattle.any_store.specs.Disks.StoreDisks.{Parted}
use Rattle.store_spec.specs.Disk.{DiskModel}
use Rattle.store_spec.specs.Parts.{share}

-- a disk of a state in which it stands
abbrev pub along : {S D : Type 0} → DiskModel D → (S → D) → DiskModel S
along model at = record {
  seen = λ state. model.seen (at state);
  calls = λ state. model.calls (at state);
  may_leave = λ state. model.may_leave (at state);
  faults = λ state. model.faults (at state);
}

-- ---- a place in a list, at which there may be no disk

abbrev pub seen_in : {D : Type 0} → (D → Option (List ℕ)) → Option D → Option (List ℕ)
seen_in seen None = None
seen_in seen (Some disk) = seen disk

abbrev pub slot_count : {D : Type 0} → (D → ℕ) → Option D → ℕ
slot_count count None = 0
slot_count count (Some disk) = count disk

abbrev pub leaves_in : {D : Type 0} → (D → ℕ → List ℕ → Type 0) → Option D → ℕ → List ℕ → Type 0
leaves_in may_leave None m image = ⊥
leaves_in may_leave (Some disk) m image = may_leave disk m image

-- the disk there, and where there is none one without bytes and calls
abbrev pub slot_model : {D : Type 0} → DiskModel D → DiskModel (Option D)
slot_model model = record {
  seen = seen_in model.seen;
  calls = slot_count model.calls;
  may_leave = leaves_in model.may_leave;
  faults = slot_count model.faults;
}

-- ---- all disks

-- disk i of the first one and the further ones
abbrev pub models_of : {A B : Type 0} → DiskModel A → DiskModel B → ℕ → DiskModel (A × List B)
models_of first further zero = along first (λ disks. disks.0)
models_of first further (suc i) = along (slot_model further) (λ disks. slice_get disks.1 i)

-- so many further ones, each with its part's share
abbrev pub parted_disks : {A B : Type 0} → DiskModel A → DiskModel B → ℕ → ℕ → StoreDisks (A × List B)
parted_disks first further bits more = Parted more (models_of first further) (share bits)
