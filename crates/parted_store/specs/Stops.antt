-- The checkpoints of further disks, one after another: the part of disk i of the list is i + 1.
use Rattle.std.specs.Prelude.{◌≡◌, ℕ, ◌+◌, ◌<◌, List, [], get_or, length, slice_get}
use Rattle.any_store.specs.Checkpointed.{Checkpointed, FailedOn}
use Rattle.parted_store.specs.Slots.{slot_model}
use Rattle.store_spec.specs.Ballot.{Ballot}
use Rattle.store_spec.specs.Disk.{DiskModel}
use Rattle.store_spec.specs.Election.{Election}

-- each of so many became the medium of the set of its part
abbrev pub AreRenewed : {D : Type 0} → DiskModel D → Election → List (List Ballot) → ℕ → List D → List D → Type 0
AreRenewed model e sets count old new =
    (i : ℕ) → i < count
    → Checkpointed (slot_model model) e (get_or sets (i + 1) []) (slice_get old i) (slice_get new i)

-- it failed on this one: each before it became the medium of its part, and those behind it are as they were
pub record StopsAtPart {D : Type 0} (model : DiskModel D) (e : Election) (sets : List (List Ballot)) (old new : List D)
    (i : ℕ) : Type 0 where
  pub within : i < length old
  pub done : AreRenewed model e sets i old new
  pub failed : FailedOn (slot_model model) e (get_or sets (i + 1) []) (slice_get old i) (slice_get new i)
  pub rest : (j : ℕ) → i < j → slice_get new j ≡ slice_get old j
