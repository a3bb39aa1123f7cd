-- What a line of a session acknowledges.
use Rattle.std.specs.Prelude.{◌≡◌, ℕ, List, [], ◌∷◌, ◌++◌}
use Rattle.any_store.specs.Checkpointed.{AreCheckpointed, FailsCheckpoint}
use Rattle.any_store.specs.Disks.{StoreDisks, first_of}
use Rattle.phase_gate.specs.declared.fault.SessionFault.{SessionFault}
use Rattle.phase_gate.specs.declared.fault.SessionFault.TheVariants.{DiskFault, WriteFault, Memory}
use Rattle.store_spec.specs.Ballot.{Ballot}
use Rattle.store_spec.specs.Election.{Election}

-- No set was acknowledged, and the disks and the marks are as they were. Or one was: the disks are its media, and the
-- calls made by then on the first are marked.
abbrev pub Acknowledges : {D : Type 0} → StoreDisks D → Election → List (List Ballot) → D → D → List ℕ → List ℕ → Type 0
Acknowledges disks e [] old new marks marks_now = (new ≡ old) × (marks_now ≡ marks)
Acknowledges disks e (set ∷ []) old new marks marks_now =
    AreCheckpointed disks e set old new × (marks_now ≡ marks ++ (first_of disks).calls new ∷ [])
Acknowledges disks e sets old new marks marks_now = ⊥

-- it was not acknowledged, for this reason
abbrev pub NotAcknowledged : {D : Type 0} → StoreDisks D → Election → List Ballot → D → D → SessionFault → Type 0
NotAcknowledged disks e set old new DiskFault = FailsCheckpoint disks e set old new
NotAcknowledged disks e set old new WriteFault = ⊥
NotAcknowledged disks e set old new Memory = new ≡ old
