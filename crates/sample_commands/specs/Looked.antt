-- What is found on a medium that is read, and not written.
use Rattle.std.specs.Prelude.{◌≡◌, List, IfSome}
use Rattle.medium_commands.specs.Audit.{FindsNone}
use Rattle.recovery.specs.declared.fault.RecoverFault.TheVariants as faults
use Rattle.run_outcome.specs.declared.status.Status.{Status}
use Rattle.run_outcome.specs.declared.status.Status.TheVariants as status
use Rattle.store_spec.specs.Ballot.{Ballot, IsBallotSet, IsWithinLimit}
use Rattle.store_spec.specs.Disk.{DiskModel}
use Rattle.store_spec.specs.Election.{Election}
use Rattle.store_spec.specs.Fault.{Rose}
use Rattle.store_spec.specs.Medium.{HoldsSet}

-- a read of the disk gives bytes that hold this set, and nothing failed
pub record ShowsSet {D : Type 0} (model : DiskModel D) (e : Election) (set : List Ballot) (before after : D) : Type 0 where
  pub is_set : IsBallotSet e set
  pub within_limit : IsWithinLimit e set
  pub held : IfSome (model.seen before) (λ bytes. HoldsSet e bytes set)
  pub no_fault : model.faults after ≡ model.faults before

-- no set was read from the disk, and with this status
abbrev pub ShowsNone : {D : Type 0} → DiskModel D → Election → Status → D → D → Type 0
ShowsNone model e status.NoStore before after = FindsNone model e faults.NoStore before after
ShowsNone model e (status.OtherElection header) before after = FindsNone model e (faults.OtherElection header) before after
ShowsNone model e (status.Damaged cell) before after = FindsNone model e (faults.Damaged cell) before after
ShowsNone model e status.DiskFault before after = Rose (model.faults before) (model.faults after)
ShowsNone model e status.Memory before after = model.faults after ≡ model.faults before
ShowsNone model e other before after = ⊥
