-- What the command `audit` makes of a disk. `old` and `new` are the sink before and after, and `before` and `after` the
-- disk.
use Rattle.std.specs.Prelude.{◌≡◌, ℕ, List, codes, true, false}
use Rattle.audit_medium.specs.Audited.{DiffersAt, IsAudited}
use Rattle.audit_medium.specs.declared.finding.Audit.{Audit}
use Rattle.audit_medium.specs.declared.finding.Audit.TheVariants.{Canonical, Differs}
use Rattle.medium_commands.specs.Init.{LeavesBytes}
use Rattle.run_outcome.specs.declared.status.Status.{Status}
use Rattle.run_outcome.specs.declared.status.Status.TheVariants as status
use Rattle.outside_io.specs.Outside.{Output}
use Rattle.run_outcome.specs.Row.{Content, HoldsAny, Row, TakesNone}
use Rattle.run_outcome.specs.World.{Reported, World}
use Rattle.outside_io.specs.Stream.{TakesAll, TakesSome}
use Rattle.recovery.specs.ReadsOnly.{ReadsOnly, WritesNothing}
use Rattle.recovery.specs.Refused.{IsRefusedMedium}
use Rattle.recovery.specs.declared.fault.RecoverFault.{RecoverFault}
use Rattle.recovery.specs.declared.fault.RecoverFault.TheVariants as faults
use Rattle.store_spec.specs.Ballot.{Ballot}
use Rattle.store_spec.specs.Disk.{DiskModel, IsSettled}
use Rattle.store_spec.specs.Election.{Election}
use Rattle.store_spec.specs.Fault.{Rose}
use Rattle.store_spec.specs.Medium.{IsMediumOf}
use Rattle.store_spec.specs.Session.{counted}

-- the line that tells what was found
abbrev pub finding_text : Audit → List ℕ
finding_text (Canonical held) = counted (codes "canonical") held
finding_text (Differs place) = counted (codes "differs") place

-- the status of what was found
abbrev pub finding_status : Audit → Status
finding_status (Canonical held) = status.Ok
finding_status (Differs place) = status.NotCanonical place

-- this was found in the bytes of the disk
abbrev pub AuditFinds : {D : Type 0} → DiskModel D → Election → Audit → D → D → Type 0
AuditFinds model e found before after = LeavesBytes model before after (λ bytes. IsAudited e bytes found)

-- no set was read from them, for this reason
abbrev pub FindsNone : {D : Type 0} → DiskModel D → Election → RecoverFault → D → D → Type 0
FindsNone model e why before after = LeavesBytes model before after (λ bytes. IsRefusedMedium e bytes why)

-- this was found, and the sink took the line that tells it
pub record WritesFinding {K D : Type 0} (model : DiskModel D) (e : Election) (found : Audit) (old new : Output K) (before after : D) : Type 0 where
  pub finds : AuditFinds model e found before after
  pub line : TakesAll old.taken (finding_text found) new.taken
  pub no_fault : new.faults ≡ old.faults

-- What becomes of the sink where a run of `audit` ends so, and why it does. A medium that differs is told by the line
-- and then by the status.
abbrev pub AuditWrites : {K D : Type 0} → DiskModel D → Election → Status → Output K → Output K → D → D → Type 0
AuditWrites model e status.Ok old new before after = (held : ℕ) × WritesFinding model e (Canonical held) old new before after
AuditWrites model e (status.NotCanonical place) old new before after = WritesFinding model e (Differs place) old new before after
AuditWrites model e status.WriteFault old new before after =
    (found : Audit) × AuditFinds model e found before after
    × TakesSome old.taken (finding_text found) new.taken × Rose old.faults new.faults
AuditWrites model e status.NoStore old new before after = FindsNone model e faults.NoStore before after × (new ≡ old)
AuditWrites model e (status.OtherElection header) old new before after = FindsNone model e (faults.OtherElection header) before after × (new ≡ old)
AuditWrites model e (status.Damaged cell) old new before after = FindsNone model e (faults.Damaged cell) before after × (new ≡ old)
AuditWrites model e status.DiskFault old new before after = Rose (model.faults before) (model.faults after) × (new ≡ old)
AuditWrites model e status.Memory old new before after = (model.faults after ≡ model.faults before) × (new ≡ old)
AuditWrites model e other old new before after = ⊥

-- All that a run of `audit` promises under an election. Nothing is written to the disk: a read gives what it gave, and a
-- crash leaves what it might have left before; of a settled disk, what a read gives.
pub record AuditEnds {K D : Type 0} (model : DiskModel D) (e : Election) (status : Status) (old new : Output K) (before after : D) : Type 0 where
  pub tells : AuditWrites model e status old new before after
  pub writes_nothing : WritesNothing model.seen model.calls model.may_leave before after
  pub settled : IsSettled model.seen model.calls model.may_leave before → ReadsOnly model.seen model.calls model.may_leave before after

-- ---- the row

-- an audit ends well where the bytes are the medium of the set that they hold, and else tells the first place that
-- differs
abbrev pub AuditAnswers : Election → Content → Status → Type 0
AuditAnswers e content status.Ok = (set : List Ballot) × IsMediumOf e content.disk set
AuditAnswers e content (status.NotCanonical place) = DiffersAt e content.disk place
AuditAnswers e content other = ⊥

abbrev audit_ends : {S K D : Type 0} → DiskModel D → Election → Status → Reported → World S K D → World S K D → Type 0
audit_ends model e status report before after = AuditEnds model e status before.streams.sink after.streams.sink before.disk after.disk

abbrev pub audit_row : Row
audit_row = record {
  word = codes "audit";
  further = TakesNone;
  touches = record { script = false; disk = true; more = false; report = false };
  served = HoldsAny;
  done = AuditAnswers;
  ends = audit_ends;
}
