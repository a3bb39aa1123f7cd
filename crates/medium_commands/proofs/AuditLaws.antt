-- The laws of `audit`: the bytes of a disk decide how it ends, but for faults and want of memory.
use Rattle.std.proofs.Common.{◌≡◌, ◌≢◌, ◌⊎◌, ℕ, List, Some, Result, Ok, Err, inl, inr, refl, ap, sym, subst, ◌∙◌}
use Rattle.store_spec.proofs.Common.{Ballot, DiskModel, Election, HoldsSet, IsElection, MatchResult}
use Rattle.audit_medium.proofs.OneAnswer.{one_answer}
use Rattle.audit_medium.specs.Audited.{IsAudited}
use Rattle.audit_medium.specs.declared.finding.Audit.{Audit}
use Rattle.audit_medium.specs.declared.finding.Audit.TheVariants.{Canonical, Differs}
use Rattle.medium_commands.specs.Audit.{AuditAnswers, AuditEnds, audit_row, finding_status}
use Rattle.medium_commands.specs.Refused.{refused_status}
use Rattle.outside_io.specs.Outside.{Output}
use Rattle.recovery.proofs.Refusals.{refused_holds}
use Rattle.recovery.specs.Refused.{IsRefusedMedium}
use Rattle.recovery.specs.declared.fault.RecoverFault.{RecoverFault}
use Rattle.recovery.specs.declared.fault.RecoverFault.TheVariants as recover
use Rattle.run_outcome.proofs.Laws.{Laws, at_told, not_risen}
use Rattle.run_outcome.specs.Row.{Content, NothingFailed}
use Rattle.run_outcome.specs.Status.{IsDecided}
use Rattle.run_outcome.specs.World.{World}
use Rattle.run_outcome.specs.declared.status.Status.{Status}
use Rattle.run_outcome.specs.declared.status.Status.TheVariants as status

-- the status of what the medium answered
abbrev pub answered : Result Audit RecoverFault → Status
answered (Ok found) = finding_status found
answered (Err why) = refused_status why

-- the status that bytes decide, and what they answer
pub record AuditDecides (e : Election) (bytes : List ℕ) (status : Status) : Type 0 where
  pub answer : Result Audit RecoverFault
  pub is : status ≡ answered answer
  pub no_fault : answer ≢ Err recover.DiskFault
  pub memory : answer ≢ Err recover.Memory
  pub by_bytes : MatchResult answer (IsAudited e bytes) (IsRefusedMedium e bytes)

module _ (e : Election) (bytes : List ℕ) where
  found_decides : (found : Audit) → IsAudited e bytes found → AuditDecides e bytes (finding_status found)
  found_decides found one = record { answer = Ok found; is = refl; no_fault = λ is. cc; memory = λ is. cc; by_bytes = one }

  none_decides : (why : RecoverFault) → why ≢ recover.DiskFault → why ≢ recover.Memory → IsRefusedMedium e bytes why → AuditDecides e bytes (refused_status why)
  none_decides why not nor one = record { answer = Err why; is = refl; no_fault = λ is. not (let same : why ≡ recover.DiskFault = cc in same); memory = λ is. nor (let same : why ≡ recover.Memory = cc in same); by_bytes = one }

audit_decides : {K D : Type 0} (model : DiskModel D) (e : Election) (a : Status) (old new : Output K) (before after : D) (bytes : List ℕ) → model.seen before ≡ Some bytes
    → IsDecided a → AuditEnds model e a old new before after → AuditDecides e bytes a
audit_decides model e status.Ok old new before after bytes is decided ends =
    let held = ends.tells.0 in
    found_decides e bytes (Canonical held) (at_told (model.seen before) bytes (λ x. IsAudited e x (Canonical held)) is ends.tells.1.finds.why)
audit_decides model e (status.NotCanonical place) old new before after bytes is decided ends =
    found_decides e bytes (Differs place) (at_told (model.seen before) bytes (λ x. IsAudited e x (Differs place)) is ends.tells.finds.why)
audit_decides model e status.NoStore old new before after bytes is decided ends =
    none_decides e bytes recover.NoStore (λ is. cc) (λ is. cc) (at_told (model.seen before) bytes (λ x. IsRefusedMedium e x recover.NoStore) is ends.tells.0.why)
audit_decides model e (status.OtherElection header) old new before after bytes is decided ends =
    let why = recover.OtherElection header in
    none_decides e bytes why (λ is. cc) (λ is. cc) (at_told (model.seen before) bytes (λ x. IsRefusedMedium e x why) is ends.tells.0.why)
audit_decides model e (status.Damaged cell) old new before after bytes is decided ends =
    let why = recover.Damaged cell in
    none_decides e bytes why (λ is. cc) (λ is. cc) (at_told (model.seen before) bytes (λ x. IsRefusedMedium e x why) is ends.tells.0.why)
audit_decides model e status.DiskFault old new before after bytes is decided ends = absurd decided
audit_decides model e status.WriteFault old new before after bytes is decided ends = absurd decided
audit_decides model e status.Memory old new before after bytes is decided ends = absurd decided
audit_decides model e other old new before after bytes is decided ends = absurd ends.tells

one_audit : (e : Election) (bytes : List ℕ) (a b : Status) → IsElection e → AuditDecides e bytes a → AuditDecides e bytes b → a ≡ b
one_audit e bytes a b valid x y =
    x.is ∙ ap answered (one_answer e bytes valid x.answer y.answer x.no_fault x.memory y.no_fault y.memory x.by_bytes y.by_bytes) ∙ sym y.is

-- the bytes hold a set, so something was found in them
audited_well : (e : Election) (content : Content) (a : Status) (set : List Ballot) → IsElection e → HoldsSet e content.disk set → (answer : Result Audit RecoverFault) → a ≡ answered answer
    → answer ≢ Err recover.DiskFault → answer ≢ Err recover.Memory → MatchResult answer (IsAudited e content.disk) (IsRefusedMedium e content.disk) → AuditAnswers e content a
audited_well e content a set valid holds (Ok (Canonical held)) is no_fault memory found = subst (AuditAnswers e content) (sym is) (found.set, found.medium)
audited_well e content a set valid holds (Ok (Differs place)) is no_fault memory found = subst (AuditAnswers e content) (sym is) found
audited_well e content a set valid holds (Err why) is no_fault memory refused =
    absurd (refused_holds e content.disk why valid (λ same. no_fault (ap Err same)) (λ same. memory (ap Err same)) refused set holds)

audit_settled : {S K D : Type 0} (model : DiskModel D) (e : Election) (a : Status) (before after : World S K D) → NothingFailed model audit_row.touches before after
    → AuditEnds model e a before.streams.sink after.streams.sink before.disk after.disk → IsDecided a ⊎ (a ≡ status.Memory)
audit_settled model e status.DiskFault before after none ends = absurd (not_risen (model.faults before.disk) (model.faults after.disk) none.disk ends.tells.0)
audit_settled model e status.WriteFault before after none ends = absurd (not_risen before.streams.sink.faults after.streams.sink.faults none.sink ends.tells.3)
audit_settled model e (status.ReadFault which) before after none ends = absurd ends.tells
audit_settled model e (status.OtherDiskFault index) before after none ends = absurd ends.tells
audit_settled model e status.Memory before after none ends = inr refl
audit_settled model e other before after none ends = inl tt

pub audit_laws : Laws audit_row
audit_laws = record {
  Cause = λ e content. AuditDecides e content.disk;
  caused = λ model e a report before after content tells decided ends.
      audit_decides model e a before.streams.sink after.streams.sink before.disk after.disk content.disk tells.disk decided ends;
  one = λ e content a b valid x y. one_audit e content.disk a b valid x y;
  settled = λ model e a report before after none ends. audit_settled model e a before after none ends;
  served = λ e content a words valid none held decided. audited_well e content a held.0 valid held.1 decided.answer decided.is decided.no_fault decided.memory decided.by_bytes;
  no_usage = λ model e report before after ends. ends.tells;
}
