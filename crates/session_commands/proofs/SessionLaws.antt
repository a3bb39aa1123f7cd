-- The laws of `session`: a script and the bytes of a disk decide how it ends, but for faults and want of memory.
use Rattle.std.proofs.Common.{◌≡◌, ◌≢◌, ◌⊎◌, ℕ, ◌<◌, ◌≤◌, List, length, Option, Some, IfSome, Result, Ok, Err, inl, inr, ⊎_elim, refl, arith, ap, sym, subst, ◌∙◌}
use Rattle.store_spec.proofs.Common.{Ballot, DiskModel, Effect, Election, HoldsSet, HoldsSome, IsElection, State, script_limit}
use Rattle.any_store.specs.Disks.{StoreModel, one_store}
use Rattle.outside_io.proofs.Told.{told_at}
use Rattle.outside_io.specs.Outside.{Input}
use Rattle.phase_gate.specs.Around.{Around}
use Rattle.recovery.proofs.Refusals.{one_refusal, refused_holds}
use Rattle.recovery.specs.Refused.{IsRefusedMedium}
use Rattle.recovery.specs.declared.fault.RecoverFault.{RecoverFault}
use Rattle.recovery.specs.declared.fault.RecoverFault.TheVariants as recover
use Rattle.run_outcome.proofs.Laws.{Laws, at_told, not_risen}
use Rattle.run_outcome.specs.Status.{IsDecided, ended_as}
use Rattle.run_outcome.specs.World.{IsSteady}
use Rattle.run_outcome.specs.declared.status.Status.{Status}
use Rattle.run_outcome.specs.declared.status.Status.TheVariants as status
use Rattle.run_outcome.specs.declared.status.Which.TheVariants as which
use Rattle.session_commands.specs.Session.{run_status, session_row}
use Rattle.session_run.specs.Ends.{Begun, HandlingEnds, SessionEnds}
use Rattle.session_run.specs.Faults.{run_fault}
use Rattle.session_run.specs.declared.fault.RunFault.{RunFault}
use Rattle.session_run.specs.declared.fault.RunFault.TheVariants as run

-- a medium is refused for this reason, which bytes tell
pub record Refuses (e : Election) (bytes : List ℕ) (status : Status) : Type 0 where
  pub why : RecoverFault
  pub is : status ≡ run_status (run_fault why)
  pub no_fault : why ≢ recover.DiskFault
  pub memory : why ≢ recover.Memory
  pub refused : IsRefusedMedium e bytes why

-- ---- a script

-- it decides this status
abbrev pub ScriptDecides : List ℕ → Status → Type 0
ScriptDecides text a = ((a ≡ status.Ok) × (length text ≤ script_limit)) ⊎ ((a ≡ status.TooLong which.Script) × (script_limit < length text))

pub one_script : (text : List ℕ) (a b : Status) → ScriptDecides text a → ScriptDecides text b → a ≡ b
one_script text a b x y = ⊎_elim
    (λ (ok : (a ≡ status.Ok) × (length text ≤ script_limit)). ⊎_elim (λ (other : (b ≡ status.Ok) × (length text ≤ script_limit)). ok.0 ∙ sym other.0) (λ (long : (b ≡ status.TooLong which.Script) × (script_limit < length text)). absurd (omega (arith, ok.1, long.1))) y)
    (λ (long : (a ≡ status.TooLong which.Script) × (script_limit < length text)). ⊎_elim (λ (ok : (b ≡ status.Ok) × (length text ≤ script_limit)). absurd (omega (arith, ok.1, long.1))) (λ (too : (b ≡ status.TooLong which.Script) × (script_limit < length text)). long.0 ∙ sym too.0) y)
    x

module _ {T K D : Type 0} (model : StoreModel D) (write : List ℕ → List ℕ) (e : Election) (set : List Ballot) (lines : List (Option (List ℕ))) (effects : List Effect) (state : State) (old new : Input T) (before after : Around K D) where
  -- it decides how the handling of its lines ends
  pub handling_decides : (answer : Result (Unit {0}) RunFault) (text : List ℕ) → old.left ≡ Some text → IsDecided (ended_as run_status answer)
      → HandlingEnds model write e set lines effects state answer old new before after → ScriptDecides text (ended_as run_status answer)
  handling_decides (Ok done) text told decided ends = inl (refl, (told_at text told ends.0).1.0)
  handling_decides (Err run.TooLong) text told decided ends = inr (refl, (told_at text told ends.0).1.0)
  handling_decides (Err run.NoStore) text told decided ends = absurd ends
  handling_decides (Err (run.OtherElection header)) text told decided ends = absurd ends
  handling_decides (Err (run.Damaged cell)) text told decided ends = absurd ends
  handling_decides (Err other) text told decided ends = absurd decided

  -- where nothing failed
  pub handling_settled : (answer : Result (Unit {0}) RunFault) → IsSteady old.faults new.faults → IsSteady before.sink.faults after.sink.faults → answer ≢ Err run.DiskFault
      → HandlingEnds model write e set lines effects state answer old new before after → IsDecided (ended_as run_status answer) ⊎ (ended_as run_status answer ≡ status.Memory)
  handling_settled (Err run.ReadFault) script sink disk ends = absurd (not_risen old.faults new.faults script ends.3)
  handling_settled (Err run.WriteFault) script sink disk ends = absurd (not_risen before.sink.faults after.sink.faults sink ends.2)
  handling_settled (Err run.DiskFault) script sink disk ends = absurd (disk refl)
  handling_settled (Err run.Memory) script sink disk ends = inr refl
  handling_settled other script sink disk ends = inl tt

-- ---- a script and a disk

-- the status that they decide, and why
abbrev pub SessionDecides : Election → List ℕ → List ℕ → Status → Type 0
SessionDecides e text bytes a = (HoldsSome e bytes × ScriptDecides text a) ⊎ Refuses e bytes a

-- a decided refusal is neither a fault nor want of memory
decided_why : (why : RecoverFault) → IsDecided (run_status (run_fault why)) → (why ≢ recover.DiskFault) × (why ≢ recover.Memory)
decided_why recover.NoStore decided = (λ is. cc, λ is. cc)
decided_why (recover.OtherElection header) decided = (λ is. cc, λ is. cc)
decided_why (recover.Damaged cell) decided = (λ is. cc, λ is. cc)
decided_why recover.DiskFault decided = absurd decided
decided_why recover.Memory decided = absurd decided

-- a session that began, and how it ended
began_decides : {T K D : Type 0} (model : DiskModel D) (write : List ℕ → List ℕ) (e : Election) (answer : Result (Unit {0}) RunFault) (old new : Input T) (before after : Around K D) (text bytes : List ℕ) → old.left ≡ Some text → model.seen before.disk ≡ Some bytes
    → IsDecided (ended_as run_status answer) → Begun (one_store model) write e answer old new before after → SessionDecides e text bytes (ended_as run_status answer)
began_decides model write e answer old new before after text bytes told seen decided began = inl (
  (began.set, at_told (model.seen before.disk) bytes (λ x. HoldsSet e x began.set) seen began.held),
  handling_decides (one_store model) write e began.set began.lines began.effects began.state old new before after answer text told decided began.ends,
)

pub answer_decides : {T K D : Type 0} (model : DiskModel D) (write : List ℕ → List ℕ) (e : Election) (answer : Result (Unit {0}) RunFault) (a : Status) (old new : Input T) (before after : Around K D) (text bytes : List ℕ) → old.left ≡ Some text → model.seen before.disk ≡ Some bytes
    → IsDecided a → a ≡ ended_as run_status answer → SessionEnds model write e answer old new before after → SessionDecides e text bytes a
answer_decides model write e (Ok done) a old new before after text bytes told seen decided is began =
    subst (SessionDecides e text bytes) (sym is) (began_decides model write e (Ok done) old new before after text bytes told seen (subst IsDecided is decided) began)
answer_decides model write e (Err fault) a old new before after text bytes told seen decided is ends = ⊎_elim
    (λ none.
    let same : a ≡ run_status (run_fault none.0) = is ∙ ap run_status none.1 in
    let which = decided_why none.0 (subst IsDecided same decided) in
    let refused : IfSome (model.seen before.disk) (λ x. IsRefusedMedium e x none.0) =
    ⊎_elim (λ (short : (none.0 ≡ recover.Memory) × (after.disk ≡ before.disk)). absurd (which.1 short.0)) (λ (why : IfSome (model.seen before.disk) (λ x. IsRefusedMedium e x none.0)). why) none.2.refused in
    inr (record { why = none.0; is = same; no_fault = which.0; memory = which.1; refused = at_told (model.seen before.disk) bytes (λ x. IsRefusedMedium e x none.0) seen refused }))
    (λ began. subst (SessionDecides e text bytes) (sym is) (began_decides model write e (Err fault) old new before after text bytes told seen (subst IsDecided is decided) began))
    ends

-- bytes that are refused hold nothing
not_both : (e : Election) (bytes : List ℕ) (a : Status) → IsElection e → HoldsSome e bytes → Refuses e bytes a → ⊥
not_both e bytes a valid holds refuses = refused_holds e bytes refuses.why valid refuses.no_fault refuses.memory refuses.refused holds.0 holds.1

pub one_session : (e : Election) (text bytes : List ℕ) (a b : Status) → IsElection e → SessionDecides e text bytes a → SessionDecides e text bytes b → a ≡ b
one_session e text bytes a b valid x y = ⊎_elim
    (λ held. ⊎_elim
    (λ too. one_script text a b held.1 too.1)
    (λ refused. absurd (not_both e bytes b valid held.0 refused))
    y)
    (λ refused. ⊎_elim
    (λ held. absurd (not_both e bytes a valid held.0 refused))
    (λ other. refused.is ∙ ap (λ why. run_status (run_fault why)) (one_refusal e bytes refused.why other.why refused.no_fault refused.memory other.no_fault other.memory refused.refused other.refused) ∙ sym other.is)
    y)
    x

-- ---- where nothing failed

-- the statuses of faults are told apart
recovery_settled : (why : RecoverFault) (fault : RunFault) → fault ≡ run_fault why → (why ≡ recover.DiskFault → ⊥) → (fault ≡ run.DiskFault → ⊥) × (fault ≡ run.ReadFault → ⊥) × (fault ≡ run.WriteFault → ⊥)
recovery_settled recover.DiskFault fault is other = absurd (other refl)
recovery_settled why fault is other = (λ x. let clash = sym is ∙ x in cc, λ x. let clash = sym is ∙ x in cc, λ x. let clash = sym is ∙ x in cc)

pub answer_settled : {T K D : Type 0} (model : DiskModel D) (write : List ℕ → List ℕ) (e : Election) (answer : Result (Unit {0}) RunFault) (old new : Input T) (before after : Around K D)
    → IsSteady old.faults new.faults → IsSteady before.sink.faults after.sink.faults → IsSteady (model.faults before.disk) (model.faults after.disk)
    → SessionEnds model write e answer old new before after → IsDecided (ended_as run_status answer) ⊎ (ended_as run_status answer ≡ status.Memory)
answer_settled model write e (Err run.ReadFault) old new before after script sink disk ends = absurd (⊎_elim
    (λ none. (recovery_settled none.0 run.ReadFault none.1 (λ is. not_risen (model.faults before.disk) (model.faults after.disk) disk (none.2.fault.rose is))).1 refl)
    (λ began. not_risen old.faults new.faults script began.ends.3)
    ends)
answer_settled model write e (Err run.DiskFault) old new before after script sink disk ends = absurd (⊎_elim
    (λ none. (recovery_settled none.0 run.DiskFault none.1 (λ is. not_risen (model.faults before.disk) (model.faults after.disk) disk (none.2.fault.rose is))).0 refl)
    (λ began. not_risen (model.faults before.disk) (model.faults after.disk) disk began.ends.0.rose)
    ends)
answer_settled model write e (Err run.WriteFault) old new before after script sink disk ends = absurd (⊎_elim
    (λ none. (recovery_settled none.0 run.WriteFault none.1 (λ is. not_risen (model.faults before.disk) (model.faults after.disk) disk (none.2.fault.rose is))).2 refl)
    (λ began. not_risen before.sink.faults after.sink.faults sink began.ends.2)
    ends)
answer_settled model write e (Err run.Memory) old new before after script sink disk ends = inr refl
answer_settled model write e other old new before after script sink disk ends = inl tt

pub settled_as : (a b : Status) → a ≡ b → IsDecided b ⊎ (b ≡ status.Memory) → IsDecided a ⊎ (a ≡ status.Memory)
settled_as a b is settled = subst (λ (x : Status). IsDecided x ⊎ (x ≡ status.Memory)) (sym is) settled

pub never_usage : (answer : Result (Unit {0}) RunFault) → status.Usage ≡ ended_as run_status answer → ⊥
never_usage (Err run.Memory) is = cc
never_usage other is = cc

-- ---- the row

pub session_laws : Laws session_row
session_laws = record {
  Cause = λ e content. SessionDecides e content.script content.disk;
  caused = λ model e a report before after content tells decided ends.
      answer_decides model (λ text. text) e ends.0.answer a before.streams.script after.streams.script _ _ content.script content.disk tells.script tells.disk decided ends.0.told ends.0.ends;
  one = λ e content a b valid x y. one_session e content.script content.disk a b valid x y;
  settled = λ model e a report before after none ends.
      settled_as a (ended_as run_status ends.0.answer) ends.0.told (answer_settled model (λ text. text) e ends.0.answer before.streams.script after.streams.script _ _ none.script none.sink none.disk ends.0.ends);
  served = λ e content a words valid none has decides. one_session e content.script content.disk a status.Ok valid decides (inl (has.0, inl (refl, has.1)));
  no_usage = λ model e report before after ends. never_usage ends.0.answer ends.0.told;
}
