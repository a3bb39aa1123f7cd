-- What becomes of a line that was not handled to its end.
use Rattle.std.proofs.Common.{arith, ◌≡◌, ℕ, List, [], ◌∷◌, length, Some, Result, Err, ap, inl, inr, refl, sym, subst, ◌∙◌}
use Rattle.store_spec.proofs.Common.{AnswersBy, Ballot, Casts, Checkpoint, Close, Closed, Closes, CountsFaultIf, DoesBy, Effect, Election, Finds, Phase, Says, ScriptLine, State, Withdraws}
use Rattle.outside_io.specs.Stream.{TakesSome}
use Rattle.phase_gate.specs.Around.{Around}
use Rattle.any_store.specs.Checkpointed.{FailsCheckpoint}
use Rattle.phase_gate.specs.Checkpointed.{Acknowledges, NotAcknowledged}
use Rattle.any_store.specs.Disks.{AcknowledgesNothing, StoreModel}
use Rattle.phase_gate.specs.LineEnds.{Did, IsHalfWritten, LineEnds}
use Rattle.phase_gate.specs.Writing.{WritesReply, put_fault, written_of}
use Rattle.phase_gate.specs.declared.fault.SessionFault.{SessionFault}
use Rattle.phase_gate.specs.declared.fault.SessionFault.TheVariants.{DiskFault, WriteFault, Memory}
use Rattle.phase_gate.specs.declared.writing.Writing.{Writing}
use Rattle.tally_export.specs.declared.fault.PutFault.{PutFault}
use Rattle.tally_export.specs.declared.fault.PutFault.TheVariants as put

-- what is answered for a fault of a write
abbrev pub as_answer : PutFault → Result (Unit {0}) PutFault
as_answer fault = Err fault

-- no set is not one
nothing_acknowledged : {X : Type 0} {x : X} {xs : List X} → [] ≡ x ∷ xs → ⊥
nothing_acknowledged is = cc

-- a line that acknowledges a set is a checkpoint in the phase closed, and the set is that of the state
checkpoints : (closes : Closes) → AcknowledgesNothing closes → (e : Election) (n : ℕ) (s : State) (line : ScriptLine)
    (phase : Phase) (effect : Effect) (set : List Ballot) → DoesBy closes e n s line phase effect → effect.acknowledged ≡ set ∷ []
    → (line ≡ Checkpoint) × (phase ≡ Closed) × (set ≡ s.set)
checkpoints closes none e n s Close (Casts lists) effect set does is =
    absurd (nothing_acknowledged (sym (none.casting s.set lists effect does) ∙ is))
checkpoints closes none e n s Close (Withdraws lists) effect set does is =
    absurd (nothing_acknowledged (sym (none.withdrawing s.set lists effect does) ∙ is))
checkpoints closes none e n s Close (Finds lists) effect set does is =
    absurd (nothing_acknowledged (sym (ap (λ x. x.acknowledged) does.is) ∙ is))
checkpoints closes none e n s line phase effect set does is = (grind arith, grind arith, grind arith)

-- the same of a line of bytes
pub acknowledging : (closes : Closes) → AcknowledgesNothing closes → (e : Election) (n : ℕ) (s : State) (bytes : List ℕ) (effect : Effect) (set : List Ballot)
    → AnswersBy closes e n s (Some bytes) effect → effect.acknowledged ≡ set ∷ []
    → (s.phase ≡ Closed) × Says e bytes Checkpoint × (set ≡ s.set)
acknowledging closes none e n s bytes effect set (inl (malformed, stayed)) is =
    absurd (nothing_acknowledged (sym (ap (λ x. x.acknowledged) stayed) ∙ is))
acknowledging closes none e n s bytes effect set (inr (line, says, does)) is =
    let told = checkpoints closes none e n s line s.phase effect set does is in
    (told.1, subst (Says e bytes) told.0 says, told.2)

module _ {K D : Type 0} (model : StoreModel D) (writing : Writing) (e : Election) (n : ℕ) (s : State) (bytes : List ℕ)
    (told : Effect)
    (tells : WritesReply writing (AnswersBy (model.closes e) e n s (Some bytes)) told) (before after : Around K D) where
  -- a line whose set was not acknowledged
  pub unacknowledged : AcknowledgesNothing (model.closes e) → (set : List Ballot) (fault : SessionFault) → told.acknowledged ≡ set ∷ []
      → NotAcknowledged model.disks e set before.disk after.disk fault → after.sink ≡ before.sink
      → after.marks ≡ before.marks → after.others ≡ before.others → after.held ≡ before.held
      → LineEnds model (written_of writing) e n s bytes (Err fault) before after
  unacknowledged none set DiskFault asked fails sink marks others held =
      let checkpoint = acknowledging (model.closes e) none e n s bytes tells.0 set tells.1 (sym (ap (λ x. x.acknowledged) tells.2) ∙ asked) in
      record {
        closed = checkpoint.0;
        says = checkpoint.1;
        fails = subst (λ x. FailsCheckpoint model.disks e x before.disk after.disk) checkpoint.2 fails;
        sink = sink;
        marks = marks;
        others = others;
        held = held;
      }
  unacknowledged none set WriteFault asked fails sink marks others held = absurd fails
  unacknowledged none set Memory asked disk sink marks others held =
      inl (λ i. record { sink = sink i; disk = disk i; marks = marks i; others = others i; held = held i })

  -- a line that did this, whatever was told of it
  module _ (acknowledged : Acknowledges model.disks e told.acknowledged before.disk after.disk before.marks after.marks)
      (held : after.held ≡ length told.next.set) where
    did : Did model e before after tells.0
    did = record {
      acknowledged = subst (λ sets. Acknowledges model.disks e sets before.disk after.disk before.marks after.marks)
          (ap (λ x. x.acknowledged) tells.2) acknowledged;
      held = held ∙ ap (λ x. length x.next.set) tells.2;
    }

    -- a part of it was told
    half : TakesSome before.sink.taken told.reply after.sink.taken
        → IsHalfWritten model (written_of writing) e n s bytes before after
    half taken = record {
      effect = tells.0;
      answers = tells.1;
      done = did;
      taken = subst (λ text. TakesSome before.sink.taken text after.sink.taken) (ap (λ x. x.reply) tells.2) taken;
    }

    pub half_told : (why : PutFault) → TakesSome before.sink.taken told.reply after.sink.taken
        → CountsFaultIf (as_answer why ≡ as_answer put.WriteFault) before.sink.faults after.sink.faults
        → LineEnds model (written_of writing) e n s bytes (Err (put_fault why)) before after
    half_told put.WriteFault taken fault = (half taken, fault.rose refl)
    half_told put.Memory taken fault = inr (half taken, fault.steady (λ clash. cc))
