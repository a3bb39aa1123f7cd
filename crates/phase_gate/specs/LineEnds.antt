-- How a session handles one line of its script, and the end of it.
use Rattle.std.specs.Prelude.{◌≡◌, ◌⊎◌, ℕ, List, length, Result, Ok, Err, Some}
use Rattle.outside_io.specs.Outside.{Output}
use Rattle.outside_io.specs.Stream.{TakesAll, TakesSome}
use Rattle.phase_gate.specs.Around.{Around}
use Rattle.any_store.specs.Checkpointed.{FailsCheckpoint}
use Rattle.phase_gate.specs.Checkpointed.{Acknowledges}
use Rattle.any_store.specs.Disks.{StoreModel}
use Rattle.phase_gate.specs.declared.fault.SessionFault.TheVariants.{DiskFault, WriteFault, Memory}
use Rattle.phase_gate.specs.declared.fault.SessionFault.{SessionFault}
use Rattle.store_spec.specs.Election.{Election}
use Rattle.store_spec.specs.Fault.{Rose}
use Rattle.store_spec.specs.ScriptLine.{Says}
use Rattle.store_spec.specs.ScriptLine.ScriptLine.{Checkpoint}
use Rattle.store_spec.specs.Session.{AnswersBy, Effect, Phase, State, last_reply}
use Rattle.store_spec.specs.Session.Phase.{Closed}

-- the line did this, whatever the sink took of its reply
pub record Did {K D : Type 0} (model : StoreModel D) (e : Election) (before after : Around K D)
    (effect : Effect) : Type 0 where
  pub acknowledged : Acknowledges model.disks e effect.acknowledged before.disk after.disk before.marks after.marks
  pub held : after.held ≡ length effect.next.set

-- line number n was handled, and so much of its reply written as `write` says
pub record IsHandled {K D : Type 0} (model : StoreModel D) (write : List ℕ → List ℕ) (e : Election) (n : ℕ) (s : State)
    (bytes : List ℕ) (next : State) (before after : Around K D) : Type 0 where
  pub effect : Effect
  pub answers : AnswersBy (model.closes e) e n s (Some bytes) effect
  pub next_state : next ≡ effect.next
  pub done : Did model e before after effect
  pub taken : TakesAll before.sink.taken (write effect.reply) after.sink.taken
  pub no_fault : after.sink.faults ≡ before.sink.faults

-- it was, but of what is written of its reply the sink took a part alone
pub record IsHalfWritten {K D : Type 0} (model : StoreModel D) (write : List ℕ → List ℕ) (e : Election) (n : ℕ) (s : State)
    (bytes : List ℕ) (before after : Around K D) : Type 0 where
  pub effect : Effect
  pub answers : AnswersBy (model.closes e) e n s (Some bytes) effect
  pub done : Did model e before after effect
  pub taken : TakesSome before.sink.taken (write effect.reply) after.sink.taken

-- it is a checkpoint in the phase closed, and the disk failed
pub record IsUncheckpointed {K D : Type 0} (model : StoreModel D) (e : Election) (s : State) (bytes : List ℕ)
    (before after : Around K D) : Type 0 where
  pub closed : s.phase ≡ Closed
  pub says : Says e bytes Checkpoint
  pub fails : FailsCheckpoint model.disks e s.set before.disk after.disk
  pub sink : after.sink ≡ before.sink
  pub marks : after.marks ≡ before.marks
  pub others : after.others ≡ before.others
  pub held : after.held ≡ before.held

-- What becomes of line number n in a state, where `write` says what is written of a reply. Where there was no memory the line
-- was not begun, or it is half written.
abbrev pub LineEnds : {K D : Type 0} → StoreModel D → (List ℕ → List ℕ) → Election → ℕ → State → List ℕ
    → Result State SessionFault → Around K D → Around K D → Type 0
LineEnds model write e n s bytes (Ok next) before after = IsHandled model write e n s bytes next before after
LineEnds model write e n s bytes (Err DiskFault) before after = IsUncheckpointed model e s bytes before after
LineEnds model write e n s bytes (Err WriteFault) before after =
    IsHalfWritten model write e n s bytes before after × Rose before.sink.faults after.sink.faults
LineEnds model write e n s bytes (Err Memory) before after =
    (after ≡ before) ⊎ (IsHalfWritten model write e n s bytes before after × (after.sink.faults ≡ before.sink.faults))

-- What is written at the end of the script.
abbrev pub LastEnds : {K : Type 0} → (List ℕ → List ℕ) → Phase → Result (Unit {0}) SessionFault → Output K → Output K
    → Type 0
LastEnds write phase (Ok done) before after =
    TakesAll before.taken (write (last_reply phase)) after.taken × (after.faults ≡ before.faults)
LastEnds write phase (Err DiskFault) before after = ⊥
LastEnds write phase (Err WriteFault) before after =
    TakesSome before.taken (write (last_reply phase)) after.taken × Rose before.faults after.faults
LastEnds write phase (Err Memory) before after =
    TakesSome before.taken (write (last_reply phase)) after.taken × (after.faults ≡ before.faults)

-- the state of the session that goes on
abbrev pub state_left : {S : Type 0} → (S → State) → Result S SessionFault → Result State SessionFault
state_left state (Ok session) = Ok (state session)
state_left state (Err fault) = Err fault
