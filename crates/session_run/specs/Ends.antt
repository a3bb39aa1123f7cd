-- What a run of a session makes of a script and a medium.
use Rattle.std.specs.Prelude.{◌≡◌, ◌⊎◌, ℕ, ◌+◌, ◌<◌, List, [], ◌∷◌, ◌++◌, length, take, IfSome, Option, Some, is_some, Result, Ok, Err}
use Rattle.outside_io.specs.Outside.{Input}
use Rattle.outside_io.specs.Reading.{ReadFirst, ReadLines}
use Rattle.outside_io.specs.Reading.Ending.{Faulted, ReadOut, TooMuch}
use Rattle.outside_io.specs.Stream.{GivesAtMost, TakesAll}
use Rattle.outside_io.specs.Told.{IfTold}
use Rattle.phase_gate.specs.Around.{Around}
use Rattle.any_store.specs.Disks.{OnEach, StoreModel, one_store, share_of}
use Rattle.recovery.specs.Refused.{IsRefusedMedium, IsUnchangedAt, IsUnharmedAt}
use Rattle.recovery.specs.declared.fault.RecoverFault.{RecoverFault}
use Rattle.recovery.specs.declared.fault.RecoverFault.TheVariants as recover
use Rattle.session_run.specs.Faults.{run_fault}
use Rattle.session_run.specs.History.{AreAcknowledged, AreTried, FailsOnOne, HoldsOnceSynced, LosesNothing, Wrote, latest, written_by}
use Rattle.session_run.specs.declared.fault.RunFault.{RunFault}
use Rattle.session_run.specs.declared.fault.RunFault.TheVariants.{TooLong, ReadFault, DiskFault, WriteFault, Memory}
use Rattle.store_spec.specs.Ballot.{Ballot, IsBallotSet, IsWithinLimit}
use Rattle.store_spec.specs.Disk.{DiskModel, KeepsCrashImages}
use Rattle.store_spec.specs.Election.{Election}
use Rattle.store_spec.specs.Fault.{CountsFaultIf, Rose, last_count}
use Rattle.store_spec.specs.Input.{script_limit}
use Rattle.store_spec.specs.Medium.{HoldsSet}
use Rattle.store_spec.specs.ScriptLine.{Says}
use Rattle.store_spec.specs.ScriptLine.ScriptLine.{Checkpoint}
use Rattle.store_spec.specs.Session.{AnswersBy, Closes, Effect, PlaysBy, State, acknowledged_in, begun, last_reply}
use Rattle.store_spec.specs.Session.Phase.{Closed}

-- ---- no session began

-- Nothing was read of the script, nothing was written, and nothing is reported: the medium was refused for this reason, or
-- there was no memory before a call was made on its disk.
-- Its bytes stay, unless the disk failed, and a crash at any moment leaves what it might have left at the start, or the
-- set that was read. Where the bytes held a set, no call was made, or the first sync failed and nothing was written, or
-- from its return on a crash leaves that set.
pub record NotBegun {S K D : Type 0} (model : DiskModel D) (e : Election) (why : RecoverFault) (old new : Input S)
    (before after : Around K D) : Type 0 where
  pub script : new ≡ old
  pub sink : after.sink ≡ before.sink
  pub marks : after.marks ≡ []
  pub held : after.held ≡ 0
  pub refused : ((why ≡ recover.Memory) × (after.disk ≡ before.disk)) ⊎ IfSome (model.seen before.disk) (λ bytes. IsRefusedMedium e bytes why)
  pub unchanged : IsUnchangedAt why (model.seen before.disk) (model.seen after.disk)
  pub told : is_some (model.seen after.disk) ≡ is_some (model.seen before.disk)
  pub unharmed : (bytes : List ℕ) → model.seen before.disk ≡ Some bytes
      → IsUnharmedAt model e bytes why before.disk after.disk
  pub crashes : (set : List Ballot) → LosesNothing model e set before.disk after.disk [] [] []
  pub once_synced : (set : List Ballot) (bytes : List ℕ) → model.seen before.disk ≡ Some bytes → HoldsSet e bytes set
      → (after.disk ≡ before.disk)
      ⊎ (KeepsCrashImages model.calls model.may_leave before.disk after.disk
      ⊎ (model.calls after.disk < last_count → HoldsOnceSynced model e set before.disk after.disk [] [] []))
  pub fault : CountsFaultIf (why ≡ recover.DiskFault) (model.faults before.disk) (model.faults after.disk)

-- ---- a session

-- how much of the script was read, and which lines were taken of it, where it tells
abbrev pub OfSource : {S : Type 0} → Input S → Input S → (List ℕ → List ℕ → Type 0) → Type 0
OfSource old new Taken = IfTold old.left new.left Taken

-- The reading stopped of itself: these are the first lines, and no more was read than the limit and one byte.
abbrev pub StopsBehind : List (Option (List ℕ)) → List ℕ → List ℕ → Type 0
StopsBehind lines text left = ReadFirst text left lines × GivesAtMost (script_limit + 1) text left

-- This is the reply that comes next, to one more line of the script or to its end, the sets that are acknowledged before
-- it is written, and how many ballots are held then.
pub data ComesNext {S : Type 0} (closes : Closes) (e : Election) (lines : List (Option (List ℕ))) (state : State) (old new : Input S)
    (reply : List ℕ) (more : List (List Ballot)) (held : ℕ) : Type 0 where
  to_line : (line : Option (List ℕ)) (effect : Effect)
      → OfSource old new (StopsBehind (lines ++ line ∷ []))
      → AnswersBy closes e (length lines + 1) state line effect
      → reply ≡ effect.reply → more ≡ effect.acknowledged → held ≡ length effect.next.set
      → ComesNext closes e lines state old new reply more held
  to_end : OfSource old new (λ text left. ReadLines ReadOut text left lines)
      → reply ≡ last_reply state.phase → more ≡ [] → held ≡ length state.set
      → ComesNext closes e lines state old new reply more held

-- of what is told of the reply that comes next a part was written
pub record IsInterrupted {S K D : Type 0} (model : StoreModel D) (write : List ℕ → List ℕ) (e : Election)
    (set : List Ballot) (lines : List (Option (List ℕ))) (effects : List Effect) (state : State) (old new : Input S)
    (before after : Around K D) : Type 0 where
  pub reply : List ℕ
  pub more : List (List Ballot)
  pub next : ComesNext (model.closes e) e lines state old new reply more after.held
  pub count : ℕ
  pub wrote : Wrote model write e set effects (take count (write reply)) more before after

-- the next line is a checkpoint, and nothing is written of it
pub record IsAtCheckpoint {S K D : Type 0} (write : List ℕ → List ℕ) (e : Election) (lines : List (Option (List ℕ)))
    (effects : List Effect) (state : State) (old new : Input S) (before after : Around K D) : Type 0 where
  pub line : List ℕ
  pub read : OfSource old new (StopsBehind (lines ++ Some line ∷ []))
  pub says : Says e line Checkpoint
  pub closed : state.phase ≡ Closed
  pub taken : TakesAll before.sink.taken (written_by write effects) after.sink.taken
  pub held : after.held ≡ length state.set

-- the next line is a checkpoint, and one of the disks failed at it
pub record IsDiskFailed {S K D : Type 0} (model : StoreModel D) (write : List ℕ → List ℕ) (e : Election)
    (set : List Ballot) (lines : List (Option (List ℕ))) (effects : List Effect) (state : State) (old new : Input S)
    (before after : Around K D) : Type 0 where
  pub stops : IsAtCheckpoint write e lines effects state old new before after
  pub tried : AreTried model.disks e set before.disk after.disk after.marks after.others (acknowledged_in effects) state.set
  pub rose : FailsOnOne model.disks e (latest set (acknowledged_in effects)) state.set before.disk after.disk

-- how the handling of lines ended, once these were handled, where `write` says what is written of a reply
abbrev pub HandlingEnds : {S K D : Type 0} → StoreModel D → (List ℕ → List ℕ) → Election → List Ballot
    → List (Option (List ℕ)) → List Effect → State → Result (Unit {0}) RunFault → Input S → Input S → Around K D
    → Around K D → Type 0
HandlingEnds model write e set lines effects state (Ok done) old new before after =
    OfSource old new (λ text left. ReadLines ReadOut text left lines)
    × Wrote model write e set effects (write (last_reply state.phase)) [] before after
    × (after.held ≡ length state.set) × (new.faults ≡ old.faults) × (after.sink.faults ≡ before.sink.faults)
HandlingEnds model write e set lines effects state (Err TooLong) old new before after =
    OfSource old new (λ text left. ReadLines TooMuch text left lines)
    × Wrote model write e set effects [] [] before after
    × (after.held ≡ length state.set) × (new.faults ≡ old.faults) × (after.sink.faults ≡ before.sink.faults)
HandlingEnds model write e set lines effects state (Err ReadFault) old new before after =
    OfSource old new (λ text left. ReadLines Faulted text left lines)
    × Wrote model write e set effects [] [] before after
    × (after.held ≡ length state.set) × Rose old.faults new.faults × (after.sink.faults ≡ before.sink.faults)
HandlingEnds model write e set lines effects state (Err DiskFault) old new before after =
    IsDiskFailed model write e set lines effects state old new before after
    × (new.faults ≡ old.faults) × (after.sink.faults ≡ before.sink.faults)
HandlingEnds model write e set lines effects state (Err WriteFault) old new before after =
    IsInterrupted model write e set lines effects state old new before after
    × (new.faults ≡ old.faults) × Rose before.sink.faults after.sink.faults
HandlingEnds model write e set lines effects state (Err Memory) old new before after =
    ((OfSource old new (StopsBehind lines) × Wrote model write e set effects [] [] before after
    × (after.held ≡ length state.set))
    ⊎ IsInterrupted model write e set lines effects state old new before after)
    × (new.faults ≡ old.faults) × (after.sink.faults ≡ before.sink.faults)
HandlingEnds model write e set lines effects state (Err other) old new before after = ⊥

-- A session began with the set that the disks held, each its share, and handled lines one after another.
pub record Begun {S K D : Type 0} (model : StoreModel D) (write : List ℕ → List ℕ) (e : Election)
    (answer : Result (Unit {0}) RunFault) (old new : Input S) (before after : Around K D) : Type 0 where
  pub set : List Ballot
  pub held : OnEach model.disks (λ model share. IfSome (model.seen before.disk)
      (λ bytes. HoldsSet e bytes (share_of share set)))
  pub legal : IsBallotSet e set
  pub within_limit : OnEach model.disks (λ _ share. IsWithinLimit e (share_of share set))
  pub lines : List (Option (List ℕ))
  pub effects : List Effect
  pub state : State
  pub plays : PlaysBy (model.closes e) e 1 (begun set) lines effects state
  pub ends : HandlingEnds model write e set lines effects state answer old new before after

-- It began with this set.
abbrev pub BegunWith : {S K D : Type 0} → StoreModel D → (List ℕ → List ℕ) → Election → List Ballot
    → Result (Unit {0}) RunFault → Input S → Input S → Around K D → Around K D → Type 0
BegunWith model write e set answer old new before after =
    (one : Begun model write e answer old new before after) × (one.set ≡ set)

-- ---- a session that has just begun

-- A recovery has handed out this set, in this state of a session, and no line was handled yet.
pub record HasBegun {K D : Type 0} (model : StoreModel D) (e : Election) (set : List Ballot) (state : State)
    (before now : Around K D) : Type 0 where
  pub held : OnEach model.disks (λ model share. IfSome (model.seen before.disk)
      (λ bytes. HoldsSet e bytes (share_of share set)))
  pub legal : IsBallotSet e set
  pub within_limit : OnEach model.disks (λ _ share. IsWithinLimit e (share_of share set))
  pub state_is : state ≡ begun set
  pub sink : now.sink ≡ before.sink
  pub acknowledged : AreAcknowledged model.disks e set [] before.disk now.disk now.marks now.others
  pub count : now.held ≡ length set

-- Whatever medium and set it began with, it was handled as a run promises.
abbrev pub GoesOn : {S K D : Type 0} → StoreModel D → (List ℕ → List ℕ) → Election → State
    → Result (Unit {0}) RunFault → Input S → Input S → Around K D → Around K D → Type 0
GoesOn {K} {D} model write e state answer old new now after = (set : List Ballot) (before : Around K D)
    → HasBegun model e set state before now → BegunWith model write e set answer old new before after

-- ---- both

-- All that a run of a session promises under an election, where `write` says what it writes of a reply: the medium was
-- refused, or a session began.
abbrev pub SessionEnds : {S K D : Type 0} → DiskModel D → (List ℕ → List ℕ) → Election → Result (Unit {0}) RunFault
    → Input S → Input S → Around K D → Around K D → Type 0
SessionEnds model write e (Ok done) old new before after = Begun (one_store model) write e (Ok done) old new before after
SessionEnds model write e (Err fault) old new before after =
    ((why : RecoverFault) × (fault ≡ run_fault why) × NotBegun model e why old new before after)
    ⊎ Begun (one_store model) write e (Err fault) old new before after
