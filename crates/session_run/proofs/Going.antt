-- A session that goes on, from whatever medium and set it began: line after line, and how that ends.
use Rattle.std.proofs.Common.{◌≡◌, ◌≢◌, ◌⊎◌, ℕ, ◌+◌, ◌<◌, ◌≤◌, List, [], ◌∷◌, ◌++◌, length, false, Option, Some, None, Result, Ok, Err, refl, arith, sym, subst, ◌∙◌, inl, inr, ⊎_elim}
use Rattle.store_spec.proofs.Common.{AnswersBy, Ballot, CountsFaultIf, DiskModel, Election, IsElection, Rose, State, first_width, replies, script_limit}
use Rattle.outside_io.proofs.Reading.{ReadSoFar, few_given, read_fault, read_first, read_nothing, read_out, read_too_much, read_whole, read_wide}
use Rattle.outside_io.proofs.Told.{told_with}
use Rattle.outside_io.specs.Lines.{AnswersTold}
use Rattle.outside_io.specs.Outside.{Input, Output}
use Rattle.outside_io.specs.Stream.{GivesFront}
use Rattle.outside_io.specs.Told.{IfTold}
use Rattle.outside_io.specs.Window.{Kept}
use Rattle.outside_io.specs.declared.lines.LineEndFault.{LineEndFault}
use Rattle.outside_io.specs.declared.lines.LineEndFault.TheVariants as fault
use Rattle.outside_io.specs.declared.lines.NextLine.{NextLine}
use Rattle.outside_io.specs.declared.lines.NextLine.TheVariants.{Whole, TooWide, End}
use Rattle.phase_gate.specs.Around.{Around}
use Rattle.phase_gate.specs.Beside.{AddsRow}
use Rattle.phase_gate.proofs.Kept.{AreSomeMedia, media_kept}
use Rattle.any_store.specs.Disks.{StoreModel, one_store}
use Rattle.phase_gate.specs.LineEnds.{IsHandled, LastEnds, LineEnds}
use Rattle.phase_gate.specs.declared.fault.SessionFault.{SessionFault}
use Rattle.phase_gate.specs.declared.writing.Writing.{Writing}
use Rattle.session_run.proofs.Beginning.{begins}
use Rattle.session_run.proofs.Ending.{cut_off, line_failed, played_out, too_much, unread, with_sink}
use Rattle.session_run.proofs.Queued.{queued_is}
use Rattle.session_run.proofs.SoFar.{IsHanded, SoFar, handled_more}
use Rattle.session_run.proofs.SoFar.IsHanded.{whole, wide}
use Rattle.session_run.specs.Ends.{Begun, GoesOn, HasBegun, OfSource, SessionEnds, StopsBehind}
use Rattle.session_run.specs.Faults.{line_fault, session_fault}
use Rattle.session_run.specs.declared.fault.RunFault.{RunFault}

-- The lines that were read so far were handled, from whatever medium and set the session began. The disk is the medium of
-- some set.
pub record HandledSoFar {K D : Type 0} (model : StoreModel D) (write : List ℕ → List ℕ) (e : Election)
    (first state : State) (index : ℕ) (kept : Kept) (text left : Option (List ℕ)) (start now : Around K D)
    : Type 0 where
  pub media : AreSomeMedia model.disks e now.disk
  pub from_any : (set : List Ballot) (before : Around K D) → HasBegun model e set first before start
      → ReadSoFar (λ lines. SoFar model write e set lines state index before now) kept text left

-- Such bytes are handed to the session for what `next_line` brought.
abbrev pub IsBrought : NextLine → List ℕ → List ℕ → Type 0
IsBrought answer line bytes = ((answer ≡ Whole) × (bytes ≡ line)) ⊎ ((answer ≡ TooWide) × (bytes ≡ []))

-- a line takes a byte or more of the room
pub takes_room : {answer : NextLine} {line bytes : List ℕ} {room next : ℕ} → IsBrought answer line bytes
    → (answer ≢ End → next < room) → next < room
takes_room {answer} {line} {bytes} brought progress = progress (λ end. ⊎_elim
    (λ (is : (answer ≡ Whole) × (bytes ≡ line)). let clash : Whole ≡ End = sym is.0 ∙ end in cc)
    (λ (is : (answer ≡ TooWide) × (bytes ≡ [])). let clash : TooWide ≡ End = sym is.0 ∙ end in cc)
    brought)

-- there is room for the number of the next line
pub counts_line : (index room next : ℕ) → next < room → index + room ≤ script_limit → index + 1 + next ≤ script_limit
counts_line index room next less counted = omega arith

pub room_of : (room : ℕ) → room ≡ script_limit → 0 + room ≤ script_limit
room_of room is = omega arith

-- what holds of a session at equal parts of it
pub at_session : (P : Writing → Election → State → Type 0) {t u : Writing} {e f : Election} {r s : State} → t ≡ u → e ≡ f
    → r ≡ s → P t e r → P u f s
at_session P {t} {u} {e} {f} {r} {s} writing own state p =
    subst (λ (x : Writing). P x f s) writing (subst (λ (x : Election). P t x s) own
    (subst (λ (x : State). P t e x) state p))

-- one line more was read
read_brought : {P Q : List (Option (List ℕ)) → Type 0} {kept next : Kept} {a b c : Option (List ℕ)}
    {answer : NextLine} (bytes : List ℕ)
    → ReadSoFar P kept a b → IsBrought answer next.line bytes → AnswersTold (Ok answer) kept b next c
    → (answer ≢ End → next.room < kept.room) → length next.text ≤ next.room + 1
    → ((line : Option (List ℕ)) (lines : List (Option (List ℕ))) → IsHanded line bytes → P lines
    → Q (lines ++ line ∷ [])) → ReadSoFar Q next a c
read_brought {next} {answer} bytes so_far brought answers progress within step = ⊎_elim
    (λ (is : (answer ≡ Whole) × (bytes ≡ next.line)). read_whole so_far is.0 answers progress within
    (λ lines p. step (Some next.line) lines
    (subst (λ b. IsHanded (Some next.line) b) (sym is.1) (whole next.line)) p))
    (λ (is : (answer ≡ TooWide) × (bytes ≡ [])). read_wide so_far is.0 answers progress within
    (λ lines p. step None lines (subst (λ b. IsHanded None b) (sym is.1) wide) p))
    brought

-- ---- a session that has just begun

pub handled_none : {K D : Type 0} (model : StoreModel D) (write : List ℕ → List ℕ) (e : Election) (state : State)
    (kept : Kept) (text : Option (List ℕ)) (now : Around K D)
    → AreSomeMedia model.disks e now.disk
    → kept.text ≡ [] → kept.room ≡ script_limit → kept.ended ≡ false
    → HandledSoFar model write e state state 0 kept text text now now
handled_none model write e state kept text now media none room not_ended = record {
  media = media;
  from_any = λ set before starts. read_nothing {P = λ lines. SoFar model write e set lines state 0 before now} kept none
      room not_ended (begins model write e set state before now starts);
}

-- what it does is what a run promises
pub went_on : {S K D : Type 0} (model : DiskModel D) (tell_own write : List ℕ → List ℕ) (own e : Election)
    (state : State) (answer : Result (Unit {0}) RunFault) (old new : Input S) (mid after : Around K D)
    (set : List Ballot) (before : Around K D) → tell_own ≡ write → own ≡ e
    → GoesOn (one_store model) tell_own own state answer old new mid after → HasBegun (one_store model) e set state before mid
    → SessionEnds model write e answer old new before after
went_on {S} {K} model tell_own write own e state answer old new mid after set before told same goes starts =
    of_both answer (subst (λ (e : Election). HasBegun (one_store model) e set state before mid
    → Begun (one_store model) write e answer old new before after) same
    (subst (λ (write : List ℕ → List ℕ). HasBegun (one_store model) own set state before mid
    → Begun (one_store model) write own answer old new before after) told (λ starts. (goes set before starts).0)) starts)
  where
    of_both : (answer : Result (Unit {0}) RunFault) → Begun (one_store model) write e answer old new before after
        → SessionEnds model write e answer old new before after
    of_both (Ok done) begun = begun
    of_both (Err fault) begun = inr begun

-- ---- after lines that were handled

-- what `next_line` answers for a fault
abbrev pub as_answer : LineEndFault → Result NextLine LineEndFault
as_answer fault = Err fault

-- what a run answers for what the end of its session did
abbrev pub as_run : Result (Unit {0}) SessionFault → Result (Unit {0}) RunFault
as_run (Ok done) = Ok done
as_run (Err why) = Err (session_fault why)

module _ {S K D : Type 0} (model : StoreModel D) (write : List ℕ → List ℕ) (e : Election) (election : IsElection e)
    (first state : State) (index : ℕ) (kept next : Kept) (old mid new : Input S) (start now : Around K D)
    (so_far : HandledSoFar model write e first state index kept old.left mid.left start now)
    (same : mid.faults ≡ old.faults) where
  -- no further line came, for this reason
  pub line_ended : (why : LineEndFault) → AnswersTold (Err why) kept mid.left next new.left
      → IfTold mid.left new.left GivesFront → length next.text ≤ next.room + 1
      → (as_answer why ≡ as_answer fault.ReadFault → (first_width next.text ≡ length next.text)
      × (length next.text ≤ next.room)) → CountsFaultIf (as_answer why ≡ as_answer fault.ReadFault) mid.faults new.faults
      → GoesOn model write e first (Err (line_fault why)) old new start now
  line_ended fault.TooLong answers gives within none_whole counts set before starts =
      let read = read_too_much (so_far.from_any set before starts) refl answers gives within in
      too_much model write e election set first before start starts read.lines state index now read.good old new
      read.told (counts.steady (λ is. cc) ∙ same)
  line_ended fault.ReadFault answers gives within none_whole counts set before starts =
      let read = read_fault (so_far.from_any set before starts) refl answers gives (none_whole refl) in
      unread model write e election set first before start starts read.lines state index now read.good old new read.told
      (subst (λ n. Rose n new.faults) same (counts.rose refl))

  module _ (answer : NextLine) (answers : AnswersTold (Ok answer) kept mid.left next new.left)
      (steady : new.faults ≡ mid.faults) where
    -- the script has ended, and what comes last was written, or not whole
    pub script_ended : (done : Result (Unit {0}) SessionFault) (sink : Output K) → answer ≡ End
        → LastEnds write state.phase done now.sink sink
        → GoesOn model write e first (as_run done) old new start (with_sink now sink)
    script_ended (Ok done) sink is last set before starts =
        let read = read_out (so_far.from_any set before starts) is answers in
        played_out model write e election set first before start starts read.lines state index now read.good old new
        sink read.told (steady ∙ same) last
    script_ended (Err why) sink is last set before starts =
        let read = read_out (so_far.from_any set before starts) is answers in
        cut_off model write e election set first before start starts read.lines state index now read.good old new sink
        why read.told (steady ∙ same) last

    module _ (bytes : List ℕ) (brought : IsBrought answer next.line bytes)
        (progress : answer ≢ End → next.room < kept.room) (within : length next.text ≤ next.room + 1) where
      -- a line came, and was handled, by a session that has counted its ballots
      was_handled : (then_state : State) (after : Around K D) → AreSomeMedia model.disks e after.disk
          → (now.held ≡ length state.set → IsHandled model write e (index + 1) state bytes then_state now after)
          → (begun : Option (ℕ × ℕ)) → AddsRow model.disks after.disk begun now.marks after.marks now.others after.others
          → HandledSoFar model write e first then_state (index + 1) next old.left new.left start after
      was_handled then_state after media did begun adds = record {
        media = media;
        from_any = λ set before starts. read_brought
            {P = λ lines. SoFar model write e set lines state index before now}
            {Q = λ lines. SoFar model write e set lines then_state (index + 1) before after}
            bytes (so_far.from_any set before starts) brought answers progress within
            (λ line lines handed so_far. handled_more model write e set lines state then_state index before now after
            line bytes begun election handed so_far (did so_far.held) adds);
      }

      pub handled : (then_state : State) (after : Around K D)
          → IsHandled model write e (index + 1) state bytes then_state now after → (begun : Option (ℕ × ℕ))
          → AddsRow model.disks after.disk begun now.marks after.marks now.others after.others
          → HandledSoFar model write e first then_state (index + 1) next old.left new.left start after
      handled then_state after did = was_handled then_state after
          (media_kept model.disks e did.effect.acknowledged now.disk after.disk now.marks after.marks did.done.acknowledged
          so_far.media) (λ held. did)

      -- or what it brings waits
      pub queued : (then_state : State) → write [] ≡ []
          → AnswersBy (model.closes e) e (index + 1) state (Some bytes) (replies [] then_state) → then_state.set ≡ state.set
          → HandledSoFar model write e first then_state (index + 1) next old.left new.left start now
      queued then_state none_told did same_set = was_handled then_state now so_far.media
          (queued_is model write e state then_state index now bytes none_told did same_set) None (inl (refl, refl))

      -- or was not handled to its end
      pub failed : (why : SessionFault) (after : Around K D)
          → LineEnds model write e (index + 1) state bytes (Err why) now after → (begun : Option (ℕ × ℕ))
          → AddsRow model.disks after.disk begun now.marks after.marks now.others after.others
          → GoesOn model write e first (Err (session_fault why)) old new start after
      failed why after ends begun adds set before starts =
          let was = so_far.from_any set before starts in
          let few = few_given was answers within in
          let read = read_first (read_brought {Q = Last set before} bytes was brought answers progress within
          (λ line lines handed so_far. (line, handed, lines, refl, so_far))) in
          let last = read.good in
          let told = subst (λ (ls : List (Option (List ℕ))). OfSource old new (StopsBehind ls)) last.3
          (told_with read.told few) in
          line_failed model write e election set first before start starts last.2 state index now last.4 old new last.0
          bytes last.1 told (steady ∙ same) after begun adds why ends
        where
          -- all of these lines but the last one were handled
          Last : List Ballot → Around K D → List (Option (List ℕ)) → Type 0
          Last set before all = (line : Option (List ℕ)) × (handed : IsHanded line bytes)
              × (lines : List (Option (List ℕ))) × (all ≡ lines ++ line ∷ [])
              × SoFar model write e set lines state index before now
