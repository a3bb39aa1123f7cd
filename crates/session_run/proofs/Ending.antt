-- How a session ends that began.
use Rattle.std.proofs.Common.{◌≡◌, ℕ, ◌+◌, List, [], ◌∷◌, ◌++◌, length, take, Option, Some, None, Result, Ok, Err, refl, arith, ap, sym, subst, ◌∙◌, inl, inr, ⊎_elim, append_assoc}
use Rattle.store_spec.proofs.Common.{AnswersBy, Ballot, Checkpoint, Election, IsElection, Rose, Says, State, acknowledged_in, last_reply}
use Rattle.outside_io.specs.Outside.{Input, Output}
use Rattle.outside_io.specs.Reading.{ReadLines}
use Rattle.outside_io.specs.Reading.Ending.{Faulted, ReadOut, TooMuch}
use Rattle.outside_io.specs.Stream.{TakesAll}
use Rattle.outside_io.proofs.Told.{told_as}
use Rattle.outside_io.specs.declared.lines.LineEndFault.TheVariants as line
use Rattle.phase_gate.specs.Around.{Around}
use Rattle.phase_gate.specs.Beside.{AddsRow}
use Rattle.phase_gate.specs.Checkpointed.{Acknowledges}
use Rattle.any_store.specs.Disks.{StoreModel}
use Rattle.phase_gate.specs.LineEnds.{IsHalfWritten, IsUncheckpointed, LastEnds, LineEnds}
use Rattle.phase_gate.specs.declared.fault.SessionFault.{SessionFault}
use Rattle.phase_gate.specs.declared.fault.SessionFault.TheVariants as session
use Rattle.session_run.proofs.Acknowledging.{acknowledged_then, rose_then, tried_then}
use Rattle.session_run.proofs.Beginning.{takes_none}
use Rattle.session_run.proofs.SoFar.{IsHanded, SoFar, answers_handed, nothing_says, taken_then}
use Rattle.session_run.proofs.SoFar.IsHanded.{whole, wide}
use Rattle.session_run.specs.Ends.{BegunWith, HandlingEnds, HasBegun, IsDiskFailed, IsInterrupted, OfSource, StopsBehind}
use Rattle.session_run.specs.Ends.ComesNext.{to_end, to_line}
use Rattle.session_run.specs.Faults.{line_fault, session_fault}
use Rattle.session_run.specs.History.{AreTried, Wrote, written_by}
use Rattle.session_run.specs.declared.fault.RunFault.{RunFault}

-- the same, and the sink is another
abbrev pub with_sink : {K D : Type 0} → Around K D → Output K → Around K D
with_sink around sink = record {
  sink = sink;
  disk = around.disk;
  marks = around.marks;
  others = around.others;
  held = around.held;
}

module _ {K D : Type 0} (model : StoreModel D) (write : List ℕ → List ℕ) (e : Election) (election : IsElection e)
    (set : List Ballot) (first : State) (before start : Around K D) (starts : HasBegun model e set first before start)
  where
    began : {S : Type 0} (lines : List (Option (List ℕ))) (state : State) (index : ℕ) (mid now : Around K D)
        (so_far : SoFar model write e set lines state index before mid) (answer : Result (Unit {0}) RunFault)
        (old new : Input S)
        → HandlingEnds model write e set lines so_far.effects state answer old new before now
        → BegunWith model write e set answer old new before now
    began lines state index mid now so_far answer old new ends = (
      record {
        set = set;
        held = starts.held;
        legal = starts.legal;
        within_limit = starts.within_limit;
        lines = lines;
        effects = so_far.effects;
        state = state;
        plays = so_far.plays;
        ends = ends;
      },
      refl,
    )

    module _ (lines : List (Option (List ℕ))) (state : State) (index : ℕ) (mid : Around K D)
        (so_far : SoFar model write e set lines state index before mid) where
      -- what was written of the reply that comes next, and acknowledged
      wrote : (rest : List ℕ) (more : List (List Ballot)) (now : Around K D)
          → TakesAll mid.sink.taken rest now.sink.taken
          → Acknowledges model.disks e more mid.disk now.disk mid.marks now.marks → (begun : Option (ℕ × ℕ))
          → AddsRow model.disks now.disk begun mid.marks now.marks mid.others now.others
          → Wrote model write e set so_far.effects rest more before now
      wrote rest more now takes did begun adds = record {
        taken = taken_then before.sink.taken mid.sink.taken now.sink.taken (written_by write so_far.effects) rest
            so_far.taken takes;
        acknowledged = acknowledged_then e election set before.disk mid.disk now.disk model.disks
            (acknowledged_in so_far.effects) more begun mid.marks now.marks mid.others now.others so_far.acknowledged did
            adds;
      }

      -- the script has ended, and what comes last was written
      pub played_out : {S : Type 0} (old new : Input S) (sink : Output K)
          → OfSource old new (λ text left. ReadLines ReadOut text left lines) → new.faults ≡ old.faults
          → LastEnds write state.phase (Ok tt) mid.sink sink
          → BegunWith model write e set (Ok tt) old new before (with_sink mid sink)
      played_out old new sink read steady last =
          began lines state index mid (with_sink mid sink) so_far (Ok tt) old new (
            read,
            wrote (write (last_reply state.phase)) [] (with_sink mid sink) last.0 (refl, refl) None (inl (refl, refl)),
            so_far.held,
            steady,
            last.1 ∙ so_far.no_fault,
          )

      -- it has, and what comes last was not written whole
      pub cut_off : {S : Type 0} (old new : Input S) (sink : Output K) (why : SessionFault)
          → OfSource old new (λ text left. ReadLines ReadOut text left lines) → new.faults ≡ old.faults
          → LastEnds write state.phase (Err why) mid.sink sink
          → BegunWith model write e set (Err (session_fault why)) old new before (with_sink mid sink)
      cut_off old new sink session.DiskFault read steady last = absurd last
      cut_off old new sink session.WriteFault read steady last =
          began lines state index mid (with_sink mid sink) so_far (Err (session_fault session.WriteFault)) old new
          (half, steady, subst (λ n. Rose n sink.faults) so_far.no_fault last.1)
        where
          half : IsInterrupted model write e set lines so_far.effects state old new before (with_sink mid sink)
          half = record {
            reply = last_reply state.phase;
            more = [];
            next = to_end read refl refl so_far.held;
            count = last.0.0;
            wrote = wrote (take last.0.0 (write (last_reply state.phase))) [] (with_sink mid sink) last.0.1 (refl, refl)
                None (inl (refl, refl));
          }
      cut_off old new sink session.Memory read steady last =
          began lines state index mid (with_sink mid sink) so_far (Err (session_fault session.Memory)) old new
          (inr half, steady, last.1 ∙ so_far.no_fault)
        where
          half : IsInterrupted model write e set lines so_far.effects state old new before (with_sink mid sink)
          half = record {
            reply = last_reply state.phase;
            more = [];
            next = to_end read refl refl so_far.held;
            count = last.0.0;
            wrote = wrote (take last.0.0 (write (last_reply state.phase))) [] (with_sink mid sink) last.0.1 (refl, refl)
                None (inl (refl, refl));
          }

      -- no further line came
      pub too_much : {S : Type 0} (old new : Input S)
          → OfSource old new (λ text left. ReadLines TooMuch text left lines) → new.faults ≡ old.faults
          → BegunWith model write e set (Err (line_fault line.TooLong)) old new before mid
      too_much old new read steady =
          began lines state index mid mid so_far (Err (line_fault line.TooLong)) old new
          (read, wrote [] [] mid (takes_none mid.sink.taken) (refl, refl) None (inl (refl, refl)), so_far.held, steady, so_far.no_fault)

      pub unread : {S : Type 0} (old new : Input S) → OfSource old new (λ text left. ReadLines Faulted text left lines)
          → Rose old.faults new.faults → BegunWith model write e set (Err (line_fault line.ReadFault)) old new before mid
      unread old new read rose =
          began lines state index mid mid so_far (Err (line_fault line.ReadFault)) old new
          (read, wrote [] [] mid (takes_none mid.sink.taken) (refl, refl) None (inl (refl, refl)), so_far.held, rose, so_far.no_fault)

      -- one more line came, and was not handled to its end
      module _ {S : Type 0} (old new : Input S) (line : Option (List ℕ)) (bytes : List ℕ) (handed : IsHanded line bytes)
          (read : OfSource old new (StopsBehind (lines ++ line ∷ []))) (steady : new.faults ≡ old.faults)
          (now : Around K D) (begun : Option (ℕ × ℕ))
          (adds : AddsRow model.disks now.disk begun mid.marks now.marks mid.others now.others) where
        half_told : IsHalfWritten model write e (index + 1) state bytes mid now
            → IsInterrupted model write e set lines so_far.effects state old new before now
        half_told half =
            let effect = half.effect in
            let is : index + 1 ≡ length lines + 1 = omega (arith, so_far.counted) in
            let answers = subst (λ n. AnswersBy (model.closes e) e n state line effect) is
            (answers_handed (model.closes e) e (index + 1) state line bytes effect handed half.answers) in
            record {
              reply = effect.reply;
              more = effect.acknowledged;
              next = to_line line effect read answers refl refl half.done.held;
              count = half.taken.0;
              wrote = wrote (take half.taken.0 (write effect.reply)) effect.acknowledged now half.taken.1
                  half.done.acknowledged begun adds;
            }

        unmade : IsUncheckpointed model e state bytes mid now
            → IsDiskFailed model write e set lines so_far.effects state old new before now
        unmade failed = record {
          stops = record {
            line = bytes;
            read = subst (λ l. OfSource old new (StopsBehind (lines ++ l ∷ [])))
                (handed_whole line bytes handed failed.says) read;
            says = failed.says;
            closed = failed.closed;
            taken = subst (λ sink. TakesAll before.sink.taken (written_by write so_far.effects) sink)
                (ap (λ (s : Output K). s.taken) (sym failed.sink)) so_far.taken;
            held = failed.held ∙ so_far.held;
          };
          tried = subst (λ rows. AreTried model.disks e set before.disk now.disk now.marks rows
              (acknowledged_in so_far.effects) state.set) (sym failed.others)
              (subst (λ marks. AreTried model.disks e set before.disk now.disk marks mid.others
              (acknowledged_in so_far.effects) state.set) (sym failed.marks)
              (tried_then e election set before.disk mid.disk now.disk model.disks (acknowledged_in so_far.effects)
              state.set mid.marks mid.others so_far.acknowledged failed.fails));
          rose = rose_then e election set before.disk mid.disk now.disk model.disks (acknowledged_in so_far.effects)
              state.set mid.marks mid.others so_far.acknowledged failed.fails;
        }
          where
            handed_whole : (line : Option (List ℕ)) (bytes : List ℕ) → IsHanded line bytes → Says e bytes Checkpoint
                → line ≡ Some bytes
            handed_whole _ _ (whole bytes) says = refl
            handed_whole _ _ wide says = absurd (nothing_says e Checkpoint says)

        pub line_failed : (why : SessionFault) → LineEnds model write e (index + 1) state bytes (Err why) mid now
            → BegunWith model write e set (Err (session_fault why)) old new before now
        line_failed session.DiskFault failed =
            began lines state index mid now so_far (Err (session_fault session.DiskFault)) old new
            (unmade failed, steady, ap (λ (s : Output K). s.faults) failed.sink ∙ so_far.no_fault)
        line_failed session.WriteFault half =
            began lines state index mid now so_far (Err (session_fault session.WriteFault)) old new
            (half_told half.0, steady, subst (λ n. Rose n now.sink.faults) so_far.no_fault half.1)
        line_failed session.Memory ends =
            began lines state index mid now so_far (Err (session_fault session.Memory)) old new
            (⊎_elim
            (λ (same : now ≡ mid). subst (λ (a : Around K D). MemoryEnds a) (sym same) (
              inl (
                told_as read (λ x y some. (
                  (line ∷ some.0.0, some.0.1 ∙ append_assoc lines (line ∷ []) some.0.0),
                  some.1,
                )),
                wrote [] [] mid (takes_none mid.sink.taken) (refl, refl) None (inl (refl, refl)),
                so_far.held,
              ),
              steady,
              so_far.no_fault,
            ))
            (λ half. (inr (half_told half.0), steady, half.1 ∙ so_far.no_fault))
            ends)
          where
            MemoryEnds : Around K D → Type 0
            MemoryEnds after = HandlingEnds model write e set lines so_far.effects state
                (Err (session_fault session.Memory)) old new before after
