-- How the handling of lines ended on one of two disks, by how it ended on the disk over both.
use Rattle.std.proofs.Common.{◌≡◌, ◌≢◌, ℕ, List, [], Option, Result, Ok, Err, inl, inr, ⊎_elim, refl}
use Rattle.store_spec.proofs.Common.{Ballot, DiskModel, Effect, Election, State}
use Rattle.outside_io.specs.Outside.{Input, Output}
use Rattle.phase_gate.specs.Around.{Around, with_rows}
use Rattle.any_store.specs.Disks.{one_store}
use Rattle.session_run.specs.Ends.{HandlingEnds, IsAtCheckpoint, IsInterrupted, OfSource, StopsBehind}
use Rattle.session_run.specs.History.{Acknowledged, Wrote}
use Rattle.session_run.specs.declared.fault.RunFault.{RunFault}
use Rattle.session_run.specs.declared.fault.RunFault.TheVariants as run
use Rattle.twin_commands.specs.Twin.{around_disk}

module _ {S K T D : Type 0} (both : DiskModel T) (own : DiskModel D) (write : List ℕ → List ℕ) (e : Election) (set : List Ballot) (lines : List (Option (List ℕ))) (effects : List Effect) (state : State) (old new : Input S)
    (sink sunk : Output K) (start now : T) (s d : D) (marks own_marks : List ℕ) (count held : ℕ) (rows : List (List ℕ)) where
  abbrev pub of_both : Around K T
  of_both = around_disk sink start [] count

  abbrev pub both_now : Around K T
  both_now = with_rows (around_disk sunk now marks held) rows

  abbrev pub of_own : Around K D
  of_own = around_disk sink s [] count

  abbrev pub own_now : Around K D
  own_now = around_disk sunk d own_marks held

  pub at_checkpoint : IsAtCheckpoint write e lines effects state old new (around_disk sink start [] count) (with_rows (around_disk sunk now marks held) rows) → IsAtCheckpoint write e lines effects state old new (around_disk sink s [] count) (around_disk sunk d own_marks held)
  at_checkpoint at = record { line = at.line; read = at.read; says = at.says; closed = at.closed; taken = at.taken; held = at.held }

  module _ (apart : (sets : List (List Ballot)) → Acknowledged both e set sets start now marks → Acknowledged own e set sets s d own_marks) where
    wrote : (rest : List ℕ) (more : List (List Ballot)) → Wrote (one_store both) write e set effects rest more of_both both_now → Wrote (one_store own) write e set effects rest more of_own own_now
    wrote rest more was = record { taken = was.taken; acknowledged = apart _ was.acknowledged }

    interrupted : IsInterrupted (one_store both) write e set lines effects state old new of_both both_now → IsInterrupted (one_store own) write e set lines effects state old new of_own own_now
    interrupted was = record { reply = was.reply; more = was.more; next = was.next; count = was.count; wrote = wrote _ was.more was.wrote }

    pub handled : (answer : Result (Unit {0}) RunFault) → answer ≢ Err run.DiskFault → HandlingEnds (one_store both) write e set lines effects state answer old new of_both both_now
        → HandlingEnds (one_store own) write e set lines effects state answer old new (around_disk sink s [] count) (around_disk sunk d own_marks held)
    handled (Ok done) not was = (was.0, wrote _ [] was.1, was.2, was.3, was.4)
    handled (Err run.TooLong) not was = (was.0, wrote [] [] was.1, was.2, was.3, was.4)
    handled (Err run.ReadFault) not was = (was.0, wrote [] [] was.1, was.2, was.3, was.4)
    handled (Err run.DiskFault) not was = absurd (not refl)
    handled (Err run.WriteFault) not was = (interrupted was.0, was.1, was.2)
    handled (Err run.Memory) not was = (
      ⊎_elim
          (λ (none : OfSource old new (StopsBehind lines) × Wrote (one_store both) write e set effects [] [] of_both both_now × (held ≡ _)). inl (none.0, wrote [] [] none.1, none.2))
          (λ (cut : IsInterrupted (one_store both) write e set lines effects state old new of_both both_now). inr (interrupted cut))
          was.0,
      was.1,
      was.2,
    )
    handled (Err other) not was = absurd was
