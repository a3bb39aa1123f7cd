-- A session on the disks of all parts, said of the disks themselves.
use Rattle.std.proofs.Common.{◌≡◌, ◌-◌, ◌^◌, ℕ, List, [], length, Option, None, Some, Result, Ok, Err, refl, sym, ap, subst, ◌∙◌, ◌≤◌}
use Rattle.store_spec.proofs.Common.{Ballot, DiskModel, Election, State, begun, of_parts, share}
use Rattle.any_store.specs.Disks.{StoreModel, store_model}
use Rattle.any_store.specs.Disks.StoreDisks.{Parted}
use Rattle.outside_io.specs.Outside.{Input, Output}
use Rattle.part_commands.proofs.Lifting.{goes_on_back}
use Rattle.part_commands.specs.Handled.{EndsAs, only_held}
use Rattle.part_commands.specs.Part.{IsStatusOf, disk_status}
use Rattle.parted_store.specs.Leads.{OnePartFails}
use Rattle.parted_store.specs.Slots.{along, models_of, parted_disks}
use Rattle.partition_store.specs.Parted.{bits_of}
use Rattle.phase_gate.specs.Around.{Around}
use Rattle.phase_gate.specs.Writing.{written_of}
use Rattle.phase_gate.specs.declared.writing.Writing.{Writing}
use Rattle.phase_gate.specs.declared.writing.Writing.TheVariants.{All}
use Rattle.run_outcome.specs.World.{nothing_reported}
use Rattle.run_outcome.specs.declared.status.Status.{Status}
use Rattle.session_commands.specs.Session.{with_report}
use Rattle.session_run.specs.Ends.{BegunWith, GoesOn, HasBegun}
use Rattle.session_run.specs.declared.fault.RunFault.{RunFault}
use Rattle.session_run.specs.declared.fault.RunFault.TheVariants as run

-- ---- the status

module _ {D : Type 0} (model : DiskModel D) (a : Status) (last : ℕ) (one after : D) (more now : List D) (size : last ≡ length more) where
  -- the disk that is told is the one that failed
  failed_so : (failed : Option ℕ) → EndsAs (Err run.DiskFault) failed a → OnePartFails last (models_of model model) failed (one, more) (after, now) → IsStatusOf model (Err run.DiskFault) a one after more now
  failed_so None tells fails = let told = fails.1.blamed.told in absurd cc
  failed_so (Some part) tells fails =
      let told = fails.1.blamed.told in
      let same : fails.0 ≡ part = cc in (
        fails.0,
        tells ∙ ap disk_status (sym same),
        record {
          blamed = record {
            within = subst (λ n. fails.0 ≤ n) size fails.1.blamed.within;
            told = refl;
            rose = fails.1.blamed.rose;
          };
          others = λ j few other. fails.1.others j (subst (λ n. j ≤ n) (sym size) few) other;
        },
      )

  pub status_is : (answer : Result (Unit {0}) RunFault) (failed : Option ℕ) → EndsAs answer failed a → (answer ≡ Err run.DiskFault → OnePartFails last (models_of model model) failed (one, more) (after, now))
      → IsStatusOf model answer a one after more now
  status_is (Err run.DiskFault) failed tells fails = failed_so failed tells (fails refl)
  status_is (Ok done) failed tells fails = tells
  status_is (Err other) failed tells fails = tells

-- ---- the session

module _ {D S K T : Type 0} (model : DiskModel D) (at : S → D × List D) (bits : ℕ) (e : Election) (set : List Ballot) (answer : Result (Unit {0}) RunFault) (old new : Input T) (sink : Output K) (start : S) (after : Around K S) where
  -- the value that has just begun, with this report
  abbrev begins_at : List ℕ → List (List ℕ) → ℕ → Around K S
  begins_at marks rows held = record { sink = sink; disk = start; marks = marks; others = rows; held = held }

  abbrev inside : StoreModel S
  inside = store_model (of_parts bits) (Parted (2 ^ bits - 1) (λ i. along (models_of model model i) at) (share bits))

  -- from here on the session goes so
  abbrev Goes : ℕ → ℕ → D × List D → Type 0
  Goes bits more from = HasBegun (store_model (of_parts bits) (parted_disks model model bits more)) e set (begun set) (with_report sink from nothing_reported) (with_report sink (at start) (only_held (length set)))
      → BegunWith (store_model (of_parts bits) (parted_disks model model bits more)) (λ text. text) e set answer old new (with_report sink from nothing_reported)
      (record { sink = after.sink; disk = at after.disk; marks = after.marks; others = after.others; held = after.held })

  pub handled : (t : Writing) (own : Election) (s : State) (marks : List ℕ) (rows : List (List ℕ)) (held more : ℕ) → t ≡ All → own ≡ e → s ≡ begun set → marks ≡ [] → rows ≡ [] → held ≡ length set
      → 2 ^ bits - 1 ≡ more → bits ≡ bits_of more → GoesOn inside (written_of t) own s answer old new (begins_at marks rows held) after → (from : D × List D) (value : S) → at value ≡ from → Goes (bits_of more) more from
  handled t own s marks rows held more writing same state none no_rows count size parts goes from value stands =
      let here : GoesOn inside (λ text. text) e (begun set) answer old new (begins_at [] [] (length set)) after =
      subst (λ held. GoesOn inside (λ text. text) e (begun set) answer old new (begins_at [] [] held) after) count
      (subst (λ rows. GoesOn inside (λ text. text) e (begun set) answer old new (begins_at [] rows held) after) no_rows
      (subst (λ marks. GoesOn inside (λ text. text) e (begun set) answer old new (begins_at marks rows held) after) none
      (subst (λ s. GoesOn inside (λ text. text) e s answer old new (begins_at marks rows held) after) state
      (subst (λ e. GoesOn inside (λ text. text) e s answer old new (begins_at marks rows held) after) same
      (subst (λ t. GoesOn inside (written_of t) own s answer old new (begins_at marks rows held) after) writing goes))))) in
      subst (λ bits. Goes bits more from) parts
      (subst (λ more. Goes bits more from) size
      (goes_on_back (of_parts bits) (2 ^ bits - 1) (models_of model model) (share bits) at (λ text. text) e answer old new (begun set) (begins_at [] [] (length set)) after here set
      (with_report sink from nothing_reported) value stands))
