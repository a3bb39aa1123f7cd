-- A session on both disks is what the command promises of each.
use Rattle.std.proofs.Common.{◌≡◌, ◌≢◌, ◌⊎◌, ℕ, ◌+◌, ◌≤◌, List, [], ◌∷◌, map, length, Option, None, Result, Ok, Err, inl, inr, refl, sym, ◌∙◌, subst, arith}
use Rattle.store_spec.proofs.Common.{Ballot, DiskModel, Effect, Election, Plays, State, acknowledged_in, begun, map-id, map-map}
use Rattle.std.specs.Prelude.{All}
use Rattle.outside_io.specs.Outside.{Input, Output}
use Rattle.phase_gate.specs.Around.{with_rows}
use Rattle.any_store.specs.Disks.{one_store}
use Rattle.any_store.specs.Disks.StoreDisks.{Alone}
use Rattle.run_outcome.specs.Status.{ended_as}
use Rattle.run_outcome.specs.World.{Reported}
use Rattle.run_outcome.specs.declared.status.Status.{Status}
use Rattle.session_commands.specs.Session.{run_status}
use Rattle.session_run.specs.Ends.{BegunWith, HandlingEnds}
use Rattle.session_run.specs.History.{Acknowledged, Stood, Tried}
use Rattle.session_run.specs.declared.fault.RunFault.{RunFault}
use Rattle.session_run.specs.declared.fault.RunFault.TheVariants as run
use Rattle.twin_commands.proofs.Both.{Begins, IsTwin, both, both_lead, first_counts, first_side, marked_by, no_fault_in, second_counts, second_side, shift_of}
use Rattle.twin_commands.proofs.Handles.{at_checkpoint, handled}
use Rattle.twin_commands.proofs.Sides.{side_acknowledged, side_crashes, side_marked, side_once}
use Rattle.twin_commands.specs.Twin.{TwinBlames, TwinHandles, TwinPlays, around_disk}
use Rattle.twin_media.specs.Leads.{TwinFails}
use Rattle.twin_media.specs.State.{TwinState}

-- how both disks and the twin over them went on
module _ {A B T : Type 0} (m : DiskModel A) (one_leads : A → A → Type 0) (n : DiskModel B) (two_leads : B → B → Type 0) (view : T → TwinState A B) (twins : IsTwin m one_leads n two_leads view) (start mid now : T)
    (begins : Begins m one_leads n two_leads view start) (to_mid : both_lead m one_leads n two_leads view start mid) (steady : (view mid).faults ≡ (view start).faults) (next : (view mid).calls ≡ (view start).calls + 1)
    (leads : both_lead m one_leads n two_leads view start now) (alike : (view now).failed ≡ None → m.seen (view now).first ≡ n.seen (view now).second)
    (marks : List ℕ) (stood : Stood (Alone (both m one_leads n two_leads view)) (both_lead m one_leads n two_leads view) mid now marks) where
  all : All (λ mark. mark ≤ (view now).passed) marks
  all = marked_by m one_leads n two_leads view twins start mid now marks begins.none to_mid steady stood

  called : (view start).calls + 1 ≤ (view now).passed
  called =
      let mid_none : (view mid).failed ≡ None = to_mid.none_failed steady ∙ begins.none in
      let passed = (twins.counted mid).all_passed mid_none in
      let first = stood.before.passed in
      let second = stood.after.passed in
      omega (arith, next, passed, first, second)

  abbrev pub others : List ℕ
  others = map (shift_of m one_leads n two_leads view start) marks

  module _ {S K : Type 0} (e : Election) (set : List Ballot) (lines : List (Option (List ℕ))) (effects : List Effect) (state : State) (a : Status) (old new : Input S) (sink sunk : Output K) (held : ℕ) (rows : List (List ℕ)) where
    module _ (none : (view now).failed ≡ None) where
      ends : ((view now).failed ≡ None) ⊎ TwinFails (view start) (view now)
      ends = inl none

      pub first_apart : (sets : List (List Ballot)) → Acknowledged (both m one_leads n two_leads view) e set sets start now marks → Acknowledged m e set sets (view start).first (view now).first marks
      first_apart sets was =
          subst (Acknowledged m e set sets (view start).first (view now).first) (map-id marks)
          (side_acknowledged (both m one_leads n two_leads view) m e start now (view start).first (view now).first (view now).passed (λ k. k) (first_side m one_leads n two_leads view twins start now begins leads ends) set
          marks sets was.marked all called refl (first_counts m one_leads n two_leads view twins start now begins leads ends none) (λ bytes sees. begins.law (view now).first bytes sees) (leads.steady none).0 was)

      pub second_apart : (sets : List (List Ballot)) → Acknowledged (both m one_leads n two_leads view) e set sets start now marks → Acknowledged n e set sets (view start).second (view now).second others
      second_apart sets was =
          side_acknowledged (both m one_leads n two_leads view) n e start now (view start).second (view now).second (view now).passed (shift_of m one_leads n two_leads view start) (second_side m one_leads n two_leads view twins start now begins leads ends) set
          marks sets was.marked all called (sym (alike none)) (second_counts m one_leads n two_leads view twins start now begins leads ends none) (λ bytes sees. begins.other_law (view now).second bytes sees) (leads.steady none).1 was

      both_handled : (answer : Result (Unit {0}) RunFault) → answer ≢ Err run.DiskFault
          → HandlingEnds (one_store (both m one_leads n two_leads view)) (λ text. text) e set lines effects state answer old new (around_disk sink start [] (length set)) (with_rows (around_disk sunk now marks held) rows)
          → HandlingEnds (one_store m) (λ text. text) e set lines effects state answer old new (around_disk sink (view start).first [] (length set)) (around_disk sunk (view now).first marks held)
          × HandlingEnds (one_store n) (λ text. text) e set lines effects state answer old new (around_disk sink (view start).second [] (length set)) (around_disk sunk (view now).second others held)
      both_handled answer not was = (
        handled (both m one_leads n two_leads view) m (λ text. text) e set lines effects state old new sink sunk start now (view start).first (view now).first marks marks (length set) held rows first_apart answer not was,
        handled (both m one_leads n two_leads view) n (λ text. text) e set lines effects state old new sink sunk start now (view start).second (view now).second marks others (length set) held rows second_apart answer not was,
      )

    not_failed : (answer : Result (Unit {0}) RunFault) → answer ≢ Err run.DiskFault
        → HandlingEnds (one_store (both m one_leads n two_leads view)) (λ text. text) e set lines effects state answer old new (around_disk sink start [] (length set)) (with_rows (around_disk sunk now marks held) rows) → (view now).failed ≡ None
    not_failed answer not was = leads.none_failed (no_fault_in (both m one_leads n two_leads view) (λ text. text) e set lines effects state answer old new sink sunk start now marks (length set) held rows not was) ∙ begins.none

    went_well : (answer : Result (Unit {0}) RunFault) → (not : answer ≢ Err run.DiskFault)
        → HandlingEnds (one_store (both m one_leads n two_leads view)) (λ text. text) e set lines effects state answer old new (around_disk sink start [] (length set)) (with_rows (around_disk sunk now marks held) rows)
        → HandlingEnds (one_store m) (λ text. text) e set lines effects state answer old new (around_disk sink (view start).first [] (length set)) (around_disk sunk (view now).first marks held)
        × HandlingEnds (one_store n) (λ text. text) e set lines effects state answer old new (around_disk sink (view start).second [] (length set)) (around_disk sunk (view now).second others held)
    went_well answer not was = both_handled (not_failed answer not was) answer not was

    -- where a checkpoint failed
    first_tried : TwinFails (view start) (view now) → Tried (both m one_leads n two_leads view) e set start now marks (acknowledged_in effects) state.set → Tried m e set (view start).first (view now).first marks (acknowledged_in effects) state.set
    first_tried fails was =
        let side = first_side m one_leads n two_leads view twins start now begins leads (inr fails) in
        subst (λ marks. Tried m e set (view start).first (view now).first marks (acknowledged_in effects) state.set) (map-id marks) (record {
          told = leads.first.told;
          marked = side_marked (both m one_leads n two_leads view) m e start now (view start).first (view now).first (view now).passed (λ k. k) side set marks (acknowledged_in effects) was.marked all called;
          crashes = side_crashes (both m one_leads n two_leads view) m e start now (view start).first (view now).first (view now).passed (λ k. k) side set marks (acknowledged_in effects) was.marked all called (state.set ∷ []) was.crashes;
          once_synced = side_once (both m one_leads n two_leads view) m e start now (view start).first (view now).first (view now).passed (λ k. k) side set marks (acknowledged_in effects) was.marked all called (state.set ∷ []) was.once_synced;
        })

    second_tried : TwinFails (view start) (view now) → Tried (both m one_leads n two_leads view) e set start now marks (acknowledged_in effects) state.set → Tried n e set (view start).second (view now).second others (acknowledged_in effects) state.set
    second_tried fails was =
        let side = second_side m one_leads n two_leads view twins start now begins leads (inr fails) in
        let shift = shift_of m one_leads n two_leads view start in
        record {
          told = leads.second.told;
          marked = side_marked (both m one_leads n two_leads view) n e start now (view start).second (view now).second (view now).passed shift side set marks (acknowledged_in effects) was.marked all called;
          crashes = side_crashes (both m one_leads n two_leads view) n e start now (view start).second (view now).second (view now).passed shift side set marks (acknowledged_in effects) was.marked all called (state.set ∷ []) was.crashes;
          once_synced = side_once (both m one_leads n two_leads view) n e start now (view start).second (view now).second (view now).passed shift side set marks (acknowledged_in effects) was.marked all called (state.set ∷ []) was.once_synced;
        }

    both_handle : (answer : Result (Unit {0}) RunFault) → (answer ≡ Err run.DiskFault → TwinFails (view start) (view now)) → (answer ≢ Err run.DiskFault → a ≡ ended_as run_status answer)
        → (answer ≡ Err run.DiskFault → TwinBlames m n (view start).first (view now).first (view start).second (view now).second a)
        → HandlingEnds (one_store (both m one_leads n two_leads view)) (λ text. text) e set lines effects state answer old new (around_disk sink start [] (length set)) (with_rows (around_disk sunk now marks held) rows)
        → TwinHandles m n e set lines effects state answer a old new (around_disk sink (view start).first [] (length set)) (around_disk sunk (view now).first marks held) (around_disk sink (view start).second [] (length set)) (around_disk sunk (view now).second others held)
    both_handle (Err run.DiskFault) fails told blame was = (
      at_checkpoint (both m one_leads n two_leads view) m (λ text. text) e set lines effects state old new sink sunk start now (view start).first (view now).first marks marks (length set) held rows was.0.stops,
      first_tried (fails refl) was.0.tried,
      second_tried (fails refl) was.0.tried,
      blame refl,
      was.1,
      was.2,
    )
    both_handle (Ok done) fails told blame was = let both = went_well (Ok done) (λ is. cc) was in (told (λ is. cc), both.0, both.1)
    both_handle (Err run.TooLong) fails told blame was = let both = went_well (Err run.TooLong) (λ is. cc) was in (told (λ is. cc), both.0, both.1)
    both_handle (Err run.ReadFault) fails told blame was = let both = went_well (Err run.ReadFault) (λ is. cc) was in (told (λ is. cc), both.0, both.1)
    both_handle (Err run.WriteFault) fails told blame was = let both = went_well (Err run.WriteFault) (λ is. cc) was in (told (λ is. cc), both.0, both.1)
    both_handle (Err run.Memory) fails told blame was = let both = went_well (Err run.Memory) (λ is. cc) was in (told (λ is. cc), both.0, both.1)
    both_handle (Err other) fails told blame was = absurd was

  -- the lists of marks are those of the second disk
  lists_of : (report : Reported) → report.others ≡ map (λ mark. shift_of m one_leads n two_leads view start mark ∷ []) marks → report.others ≡ map (λ mark. mark ∷ []) others
  lists_of report is = is ∙ sym (map-map (λ (mark : ℕ). mark ∷ []) (shift_of m one_leads n two_leads view start) marks)

  pub twin_plays : {S K : Type 0} (e : Election) (set : List Ballot) (a : Status) (report : Reported) (old new : Input S) (sink sunk : Output K) (answer : Result (Unit {0}) RunFault)
      → report.marks ≡ marks → report.others ≡ map (λ mark. shift_of m one_leads n two_leads view start mark ∷ []) marks
      → (answer ≡ Err run.DiskFault → TwinFails (view start) (view now)) → (answer ≢ Err run.DiskFault → a ≡ ended_as run_status answer)
      → (answer ≡ Err run.DiskFault → TwinBlames m n (view start).first (view now).first (view start).second (view now).second a)
      → BegunWith (one_store (both m one_leads n two_leads view)) (λ text. text) e set answer old new (around_disk sink start [] (length set)) (with_rows (around_disk sunk now marks report.held) report.others)
      → TwinPlays m n e set a report old new sink sunk (view start).first (view now).first (view start).second (view now).second
  twin_plays e set a report old new sink sunk answer same lists fails told blame one =
      let b = one.0 in
      record {
        answer = answer;
        lines = b.lines;
        effects = b.effects;
        state = b.state;
        plays = subst (λ set. Plays e 1 (begun set) b.lines b.effects b.state) one.1 b.plays;
        marks = others;
        others = lists_of report lists;
        handles = subst (λ ms. TwinHandles m n e set b.lines b.effects b.state answer a old new (around_disk sink (view start).first [] (length set)) (around_disk sunk (view now).first ms report.held) (around_disk sink (view start).second [] (length set)) (around_disk sunk (view now).second others report.held)) (sym same)
            (both_handle e set b.lines b.effects b.state a old new sink sunk report.held report.others answer fails told blame
            (subst (λ set_here. HandlingEnds (one_store (both m one_leads n two_leads view)) (λ text. text) e set_here b.lines b.effects b.state answer old new (around_disk sink start [] (length set)) (with_rows (around_disk sunk now marks report.held) report.others)) one.1 b.ends));
      }
