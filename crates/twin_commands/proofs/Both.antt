-- A session on a disk over two disks, as a session on each of them.
use Rattle.std.proofs.Common.{◌≡◌, ◌≢◌, ◌⊎◌, ℕ, ◌+◌, ◌-◌, ◌<◌, ◌≤◌, min, List, [], length, Option, Some, None, Result, Ok, Err, ⊎_elim, refl, sym, ◌∙◌, subst, arith}
use Rattle.store_spec.proofs.Common.{Ballot, DiskModel, Effect, Election, IsSettled, State, after_calls, last_count, leaves_now}
use Rattle.std.specs.Prelude.{All}
use Rattle.outside_io.specs.Outside.{Input, Output}
use Rattle.any_store.specs.Disks.{one_store}
use Rattle.any_store.specs.Disks.StoreDisks.{Alone}
use Rattle.phase_gate.specs.Around.{with_rows}
use Rattle.session_run.specs.Ends.{HandlingEnds, IsInterrupted, OfSource, StopsBehind}
use Rattle.session_run.specs.History.{Stood, Wrote}
use Rattle.session_run.specs.declared.fault.RunFault.{RunFault}
use Rattle.session_run.specs.declared.fault.RunFault.TheVariants as run
use Rattle.twin_commands.proofs.Sides.{IsSide}
use Rattle.twin_commands.specs.Twin.{around_disk}
use Rattle.twin_media.proofs.Apart.{first-left, second-left}
use Rattle.twin_media.specs.Counts.{AreCounted}
use Rattle.twin_media.specs.Leads.{TwinFails, TwinLeads}
use Rattle.twin_media.specs.State.{TwinState, second_moment, twin_leaves}

-- where no checkpoint failed, no count of faults rose
pub no_fault_in : {S K T : Type 0} (model : DiskModel T) (write : List ℕ → List ℕ) (e : Election) (set : List Ballot) (lines : List (Option (List ℕ))) (effects : List Effect) (state : State) (answer : Result (Unit {0}) RunFault) (old new : Input S) (sink sunk : Output K) (start now : T) (marks : List ℕ) (count held : ℕ) (rows : List (List ℕ))
    → answer ≢ Err run.DiskFault → HandlingEnds (one_store model) write e set lines effects state answer old new (around_disk sink start [] count) (with_rows (around_disk sunk now marks held) rows) → model.faults now ≡ model.faults start
no_fault_in model write e set lines effects state (Ok done) old new sink sunk start now marks count held rows not ends = ends.1.acknowledged.no_fault
no_fault_in model write e set lines effects state (Err run.TooLong) old new sink sunk start now marks count held rows not ends = ends.1.acknowledged.no_fault
no_fault_in model write e set lines effects state (Err run.ReadFault) old new sink sunk start now marks count held rows not ends = ends.1.acknowledged.no_fault
no_fault_in model write e set lines effects state (Err run.DiskFault) old new sink sunk start now marks count held rows not ends = absurd (not refl)
no_fault_in model write e set lines effects state (Err run.WriteFault) old new sink sunk start now marks count held rows not ends = ends.0.wrote.acknowledged.no_fault
no_fault_in model write e set lines effects state (Err run.Memory) old new sink sunk start now marks count held rows not ends =
    ⊎_elim
    (λ (none : OfSource old new (StopsBehind lines) × Wrote (one_store model) write e set effects [] [] (around_disk sink start [] count) (with_rows (around_disk sunk now marks held) rows) × (held ≡ length state.set)). none.1.acknowledged.no_fault)
    (λ (cut : IsInterrupted (one_store model) write e set lines effects state old new (around_disk sink start [] count) (with_rows (around_disk sunk now marks held) rows)). cut.wrote.acknowledged.no_fault)
    ends.0
no_fault_in model write e set lines effects state (Err other) old new sink sunk start now marks count held rows not ends = absurd ends

module _ {A B T : Type 0} (m : DiskModel A) (leads : A → A → Type 0) (n : DiskModel B) (other_leads : B → B → Type 0) (view : T → TwinState A B) where
  abbrev pub both : DiskModel T
  both = record {
    seen = λ t. m.seen (view t).first;
    calls = λ t. (view t).calls;
    may_leave = λ t. twin_leaves m.calls m.may_leave n.calls n.may_leave (view t);
    faults = λ t. (view t).faults;
  }

  abbrev pub both_lead : T → T → Type 0
  both_lead old new = TwinLeads m leads n other_leads (view old) (view new)

  -- what is so of each twin, and how one was when it began
  pub record IsTwin : Type 0 where
    pub counted : (t : T) → AreCounted (view t).failed (m.calls (view t).first) (n.calls (view t).second) (view t).first_begun (view t).second_begun (view t).passed (view t).calls
    pub bounded : (d : B) → n.calls d ≤ last_count
    pub alike : (t : T) → (view t).failed ≡ None → m.seen (view t).first ≡ n.seen (view t).second
    pub itself : (t : T) → both_lead t t

  pub record Begins (t : T) : Type 0 where
    pub none : (view t).failed ≡ None
    pub calls : (view t).calls ≡ m.calls (view t).first
    pub passed : (view t).passed ≡ m.calls (view t).first
    pub first_begun : (view t).first_begun ≡ m.calls (view t).first
    pub second_begun : (view t).second_begun ≡ n.calls (view t).second
    pub few : m.calls (view t).first + 2 < last_count
    pub alike : m.seen (view t).first ≡ n.seen (view t).second
    pub settled : IsSettled both.seen both.calls both.may_leave t
    pub law : (d : A) (bytes : List ℕ) → m.seen d ≡ Some bytes → leaves_now m.calls m.may_leave d bytes
    pub other_law : (d : B) (bytes : List ℕ) → n.seen d ≡ Some bytes → leaves_now n.calls n.may_leave d bytes

  abbrev pub shift_of : T → ℕ → ℕ
  shift_of start k = min (k - m.calls (view start).first + n.calls (view start).second) last_count

  module _ (twins : IsTwin) (start now : T) (begins : Begins start) (run : both_lead start now) (ends : ((view now).failed ≡ None) ⊎ TwinFails (view start) (view now)) where
    passed_below : (view now).passed + 1 < last_count
    passed_below = let few = begins.few in run.counts (omega (arith, begins.passed, few))

    pub below : (view now).calls < last_count
    below = ⊎_elim
        (λ (none : (view now).failed ≡ None). let all = (twins.counted now).all_passed none in omega (arith, all, passed_below))
        (λ (fails : TwinFails (view start) (view now)). let most = fails begins.none in omega (arith, most, passed_below))
        ends

    first_at : (view now).first_begun ≡ m.calls (view start).first
    first_at = run.first_begun ∙ begins.first_begun

    second_at : (view now).second_begun ≡ n.calls (view start).second
    second_at = run.second_begun ∙ begins.second_begun

    pub first_side : IsSide both m start now (view start).first (view now).first (view now).passed (λ k. k)
    first_side =
        let counts = twins.counted now in
        record {
          few = omega (arith, begins.calls, first_at, counts.begun);
          shifts = λ k from to. omega (arith, begins.calls);
          here = λ j low high c left.
              let is : j ≡ j - after_calls (m.calls (view start).first) + after_calls (both.calls start) = omega (arith, begins.calls, low) in
              subst (λ i. both.may_leave now i c) is (first-left m leads n other_leads view now j c high left);
          ends = omega (arith, begins.calls, counts.first_passed);
          later = omega (arith, begins.calls, counts.first_counted);
          below = below;
          seen = refl;
          told = run.first.told;
          law = begins.law (view start).first;
          settled = begins.settled;
        }

    pub second_side : IsSide both n start now (view start).second (view now).second (view now).passed (shift_of start)
    second_side =
        let counts = twins.counted now in
        let most = twins.bounded (view now).second in
        record {
          few = omega (arith, begins.calls, first_at, counts.begun);
          shifts = λ k from to.
              let under : k - m.calls (view start).first + n.calls (view start).second ≤ last_count = omega (arith, begins.calls, first_at, second_at, counts.second_passed, most, from, to) in
              omega (arith, begins.calls, under, from);
          here = λ j low high c left.
              let i : ℕ = j - after_calls (n.calls (view start).second) + after_calls (both.calls start) in
              let at : second_moment (view now) i ≡ j = omega (arith, begins.calls, first_at, second_at, low) in
              second-left m leads n other_leads view now i j c high at left;
          ends = omega (arith, begins.calls, first_at, second_at, counts.second_passed);
          later = omega (arith, begins.calls, first_at, second_at, counts.second_counted);
          below = below;
          seen = sym begins.alike;
          told = run.second.told;
          law = begins.other_law (view start).second;
          settled = begins.settled;
        }

    -- where none failed, each count is that of the twin
    module _ (none : (view now).failed ≡ None) where
      pub first_counts : m.calls (view now).first + both.calls start ≡ both.calls now + m.calls (view start).first
      first_counts = let counts = twins.counted now in omega (arith, begins.calls, counts.first_passed, counts.first_counted, counts.all_passed none)

      pub second_counts : n.calls (view now).second + both.calls start ≡ both.calls now + n.calls (view start).second
      second_counts = let counts = twins.counted now in omega (arith, begins.calls, first_at, second_at, counts.second_passed, counts.second_counted, counts.all_passed none)

  -- all marks were made by calls that did not fail
  pub marked_by : (twins : IsTwin) (start mid now : T) (marks : List ℕ) → (view start).failed ≡ None → both_lead start mid → both.faults mid ≡ both.faults start → Stood (Alone both) both_lead mid now marks → All (λ mark. mark ≤ (view now).passed) marks
  marked_by twins start mid now marks none run same stood =
      let mid_none : (view mid).failed ≡ None = run.none_failed same ∙ none in
      let at_none : (view stood.mid).failed ≡ None = stood.before.none_failed stood.stands.steady ∙ mid_none in
      let all : (view stood.mid).calls ≡ (view stood.mid).passed = (twins.counted stood.mid).all_passed at_none in
      let most : (view stood.mid).passed ≤ (view now).passed = stood.after.passed in
      λ k d within. let le = stood.stands.marked k d within in omega (arith, le, all, most)
