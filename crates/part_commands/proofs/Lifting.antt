-- What a session does to disks that stand in a value, said of the disks themselves.
use Rattle.std.proofs.Common.{◌≡◌, ⊎_elim, ℕ, List, [], ◌∷◌, length, map, Option, Result, Ok, Err, inl, inr, subst, sym}
use Rattle.store_spec.proofs.Common.{Ballot, Closes, DiskModel, Effect, Election, State, acknowledged_in}
use Rattle.any_store.specs.Checkpointed.{IsMediumNow}
use Rattle.any_store.specs.Disks.{StoreModel, store_model}
use Rattle.any_store.specs.Disks.StoreDisks.{Parted}
use Rattle.outside_io.specs.Outside.{Input}
use Rattle.parted_store.specs.Slots.{along}
use Rattle.phase_gate.specs.Around.{Around}
use Rattle.session_run.specs.Ends.{BegunWith, GoesOn, HandlingEnds, HasBegun, IsAtCheckpoint, IsDiskFailed, IsInterrupted, OfSource, StopsBehind}
use Rattle.session_run.specs.History.{Acknowledged, AreAcknowledged, AreTried, FailedAlone, HoldsOnceSynced, HoldsOne, Tried, Wrote, column, latest}
use Rattle.session_run.specs.declared.fault.RunFault.{RunFault}
use Rattle.session_run.specs.declared.fault.RunFault.TheVariants as run

-- ---- one disk

module _ {S X : Type 0} (model : DiskModel X) (at : S → X) (e : Election) (set : List Ballot) where
  medium_back : (now : S) → IsMediumNow (along model at) e set now → IsMediumNow model e set (at now)
  medium_back now is = record { settled = is.settled; medium = is.medium }

  medium_along : (now : S) → IsMediumNow model e set (at now) → IsMediumNow (along model at) e set now
  medium_along now is = record { settled = is.settled; medium = is.medium }

  pub one_back : (now : S) → HoldsOne (along model at) e set now → HoldsOne model e set (at now)
  one_back now one = record { bytes = one.bytes; seen = one.seen; held = one.held; images = one.images }

  pub one_along : (now : S) → HoldsOne model e set (at now) → HoldsOne (along model at) e set now
  one_along now one = record { bytes = one.bytes; seen = one.seen; held = one.held; images = one.images }

  module _ (old new : S) (marks : List ℕ) (acknowledged tried : List (List Ballot)) where
    synced_back : HoldsOnceSynced (along model at) e set old new marks acknowledged tried → HoldsOnceSynced model e set (at old) (at new) marks acknowledged tried
    synced_back did = record { early = did.early; marked = did.marked; late = did.late }

    synced_along : HoldsOnceSynced model e set (at old) (at new) marks acknowledged tried → HoldsOnceSynced (along model at) e set old new marks acknowledged tried
    synced_along did = record { early = did.early; marked = did.marked; late = did.late }

module _ {S X : Type 0} (model : DiskModel X) (at : S → X) (e : Election) (set : List Ballot) (acknowledged : List (List Ballot)) (old new : S) (marks : List ℕ) where
  acknowledged_back : Acknowledged (along model at) e set acknowledged old new marks → Acknowledged model e set acknowledged (at old) (at new) marks
  acknowledged_back did = record {
    told = did.told;
    medium = medium_back model at e (latest set acknowledged) new did.medium;
    marked = did.marked;
    crashes = λ one below. did.crashes (one_along model at e set old one) below;
    once_synced = λ bytes sees held below. synced_back model at e set old new marks acknowledged [] (did.once_synced bytes sees held below);
    no_fault = did.no_fault;
  }

  pub acknowledged_along : Acknowledged model e set acknowledged (at old) (at new) marks → Acknowledged (along model at) e set acknowledged old new marks
  acknowledged_along did = record {
    told = did.told;
    medium = medium_along model at e (latest set acknowledged) new did.medium;
    marked = did.marked;
    crashes = λ one below. did.crashes (one_back model at e set old one) below;
    once_synced = λ bytes sees held below. synced_along model at e set old new marks acknowledged [] (did.once_synced bytes sees held below);
    no_fault = did.no_fault;
  }

  tried_back : (tried : List Ballot) → Tried (along model at) e set old new marks acknowledged tried → Tried model e set (at old) (at new) marks acknowledged tried
  tried_back tried did = record {
    told = did.told;
    marked = did.marked;
    crashes = λ one below. did.crashes (one_along model at e set old one) below;
    once_synced = λ bytes sees held below. synced_back model at e set old new marks acknowledged (tried ∷ []) (did.once_synced bytes sees held below);
  }

-- ---- all disks

module _ {S X : Type 0} (closes : Election → Closes) (more : ℕ) (models : ℕ → DiskModel X) (parts : ℕ → List Ballot → List Ballot) (at : S → X) where
  -- the machine over the value, and that over the disks
  abbrev within : StoreModel S
  within = store_model closes (Parted more (λ i. along (models i) at) parts)

  abbrev itself : StoreModel X
  itself = store_model closes (Parted more models parts)

  module _ {K : Type 0} where
    abbrev pub moved : Around K S → Around K X
    moved around = record { sink = around.sink; disk = at around.disk; marks = around.marks; others = around.others; held = around.held }

    module _ (e : Election) (set : List Ballot) (before after : Around K S) where
      all_back : (acknowledged : List (List Ballot)) → AreAcknowledged within.disks e set acknowledged before.disk after.disk after.marks after.others
          → AreAcknowledged itself.disks e set acknowledged (at before.disk) (at after.disk) after.marks after.others
      all_back acknowledged did = (
        did.0,
        λ i few. acknowledged_back (models i) at e (parts i set) (map (parts i) acknowledged) before.disk after.disk (column after.marks after.others i) (did.1 i few),
      )

      all_along : (acknowledged : List (List Ballot)) → AreAcknowledged itself.disks e set acknowledged (at before.disk) (at after.disk) after.marks after.others
          → AreAcknowledged within.disks e set acknowledged before.disk after.disk after.marks after.others
      all_along acknowledged did = (
        did.0,
        λ i few. acknowledged_along (models i) at e (parts i set) (map (parts i) acknowledged) before.disk after.disk (column after.marks after.others i) (did.1 i few),
      )

      all_tried_back : (acknowledged : List (List Ballot)) (tried : List Ballot) → AreTried within.disks e set before.disk after.disk after.marks after.others acknowledged tried
          → AreTried itself.disks e set (at before.disk) (at after.disk) after.marks after.others acknowledged tried
      all_tried_back acknowledged tried did = (
        did.0,
        λ i few. tried_back (models i) at e (parts i set) (map (parts i) acknowledged) before.disk after.disk (column after.marks after.others i) (parts i tried) (did.1 i few),
      )

      failed_back : (last tried : List Ballot) (i : ℕ) → FailedAlone more (λ i. along (models i) at) parts e last tried before.disk after.disk i
          → FailedAlone more models parts e last tried (at before.disk) (at after.disk) i
      failed_back last tried i did = record {
        within = did.within;
        rose = did.rose;
        steady = did.steady;
        done = λ j lt. medium_back (models j) at e (parts j tried) after.disk (did.done j lt);
        uncalled = λ j behind few. medium_back (models j) at e (parts j last) after.disk (did.uncalled j behind few);
      }

      module _ (write : List ℕ → List ℕ) (effects : List Effect) where
        wrote_back : (rest : List ℕ) (acknowledged : List (List Ballot)) → Wrote within write e set effects rest acknowledged before after
            → Wrote itself write e set effects rest acknowledged (moved before) (moved after)
        wrote_back rest acknowledged did = record { taken = did.taken; acknowledged = all_back _ did.acknowledged }

        module _ {T : Type 0} (lines : List (Option (List ℕ))) (state : State) (old new : Input T) where
          interrupted_back : IsInterrupted within write e set lines effects state old new before after → IsInterrupted itself write e set lines effects state old new (moved before) (moved after)
          interrupted_back did = record { reply = did.reply; more = did.more; next = did.next; count = did.count; wrote = wrote_back _ did.more did.wrote }

          checkpoint_back : IsAtCheckpoint write e lines effects state old new before after → IsAtCheckpoint write e lines effects state old new (moved before) (moved after)
          checkpoint_back did = record { line = did.line; read = did.read; says = did.says; closed = did.closed; taken = did.taken; held = did.held }

          disk_failed_back : IsDiskFailed within write e set lines effects state old new before after → IsDiskFailed itself write e set lines effects state old new (moved before) (moved after)
          disk_failed_back did = record {
            stops = checkpoint_back did.stops;
            tried = all_tried_back (acknowledged_in effects) state.set did.tried;
            rose = (did.rose.0, failed_back (latest set (acknowledged_in effects)) state.set did.rose.0 did.rose.1);
          }

          handling_back : (answer : Result (Unit {0}) RunFault) → HandlingEnds within write e set lines effects state answer old new before after
              → HandlingEnds itself write e set lines effects state answer old new (moved before) (moved after)
          handling_back (Ok done) did = (did.0, wrote_back _ [] did.1, did.2, did.3, did.4)
          handling_back (Err run.TooLong) did = (did.0, wrote_back [] [] did.1, did.2, did.3, did.4)
          handling_back (Err run.ReadFault) did = (did.0, wrote_back [] [] did.1, did.2, did.3, did.4)
          handling_back (Err run.DiskFault) did = (disk_failed_back did.0, did.1, did.2)
          handling_back (Err run.WriteFault) did = (interrupted_back did.0, did.1, did.2)
          handling_back (Err run.Memory) did = (
            ⊎_elim
                (λ (none : OfSource old new (StopsBehind lines) × Wrote within write e set effects [] [] before after × (after.held ≡ length state.set)). inl (none.0, wrote_back [] [] none.1, none.2))
                (λ (cut : IsInterrupted within write e set lines effects state old new before after). inr (interrupted_back cut))
                did.0,
            did.1,
            did.2,
          )
          handling_back (Err other) did = absurd did

    module _ {T : Type 0} (write : List ℕ → List ℕ) (e : Election) (answer : Result (Unit {0}) RunFault) (old new : Input T) where
      begun_back : (set : List Ballot) (before after : Around K S) → BegunWith within write e set answer old new before after → BegunWith itself write e set answer old new (moved before) (moved after)
      begun_back set before after did =
          let one = did.0 in (
            record {
              set = one.set;
              held = one.held;
              legal = one.legal;
              within_limit = one.within_limit;
              lines = one.lines;
              effects = one.effects;
              state = one.state;
              plays = one.plays;
              ends = handling_back e one.set before after write one.effects one.lines one.state old new answer one.ends;
            },
            did.1,
          )

      -- a session that goes on over the value goes on over the disks, from each state of the disks that stands in a value
      pub goes_on_back : (state : State) (now after : Around K S) → GoesOn within write e state answer old new now after
          → (set : List Ballot) (before : Around K X) (from : S) → at from ≡ before.disk → HasBegun itself e set state before (moved now) → BegunWith itself write e set answer old new before (moved after)
      goes_on_back state now after goes set before from stands begins =
          let low : Around K S = record { sink = before.sink; disk = from; marks = before.marks; others = before.others; held = before.held } in
          let there : HasBegun itself e set state (moved low) (moved now) =
          subst (λ (x : X). HasBegun itself e set state (record { sink = before.sink; disk = x; marks = before.marks; others = before.others; held = before.held }) (moved now)) (sym stands) begins in
          let starts : HasBegun within e set state low now = record {
            held = there.held;
            legal = there.legal;
            within_limit = there.within_limit;
            state_is = there.state_is;
            sink = there.sink;
            acknowledged = all_along e set low now [] there.acknowledged;
            count = there.count;
          } in
          subst (λ (x : X). BegunWith itself write e set answer old new (record { sink = before.sink; disk = x; marks = before.marks; others = before.others; held = before.held }) (moved after)) stands
          (begun_back set low after (goes set low starts))
