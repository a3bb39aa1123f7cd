-- How a run of a session begins: the medium is recovered, or it is refused.
use Rattle.std.proofs.Common.{◌≡◌, ℕ, ◌<◌, ◌≤◌, List, [], length, Option, Some, None, Result, Ok, Err, refl, arith, ap, sym, subst, ◌∙◌, inl, inr, ⊎_elim, append-nil}
use Rattle.store_spec.proofs.Common.{Ballot, CountsFaultIf, DiskModel, Election, HoldsSet, HoldsTheSame, IfSome, IsBallotSet, IsErrAnd, IsErrOf, IsMediumOf, IsSettled, IsWithinLimit, LeavesOnlyOnceSynced, State, SyncsFirst, after_calls, begun, is_some, last_count, leaves_now}
use Rattle.body_store.specs.Contents.{Contents, IsStored}
use Rattle.crash_disk.proofs.Moments.{started, syncs_first}
use Rattle.outside_io.specs.Outside.{Input, Output}
use Rattle.outside_io.specs.Stream.{TakesAll}
use Rattle.outside_io.specs.Told.{IfTold}
use Rattle.phase_gate.specs.Around.{Around}
use Rattle.any_store.specs.Checkpointed.{IsMediumNow}
use Rattle.any_store.specs.Disks.{StoreModel, one_store}
use Rattle.recovery.specs.Refused.{IsRefusedMedium, IsUnchangedAt, IsUnharmedAt}
use Rattle.recovery.specs.declared.fault.RecoverFault.{RecoverFault}
use Rattle.recovery.specs.declared.fault.RecoverFault.TheVariants as recover
use Rattle.session_run.proofs.SoFar.{SoFar}
use Rattle.session_run.proofs.Stops.{first_of}
use Rattle.session_run.specs.Ends.{HasBegun, SessionEnds}
use Rattle.session_run.specs.Faults.{run_fault}
use Rattle.session_run.specs.History.{Acknowledged, HoldsOnceSynced, LosesNothing}
use Rattle.session_run.specs.declared.fault.RunFault.{RunFault}

-- the answer that was made of a fault
pub answer_is : (r : Result (Unit {0}) RunFault) (fault : RunFault) → IsErrAnd r (λ f. f ≡ fault) → r ≡ Err fault
answer_is (Ok done) fault is = absurd is
answer_is (Err f) fault is = ap Err is

-- what is said of the bytes now, where they are told
pub now_told : (a b : Option (List ℕ)) (P : List ℕ → Type 0) → IfTold a b (λ _ y. P y) → IfSome b P
now_told a None P told = tt
now_told None (Some y) P told = absurd (let some = told.told in cc)
now_told (Some x) (Some y) P told = told.related x y refl refl

always : (a : Option (List ℕ)) → IfSome a (λ _. Unit {0})
always None = tt
always (Some x) = tt

-- the answer of a recovery that failed for this reason
pub counts_of : {T : Type 0} {was now : ℕ} (why : RecoverFault)
    → CountsFaultIf (IsErrOf {T = T} (Err why) recover.DiskFault) was now
    → CountsFaultIf (why ≡ recover.DiskFault) was now
counts_of why fault = record {
  never_falls = fault.never_falls;
  steady = λ other. fault.steady (λ is. other (cc));
  rose = λ is. fault.rose (ap Err is);
}

module _ {D : Type 0} (model : DiskModel D) (e : Election) where
  -- no call was made
  still : (set : List Ballot) (disk : D) → LosesNothing model e set disk disk [] [] []
  still set disk = λ one below m low high image left.
      let is : m ≡ after_calls (model.calls disk) = omega arith in
      first_of (HoldsSet e image) set [] (one.images image (subst (λ t. model.may_leave disk t image) is left))

  -- a recovery loses nothing
  pub recovered : (set : List Ballot) (before after : D)
      → ((bytes : List ℕ) → model.seen before ≡ Some bytes → SyncsFirst model.calls model.may_leave before after
      (HoldsTheSame e bytes)) → LosesNothing model e set before after [] [] []
  recovered set before after any_moment = λ one below m low high image left.
      let run = syncs_first model.calls model.may_leave before after (λ c. HoldsSet e c set)
      (HoldsTheSame e one.bytes) one.images (λ c same. same (Some set) one.held) (any_moment one.bytes one.seen) in
      first_of (HoldsSet e image) set [] (run.each below m low high image left)

  -- nor does it where a crash at its start might have left anything else
  synced : (set : List Ballot) (before after : D) (bytes : List ℕ) → HoldsSet e bytes set
      → (model.calls after < last_count → model.calls before < model.calls after)
      → LeavesOnlyOnceSynced model.calls model.may_leave before after (HoldsTheSame e bytes)
      → model.calls after < last_count → HoldsOnceSynced model e set before after [] [] []
  synced set before after bytes held called run below = record {
    early = run.before below;
    marked = omega (arith, called below);
    late = λ m low high image left. first_of (HoldsSet e image) set []
        (run.each below m low high image left (Some set) held);
  }

  module _ {S K : Type 0} (write : List ℕ → List ℕ) (script : Input S) (before : Around K D)
      (none_marked : before.marks ≡ []) (none_held : before.held ≡ 0) where
    -- there was no memory before anything was done
    pub no_memory : SessionEnds model write e (Err (run_fault recover.Memory)) script script before before
    no_memory = inl (
      recover.Memory,
      refl,
      record {
        script = refl;
        sink = refl;
        marks = none_marked;
        held = none_held;
        refused = inl (refl, refl);
        unchanged = refl;
        told = refl;
        unharmed = λ bytes sees. started model.calls model.may_leave before.disk
            (leaves_now model.calls model.may_leave before.disk) (λ image left. left);
        crashes = λ set. still set before.disk;
        once_synced = λ set bytes sees held. inl refl;
        fault = record {
          never_falls = omega arith;
          steady = λ _. refl;
          rose = λ is. absurd (let clash : recover.Memory ≡ recover.DiskFault = is in cc);
        };
      },
    )

    -- the medium was refused
    pub refused : (why : RecoverFault) (after : D)
        → IfSome (model.seen before.disk) (λ bytes. IsRefusedMedium e bytes why)
        → IsUnchangedAt why (model.seen before.disk) (model.seen after)
        → ((bytes : List ℕ) → model.seen before.disk ≡ Some bytes → IsUnharmedAt model e bytes why before.disk after)
        → is_some (model.seen after) ≡ is_some (model.seen before.disk)
        → ((bytes : List ℕ) → model.seen before.disk ≡ Some bytes → SyncsFirst model.calls model.may_leave before.disk
        after (HoldsTheSame e bytes))
        → (model.calls after < last_count → model.calls before.disk < model.calls after) → CountsFaultIf (why ≡ recover.DiskFault) (model.faults before.disk)
        (model.faults after)
        → SessionEnds model write e (Err (run_fault why)) script script before
        (record { sink = before.sink; disk = after; marks = before.marks; others = before.others; held = before.held })
    refused why after reason same unharmed told any_moment called fault = inl (
      why,
      refl,
      record {
        script = refl;
        sink = refl;
        marks = none_marked;
        held = none_held;
        refused = inr reason;
        unchanged = same;
        told = told;
        unharmed = unharmed;
        crashes = λ set. recovered set before.disk after any_moment;
        once_synced = λ set bytes sees held. ⊎_elim
            (λ run. inr (inr (synced set before.disk after bytes held called run))) (λ kept. inr (inl kept))
            (any_moment bytes sees);
        fault = fault;
      },
    )

-- a sink that took nothing
pub takes_none : (a : Option (List ℕ)) → TakesAll a [] a
takes_none None = refl
takes_none (Some x) = ap Some (sym (append-nil x))

-- a recovery that did not fail
pub no_failure : {T : Type 0} {x : T} {why : RecoverFault} {was now : ℕ} → CountsFaultIf (IsErrOf (Ok x) why) was now
    → now ≡ was
no_failure fault = fault.steady (λ failed. cc)

-- the disk is the medium of the set that was recovered
pub medium_now : {D : Type 0} (model : DiskModel D) (e : Election) (set : List Ballot) (old new : D)
    → IsSettled model.seen model.calls model.may_leave new
    → IfTold (model.seen old) (model.seen new) (λ _ bytes. IsMediumOf e bytes set) → IsMediumNow model e set new
medium_now model e set old new settled told = record {
  settled = settled;
  medium = now_told (model.seen old) (model.seen new) (λ bytes. IsMediumOf e bytes set) told;
}

pub medium_of : {D : Type 0} (model : DiskModel D) (e own : Election) (set : List Ballot) (old new : D) → e ≡ own
    → IsSettled model.seen model.calls model.may_leave new
    → IfTold (model.seen old) (model.seen new) (λ _ bytes. IsMediumOf e bytes set)
    → (set : List Ballot) × IsMediumNow model own set new
medium_of {D} model e own set old new is settled told = (
  set,
  subst (λ (e : Election). IsMediumNow model e set new) is
      (medium_now model e set old new settled told),
)

-- a session has begun with the set that was recovered
pub has_begun : {K D : Type 0} (model : DiskModel D) (e : Election) (closed : Contents) (state : State)
    (before : Around K D) (after : D) (held : ℕ)
    → IfSome (model.seen before.disk) (λ bytes. HoldsSet e bytes closed.ballots) → closed.election ≡ e
    → IsStored closed → state ≡ begun closed.ballots → before.marks ≡ [] → held ≡ length closed.ballots
    → is_some (model.seen after) ≡ is_some (model.seen before.disk) → IsMediumNow model e closed.ballots after
    → model.calls before.disk ≤ model.calls after → model.faults after ≡ model.faults before.disk
    → (model.calls after < last_count → model.calls before.disk < model.calls after)
    → ((bytes : List ℕ) → model.seen before.disk ≡ Some bytes → LeavesOnlyOnceSynced model.calls model.may_leave
    before.disk after (HoldsTheSame e bytes))
    → HasBegun (one_store model) e closed.ballots state before (record
    { sink = before.sink; disk = after; marks = before.marks; others = before.others; held = held })
has_begun model e closed state before after held read own stored is none count told medium later steady called
    once_synced = record {
      held = read;
      legal = subst (λ (e : Election). IsBallotSet e closed.ballots) own stored.set;
      within_limit = subst (λ (e : Election). IsWithinLimit e closed.ballots) own stored.within_limit;
      state_is = is;
      sink = refl;
      acknowledged = subst (λ marks. Acknowledged model e closed.ballots [] before.disk after marks) (sym none) (record {
        told = told;
        medium = medium;
        marked = later;
        crashes = recovered model e closed.ballots before.disk after (λ bytes sees. inl (once_synced bytes sees));
        once_synced = λ bytes sees holds. synced model e closed.ballots before.disk after bytes holds called
            (once_synced bytes sees);
        no_fault = steady;
      });
      count = count;
    }

-- and no line was handled yet
pub begins : {K D : Type 0} (model : StoreModel D) (write : List ℕ → List ℕ) (e : Election) (set : List Ballot)
    (state : State) (before now : Around K D) → HasBegun model e set state before now
    → SoFar model write e set [] state 0 before now
begins {K} model write e set state before now starts = record {
  effects = [];
  plays = starts.state_is;
  counted = refl;
  taken = subst (λ (s : Output K). TakesAll before.sink.taken [] s.taken) (sym starts.sink)
      (takes_none before.sink.taken);
  acknowledged = starts.acknowledged;
  held = starts.count ∙ ap (λ (s : State). length s.set) (sym starts.state_is);
  no_fault = ap (λ (s : Output K). s.faults) starts.sink;
}

-- a call that did not fail so
pub no_fault : {T E : Type 0} {x : T} {why : E} {was now : ℕ} → CountsFaultIf (Ok x ≡ Err why) was now → now ≡ was
no_fault fault = fault.steady (λ failed. cc)
