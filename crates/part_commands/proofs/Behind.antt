-- A disk was looked at and recovered: what a session on it finds, seen from its start, or from behind the look.
use Rattle.std.proofs.Common.{◌≡◌, ◌⊎◌, ◌<◌, ◌≤◌, ⊎_elim, ℕ, List, [], Some, sym, ap, subst, ◌∙◌, arith}
use Rattle.store_spec.proofs.Common.{Ballot, DiskModel, EachCrashImage, Election, HoldsSet, HoldsTheSame, IsElection, IsMediumOf, KeepsCrashImages, LeavesOnly, LeavesOnlyOnceSynced, SyncsFirst, after_calls, cases_lt, inside_next, is_some, last_count, leaves_now}
use Rattle.any_store.specs.Checkpointed.{IsMediumNow}
use Rattle.crash_disk.proofs.Moments.{once_weaker, started, synced_first, weaker}
use Rattle.image_builder.proofs.Held.{medium_holds, one_held}
use Rattle.partition_store.specs.Opening.{HoldsThroughout, Recovers}
use Rattle.recovery.specs.ReadsOnly.{WritesNothing}
use Rattle.recovery.specs.Refused.{HoldsSetOf}
use Rattle.run_outcome.proofs.Laws.{at_told}
use Rattle.session_run.proofs.Beginning.{recovered}
use Rattle.session_run.proofs.Stops.{first_of}
use Rattle.session_run.specs.History.{Acknowledged, HoldsOne}

-- The disk was looked at and recovered, which gave this set.
pub record WasOpened {D : Type 0} (model : DiskModel D) (e : Election) (set : List Ballot) (start looked ready : D) : Type 0 where
  pub reads : WritesNothing model.seen model.calls model.may_leave start looked
  pub recovers : Recovers model e looked ready
  pub medium : IsMediumNow model e set ready
  pub throughout : HoldsThroughout model e start ready
  pub steady : model.faults looked ≡ model.faults start
  pub no_fault : model.faults ready ≡ model.faults start
  pub called : model.calls ready < last_count → model.calls looked < model.calls ready

module _ {D : Type 0} (model : DiskModel D) (e : Election) (set : List Ballot) (start looked ready : D) (valid : IsElection e) (was : WasOpened model e set start looked ready) where
  syncs : model.calls ready < last_count → (bytes : List ℕ) → model.seen looked ≡ Some bytes → SyncsFirst model.calls model.may_leave looked ready (HoldsTheSame e bytes)
  syncs below bytes sees = ⊎_elim
      (λ (same : ready ≡ looked). let more = was.called below in absurd (omega (arith, more, ap model.calls same)))
      (λ (run : SyncsFirst model.calls model.may_leave looked ready (HoldsTheSame e bytes)). run)
      (was.recovers.once_synced bytes sees)

  holds_now : (image : List ℕ) → leaves_now model.calls model.may_leave ready image → HoldsSet e image set
  holds_now image left = medium_holds e image set valid (at_told (model.seen ready) image (λ bytes. IsMediumOf e bytes set) ((was.medium.settled image).0 left) was.medium.medium)

  -- from the return of its first sync on a crash leaves the set
  once : model.calls ready < last_count → (bytes : List ℕ) → model.seen looked ≡ Some bytes → HoldsSet e bytes set → LeavesOnlyOnceSynced model.calls model.may_leave looked ready (λ image. HoldsSet e image set)
  once below bytes sees held = ⊎_elim
      (λ (run : LeavesOnlyOnceSynced model.calls model.may_leave looked ready (HoldsTheSame e bytes)).
      once_weaker model.calls model.may_leave looked ready (HoldsTheSame e bytes) (λ image. HoldsSet e image set) (λ image same. same (Some set) held) run)
      (λ (fails : KeepsCrashImages model.calls model.may_leave looked ready).
      synced_first model.calls model.may_leave looked ready ready (λ image. HoldsSet e image set) fails.at_most (started model.calls model.may_leave ready (λ image. HoldsSet e image set) holds_now))
      (syncs below bytes sees)

  -- seen from behind the look
  pub from_looked : Acknowledged model e set [] looked ready []
  from_looked = record {
    told = was.recovers.told;
    medium = was.medium;
    marked = was.recovers.later;
    crashes = λ one below. recovered model e set looked ready (syncs below) one below;
    once_synced = λ bytes sees held below.
        let run = once below bytes sees held in
        let more = was.called below in
        record {
          early = run.before below;
          marked = omega (arith, more);
          late = λ m low high image left. first_of (HoldsSet e image) set [] (run.each below m low high image left);
        };
    no_fault = was.no_fault ∙ sym was.steady;
  }

  -- until a recovery begins a crash leaves what it might have left at the start
  early : (bytes : List ℕ) → model.seen looked ≡ Some bytes → HoldsSet e bytes set → model.calls ready < last_count
      → EachCrashImage (model.may_leave ready) (after_calls (model.calls start)) (inside_next (model.calls start)) (leaves_now model.calls model.may_leave start)
  early bytes sees held below m low high image left =
      let run = once below bytes sees held in
      let more = was.called below in
      let later = was.reads.any_moment.later in
      ⊎_elim
      (λ (behind : after_calls (model.calls looked) < m). was.reads.any_moment.now image (run.before below m (omega (arith, behind)) (omega (arith, high, later)) image left))
      (λ (not : m ≤ after_calls (model.calls looked)). was.reads.any_moment.each (omega (arith, more, below)) m low not image ((run.past below m not image).0 left))
      (cases_lt (after_calls (model.calls looked)) m)

  -- seen from the start, where each crash image held the set
  pub from_start : HoldsOne model e set start → Acknowledged model e set [] start ready []
  from_start one =
      let here : LeavesOnly model.calls model.may_leave start ready (λ image. HoldsSet e image set) =
      weaker model.calls model.may_leave start ready (λ image. leaves_now model.calls model.may_leave start image ⊎ HoldsSetOf e one.bytes image) (λ image. HoldsSet e image set)
      (λ image. ⊎_elim (one.images image)
      (λ (holds : HoldsSetOf e one.bytes image).
      let both : Some holds.0 ≡ Some set = one_held e one.bytes (Some holds.0) (Some set) valid holds.1 one.held in
      let same : holds.0 ≡ set = cc in
      subst (λ (s : List Ballot). HoldsSet e image s) same holds.2))
      (was.throughout one.bytes one.seen) in
      let later = was.reads.any_moment.later in
      record {
        told = was.recovers.told ∙ ap is_some was.reads.same_bytes;
        medium = was.medium;
        marked = here.later;
        crashes = λ other below m low high image left. first_of (HoldsSet e image) set [] (here.each below m low high image left);
        once_synced = λ bytes sees held below.
            let more = was.called below in
            record {
              early = early bytes (was.reads.same_bytes ∙ sees) held below;
              marked = omega (arith, more, later);
              late = λ m low high image left. first_of (HoldsSet e image) set [] (here.each below m (omega (arith, low)) high image left);
            };
        no_fault = was.no_fault;
      }

  -- seen from either
  pub from_either : (from : D) → (from ≡ looked) ⊎ ((from ≡ start) × HoldsOne model e set start) → Acknowledged model e set [] from ready []
  from_either from either = ⊎_elim
      (λ (same : from ≡ looked). subst (λ d. Acknowledged model e set [] d ready []) (sym same) from_looked)
      (λ (begins : (from ≡ start) × HoldsOne model e set start). subst (λ d. Acknowledged model e set [] d ready []) (sym begins.0) (from_start begins.1))
      either
