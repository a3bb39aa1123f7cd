-- Two disks were paired, and then made one.
use Rattle.std.proofs.Common.{◌≡◌, ℕ, ◌<◌, List, Some, inl, inr, ⊎_elim, sym, ◌∙◌, subst}
use Rattle.store_spec.proofs.Common.{Ballot, DiskModel, Election, HoldsSet, IsBallotSet, IsWithinLimit, LeavesOnly, LeavesOnlyOnceSynced, Rose, is_some, last_count}
use Rattle.crash_disk.proofs.Moments.{synced_then, weaker}
use Rattle.checkpoint.proofs.Pages.{told_back}
use Rattle.outside_io.specs.Outside.{Input, Output}
use Rattle.run_outcome.specs.World.{Reported}
use Rattle.run_outcome.specs.declared.status.Status.{Status}
use Rattle.run_outcome.specs.declared.status.Status.TheVariants as status
use Rattle.twin_commands.specs.Twin.{Continues, IsReady, TwinBlames, TwinEnds}
use Rattle.twin_media.specs.Pairing.{BothKept, IsKeptOr, IsPaired, IsPairSet}
use Rattle.twin_media.specs.declared.pairing.Paired.{Paired}

module _ {D : Type 0} (model : DiskModel D) where
  -- counts of faults that did not rise in the pairing
  blames_since : (a : Status) (one ready one_after two other_ready two_after : D) → model.faults ready ≡ model.faults one → model.faults other_ready ≡ model.faults two
      → TwinBlames model model ready one_after other_ready two_after a → TwinBlames model model one one_after two two_after a
  blames_since status.DiskFault one ready one_after two other_ready two_after same other rose = (subst (λ k. Rose k (model.faults one_after)) same rose.0, rose.1 ∙ other)
  blames_since (status.OtherDiskFault index) one ready one_after two other_ready two_after same other rose = (rose.0, subst (λ k. Rose k (model.faults two_after)) other rose.1, rose.2 ∙ same)
  blames_since status.Memory one ready one_after two other_ready two_after same other end = end
  blames_since rest one ready one_after two other_ready two_after same other none = absurd none

  -- a disk that was paired, and then holds the set still
  kept_on : (e : Election) (N : List Ballot → Type 0) (set : List Ballot) (bytes : List ℕ) (old mid new : D) → N set → (model.calls mid < last_count → model.calls old < model.calls mid)
      → LeavesOnlyOnceSynced model.calls model.may_leave old mid (IsKeptOr e N bytes) → LeavesOnly model.calls model.may_leave mid new (λ image. HoldsSet e image set) → LeavesOnlyOnceSynced model.calls model.may_leave old new (IsKeptOr e N bytes)
  kept_on e N set bytes old mid new is called one two =
      synced_then model.calls model.may_leave old mid new (IsKeptOr e N bytes) (IsKeptOr e N bytes) called (λ c kept. kept) one
      (weaker model.calls model.may_leave mid new (λ image. HoldsSet e image set) (IsKeptOr e N bytes) (λ c holds. inr (inr (set, is, holds))) two)

  ready_since : (e : Election) (set : List Ballot) (before ready after : D) → is_some (model.seen ready) ≡ is_some (model.seen before) → model.faults ready ≡ model.faults before → IsReady model e set ready ready after → IsReady model e set before ready after
  ready_since e set before ready after told steady is = record { medium = is.medium; told = told; told_after = is.told_after ∙ told; no_fault = steady; past = is.past }

  pub twin_ends : {S K : Type 0} (e : Election) (set : List Ballot) (paired : Paired) (a : Status) (report : Reported) (old new : Input S) (sink sunk : Output K) (one ready one_after two other_ready two_after : D)
      → IsBallotSet e set → IsWithinLimit e set
      → ((x y : List ℕ) → model.seen one ≡ Some x → model.seen two ≡ Some y → IsPaired e x y paired set)
      → is_some (model.seen ready) ≡ is_some (model.seen one) → is_some (model.seen other_ready) ≡ is_some (model.seen two)
      → model.faults ready ≡ model.faults one → model.faults other_ready ≡ model.faults two
      → (model.calls ready < last_count → model.calls one < model.calls ready) → (model.calls other_ready < last_count → model.calls two < model.calls other_ready)
      → ((x y : List ℕ) → model.seen one ≡ Some x → model.seen two ≡ Some y → BothKept model model e x y one ready two other_ready)
      → Continues model model e set paired a report old new sink sunk ready one_after other_ready two_after
      → TwinEnds model e a report old new sink sunk one one_after two two_after
  twin_ends e set paired a report old new sink sunk one ready one_after two other_ready two_after legal within found told other_told steady other_steady called other_called kept either =
      ⊎_elim
      (λ failed. inl (record {
        refuses = inr (inr (blames_since a one ready one_after two other_ready two_after steady other_steady failed.blames));
        told = failed.told ∙ told;
        other_told = failed.other_told ∙ other_told;
        leaves = λ x y sees sees_two.
            let both = kept x y sees sees_two in
            let is : IsPairSet e x y set = (paired, found x y sees sees_two) in
            let seen_first = told_back (model.seen ready) (model.seen one) x (sym told) sees in
            let seen_second = told_back (model.seen other_ready) (model.seen two) y (sym other_told) sees_two in
            inr (inr (inr (
              kept_on e (IsPairSet e x y) set x one ready one_after is called both.0 (failed.first seen_first.0 seen_first.1),
              kept_on e (IsPairSet e x y) set y two other_ready two_after is other_called both.1 (failed.second seen_second.0 seen_second.1),
            )));
        script = failed.script;
        nothing_written = failed.nothing_written;
        reported = failed.reported;
      }))
      (λ went. inr (record {
        paired = paired;
        set = set;
        ready = ready;
        other_ready = other_ready;
        are = record {
          found = found;
          legal = legal;
          within_limit = within;
          first = ready_since e set one ready one_after told steady went.first;
          second = ready_since e set two other_ready two_after other_told other_steady went.second;
          leaves = λ x y sees sees_two. inr (inr (inr (kept x y sees sees_two)));
        };
        begun = went.begun;
        synced = went.synced;
        other_synced = went.other_synced;
        first_synced = went.first_synced;
        second_synced = went.second_synced;
        goes_on = went.goes_on;
      }))
      either
