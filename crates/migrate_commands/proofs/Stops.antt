-- What a stop leaves of the target of a migration.
use Rattle.std.proofs.Common.{◌≡◌, ℕ, List, Some, None, inl, inr, ⊎_elim, sym, subst}
use Rattle.store_spec.proofs.Common.{Ballot, DiskModel, Election, HoldsSet, IsElection, IsUnused, LeavesOnly, as_version_one, leaves_now}
use Rattle.checkpoint.proofs.Unused.{unused_holds}
use Rattle.checkpoint.specs.Unused.{IsUnusedOrHolds}
use Rattle.crash_disk.proofs.Moments.{started, syncs_first}
use Rattle.migrate_commands.proofs.OldForm.{one_old}
use Rattle.migrate_commands.specs.Migrate.{FillsTarget, HoldsOld}
use Rattle.migrate_medium.specs.Migrating.{IsKeptOrMigrated, OldHolds}
use Rattle.run_outcome.proofs.Laws.{at_told}
use Rattle.store_spec.specs.Medium.{Holds, HoldsAtMost}

module _ {D : Type 0} (model : DiskModel D) (e : Election) (from before after : D) (medium bytes : List ℕ) (set : List Ballot) (valid : IsElection e) (reads : model.seen from ≡ Some medium) (held : HoldsOld e medium set)
    (sees : model.seen before ≡ Some bytes) (image : leaves_now model.calls model.may_leave before bytes) (fills : FillsTarget model e from before after) where
  same_set : (other : List Ballot) → OldHolds model e from other → other ≡ set
  same_set other old = one_old e medium other set valid (held.0, at_told (model.seen from) medium (λ b. HoldsSet (as_version_one e) b other) reads old) held

  -- What each crash image of the start has, and each one that is unused still or holds the set, each has that a stop leaves.
  left : (P : List ℕ → Type 0) → ((c : List ℕ) → leaves_now model.calls model.may_leave before c → P c) → ((c : List ℕ) → IsUnusedOrHolds e set c → P c) → LeavesOnly model.calls model.may_leave before after P
  left P start later = ⊎_elim
      (λ (none : after ≡ before). subst (λ (d : D). LeavesOnly model.calls model.may_leave before d P) (sym none) (started model.calls model.may_leave before P start))
      (λ run. syncs_first model.calls model.may_leave before after P (IsKeptOrMigrated model e from bytes) start
      (λ c may. ⊎_elim
      (λ (same : c ≡ bytes). subst P (sym same) (start bytes image))
      (λ new. later c (subst (λ (s : List Ballot). IsUnusedOrHolds e s c) (same_set new.1.0 new.1.1) new.1.2))
      may)
      run)
      (fills bytes sees)

  pub left_holds : ((c : List ℕ) → leaves_now model.calls model.may_leave before c → Holds e c None) → LeavesOnly model.calls model.may_leave before after (HoldsAtMost e set)
  left_holds none = left (HoldsAtMost e set) (λ c now. inr (none c now)) (λ c kept. ⊎_elim (λ unused. inr (unused_holds e c unused)) inl kept)

  pub left_unused : ((c : List ℕ) → leaves_now model.calls model.may_leave before c → IsUnused e c) → LeavesOnly model.calls model.may_leave before after (IsUnusedOrHolds e set)
  left_unused unused = left (IsUnusedOrHolds e set) (λ c now. inl (unused c now)) (λ c kept. kept)
