-- What a crash may leave of the target at each moment, and what a read of it gives where memory runs out, however a merge
-- ends.
use Rattle.std.proofs.Common.{◌≡◌, ℕ, ◌⊎◌, inl, inr, ⊎_elim, List, ◌∷◌, Some, refl, sym, subst, ◌∙◌, ap}
use Rattle.store_spec.proofs.Common.{Ballot, DiskModel, Election, HoldsSet, HoldsTheSame, IsMediumOf, LeavesOnly, SyncsFirst, leaves_now}
use Rattle.std.specs.Option.{is_some}
use Rattle.body_store.specs.Contents.{Contents}
use Rattle.checkpoint.proofs.Pages.{told_back}
use Rattle.crash_disk.proofs.Moments.{joined, started, syncs_first, weaker}
use Rattle.merge_media.specs.Merging.{HoldsOldOrUnion, IsRecovered, IsTargetKept, MergesThroughout}
use Rattle.merge_media.specs.Union.{IsUnion}
use Rattle.outside_io.proofs.Told.{told_holds}
use Rattle.outside_io.specs.Told.{AsTold}
use Rattle.recovery.specs.Media.{EachHolds, HoldsIfTold}
use Rattle.recovery.specs.Refused.{HoldsSetOf, IsUnharmedAt}
use Rattle.recovery.specs.declared.fault.RecoverFault.{RecoverFault}
use Rattle.recovery.specs.declared.fault.RecoverFault.TheVariants.{NoStore, OtherElection, Damaged, DiskFault, Memory}

-- ---- the recovery of the target

module _ {D : Type 0} (model : DiskModel D) (e : Election) (old new : D) where
  -- what a crash may leave then
  abbrev pub Spares : Type 0
  Spares = (bytes : List ℕ) → model.seen old ≡ Some bytes
      → LeavesOnly model.calls model.may_leave old new (λ image. leaves_now model.calls model.may_leave old image ⊎ HoldsSetOf e bytes image)

  -- it gave no store
  pub spared : (fault : RecoverFault) → ((bytes : List ℕ) → model.seen old ≡ Some bytes → IsUnharmedAt model e bytes fault old new) → Spares
  spared fault unharmed bytes sees = from fault (unharmed bytes sees)
    where
      still : LeavesOnly model.calls model.may_leave old new (leaves_now model.calls model.may_leave old)
          → LeavesOnly model.calls model.may_leave old new (λ image. leaves_now model.calls model.may_leave old image ⊎ HoldsSetOf e bytes image)
      still run = weaker model.calls model.may_leave old new (leaves_now model.calls model.may_leave old)
          (λ image. leaves_now model.calls model.may_leave old image ⊎ HoldsSetOf e bytes image) (λ image left. inl left) run

      from : (fault : RecoverFault) → IsUnharmedAt model e bytes fault old new
          → LeavesOnly model.calls model.may_leave old new (λ image. leaves_now model.calls model.may_leave old image ⊎ HoldsSetOf e bytes image)
      from NoStore run = still run
      from (OtherElection header) run = still run
      from (Damaged cell) run = still run
      from DiskFault run = run
      from Memory run = still run

  -- it gave one
  pub recovered : (set : List Ballot) → HoldsIfTold model e old set
      → ((bytes : List ℕ) → model.seen old ≡ Some bytes → SyncsFirst model.calls model.may_leave old new (HoldsTheSame e bytes)) → Spares
  recovered set held run bytes sees =
      let holds = told_holds (λ x. HoldsSet e x set) bytes sees held in
      syncs_first model.calls model.may_leave old new (λ image. leaves_now model.calls model.may_leave old image ⊎ HoldsSetOf e bytes image) (HoldsTheSame e bytes)
      (λ image left. inl left) (λ image same. inr (set, holds, same (Some set) holds)) (run bytes sees)

  -- what a read gives where memory runs out
  pub kept_still : model.seen new ≡ model.seen old → AsTold model.seen old new (IsTargetKept e)
  kept_still same = record {
    told = ap is_some same;
    related = λ x y was is. inl (let both : Some y ≡ Some x = sym is ∙ same ∙ was in cc);
  }

  pub kept_as_medium : (set : List Ballot) → HoldsIfTold model e old set → AsTold model.seen old new (λ _ y. IsMediumOf e y set) → AsTold model.seen old new (IsTargetKept e)
  kept_as_medium set held medium = record {
    told = medium.told;
    related = λ x y was is. inr (set, told_holds (λ x. HoldsSet e x set) x was held, medium.related x y was is);
  }

-- ---- the whole run

module _ {A B : Type 0} (target : DiskModel A) (further : DiskModel B) (e : Election) (old mid : A) (more : List B) where
  abbrev IsLeft : List ℕ → List ℕ → Type 0
  IsLeft bytes image = leaves_now target.calls target.may_leave old image ⊎ ((set : List Ballot) × HoldsSet e bytes set × HoldsOldOrUnion further e set more image)

  -- the target was recovered, and no more
  pub begun_throughout : Spares target e old mid → MergesThroughout target further e old mid more
  begun_throughout spares bytes sees =
      weaker target.calls target.may_leave old mid (λ image. leaves_now target.calls target.may_leave old image ⊎ HoldsSetOf e bytes image) (IsLeft bytes)
      (λ image. ⊎_elim (λ left. inl left) (λ holds. inr (holds.0, holds.1, inl holds.2))) (spares bytes sees)

  -- and then the union was checkpointed
  pub merged_throughout : (new : A) (read : List Ballot) (sets : List (List Ballot)) (store : Contents) → store.election ≡ e → IsRecovered target e read old mid → EachHolds further e more sets
      → IsUnion (read ∷ sets) store.ballots → Spares target e old mid
      → ((x : List ℕ) (was : List Ballot) → target.seen mid ≡ Some x → IsMediumOf store.election x was
      → LeavesOnly target.calls target.may_leave mid new (λ c. HoldsSet store.election c was ⊎ HoldsSet store.election c store.ballots))
      → MergesThroughout target further e old new more
  merged_throughout new read sets store own recovered each union spares run bytes sees =
      let holds = told_holds (λ x. HoldsSet e x read) bytes sees recovered.held in
      let now = told_back (target.seen mid) (target.seen old) bytes (sym recovered.medium.told) sees in
      let medium = recovered.medium.related bytes now.0 sees now.1 in
      joined target.calls target.may_leave old mid new (IsLeft bytes) (begun_throughout spares bytes sees)
      (weaker target.calls target.may_leave mid new (λ c. HoldsSet store.election c read ⊎ HoldsSet store.election c store.ballots) (IsLeft bytes)
      (λ image. ⊎_elim
      (λ was. inr (read, holds, inl (subst (λ e. HoldsSet e image read) own was)))
      (λ both. inr (read, holds, inr (sets, each, store.ballots, union, subst (λ e. HoldsSet e image store.ballots) own both))))
      (run now.0 read now.1 (subst (λ e. IsMediumOf e now.0 read) (sym own) medium)))

-- nothing was called
pub nothing_merged : {A B : Type 0} (target : DiskModel A) (further : DiskModel B) (e : Election) (disk : A) (more : List B) → MergesThroughout target further e disk disk more
nothing_merged target further e disk more bytes sees = started target.calls target.may_leave disk (IsLeft target further e disk disk more bytes) (λ image left. inl left)
