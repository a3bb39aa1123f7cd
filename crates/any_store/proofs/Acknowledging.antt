-- The checkpoint of one store, from what is said of its disk.
use Rattle.std.proofs.Common.{◌≡◌, ◌≤◌, ℕ, true, false, List, Option, Some, None, Result, Ok, Err, OnErr, OnOk, IfSome, is_err, refl}
use Rattle.store_spec.proofs.Common.{Ballot, CountsFault, DiskModel, Election, IsMediumOf, IsSettled, is_some}
use Rattle.outside_io.specs.Told.{AsTold, IfTold}
use Rattle.any_store.specs.Checkpointed.{Checkpointed, FailsCheckpoint, HoldsEither, IsMediumNow}
use Rattle.any_store.specs.Disks.StoreDisks.{Alone}

-- what holds on success, after one
pub on_ok : {T E P : Type 0} (r : Result T E) → is_err r ≡ false → OnOk r P → P
on_ok (Ok x) is holds = holds
on_ok (Err e) is holds = absurd (cc)

-- what holds on a failure, after one
pub on_err : {T E P : Type 0} (r : Result T E) → is_err r ≡ true → OnErr r P → P
on_err (Ok x) is holds = absurd (cc)
on_err (Err e) is holds = holds

-- what is told now holds of the bytes that are told
told_now : (P : List ℕ → Type 0) (old new : Option (List ℕ)) → IfTold old new (λ before bytes. P bytes) → IfSome new P
told_now P old None told = tt
told_now P None (Some bytes) told = absurd (cc told.told)
told_now P (Some before) (Some bytes) told = told.related before bytes refl refl

-- a settled disk is now the medium of a set
pub medium_now : {D : Type 0} (model : DiskModel D) (e : Election) (set : List Ballot) (old new : D)
    → IsSettled model.seen model.calls model.may_leave new
    → AsTold model.seen old new (λ before bytes. IsMediumOf e bytes set) → IsMediumNow model e set new
medium_now model e set old new settled told = record {
  settled = settled;
  medium = told_now (λ bytes. IsMediumOf e bytes set) (model.seen old) (model.seen new) told;
}

module _ {D T E : Type 0} (model : DiskModel D) (e : Election) (set : List Ballot) (old new : D)
    (told : is_some (model.seen new) ≡ is_some (model.seen old)) (crashes : HoldsEither model e set old new)
    (later : model.calls old ≤ model.calls new) where
  -- a checkpoint that ended well
  pub done : (r : Result T E) → CountsFault r (model.faults old) (model.faults new)
      → OnOk r (IsSettled model.seen model.calls model.may_leave new)
      → OnOk r (AsTold model.seen old new (λ before bytes. IsMediumOf e bytes set))
      → OnOk r (Checkpointed model e set old new)
  done (Ok x) fault settled medium = record {
    told = told;
    now = medium_now model e set old new settled medium;
    crashes = crashes;
    later = later;
    no_fault = fault.steady;
  }
  done (Err why) fault settled medium = tt

  -- one that failed
  pub failed : (r : Result T E) → CountsFault r (model.faults old) (model.faults new)
      → OnErr r (FailsCheckpoint (Alone model) e set old new)
  failed (Ok x) fault = tt
  failed (Err why) fault = record {
    attempted = record { told = told; crashes = crashes; later = later };
    rose = fault.rose;
  }
