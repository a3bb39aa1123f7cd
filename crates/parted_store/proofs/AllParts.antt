-- The checkpoints of the first disk and of the further ones, as those of the disks of all parts.
use Rattle.std.proofs.Common.{◌≡◌, ◌+◌, ◌<◌, ◌≤◌, ℕ, zero, suc, List, [], Result, Ok, Err, OnOk, length, get_or, sym, ap, subst, ◌∙◌, arith}
use Rattle.store_spec.proofs.Common.{Ballot, DiskModel, Election, IfErr, share, slice_get}
use Rattle.any_store.specs.Checkpointed.{AreMedia, Checkpointed, FailedAt, FailedOn, IsMediumNow, IsUncalled}
use Rattle.parted_store.proofs.Slots.{checkpointed_along, failed_along, medium_of, uncalled_along}
use Rattle.parted_store.specs.Slots.{models_of, parted_disks, slot_model}
use Rattle.parted_store.specs.Stops.{AreRenewed, StopsAtPart}
use Rattle.partition_store.proofs.Shares.{share_joined}
use Rattle.partition_store.specs.Parted.{AreParts, joined}

-- a disk that stays as it is was not called
same_uncalled : {D : Type 0} (model : DiskModel D) (old new : D) → new ≡ old → IsUncalled model old new
same_uncalled model old new same = record {
  seen = ap model.seen same;
  calls = ap model.calls same;
  faults = ap model.faults same;
  images = λ m image. (
    subst (λ disk. model.may_leave disk m image) same,
    subst (λ disk. model.may_leave disk m image) (sym same),
  );
}

module _ {A B : Type 0} (one : DiskModel A) (other : DiskModel B) where
  -- each further disk is the medium of some set
  pub further_media : (e : Election) (bits : ℕ) (first : A) (more : List B) → (set : List Ballot) × AreMedia (parted_disks one other bits (length more)) e set (first, more)
      → (i : ℕ) → i < length more → (set : List Ballot) × IsMediumNow (slot_model other) e set (slice_get more i)
  further_media e bits first more are i lt = (
    share bits (suc i) are.0,
    medium_of (slot_model other) (λ (disks : A × List B). slice_get disks.1 i) e (share bits (suc i) are.0) (first, more) (are.1 (suc i) (omega (arith, lt))),
  )

module _ {A B : Type 0} (one : DiskModel A) (other : DiskModel B) (e : Election) (bits : ℕ) (sets : List (List Ballot)) (own : AreParts bits sets)
    (first now : A) (more after : List B) where
  abbrev old : A × List B
  old = (first, more)

  abbrev new : A × List B
  new = (now, after)

  part_is : (i : ℕ) → get_or sets i [] ≡ share bits i (joined sets)
  part_is i = sym (share_joined bits i sets own)

  next_is : (k : ℕ) → get_or sets (k + 1) [] ≡ share bits (suc k) (joined sets)
  next_is k = let next : k + 1 ≡ suc k = omega arith in ap (λ n. get_or sets n []) next ∙ part_is (suc k)

  renewed_at : (count : ℕ) → Checkpointed one e (get_or sets 0 []) first now → AreRenewed other e sets count more after
      → (i : ℕ) → i ≤ count → Checkpointed (models_of one other i) e (share bits i (joined sets)) old new
  renewed_at count did rest zero within = subst (λ (set : List Ballot). Checkpointed (models_of one other 0) e set old new) (part_is 0)
      (checkpointed_along one (λ (disks : A × List B). disks.0) e (get_or sets 0 []) old new did)
  renewed_at count did rest (suc k) within = subst (λ (set : List Ballot). Checkpointed (models_of one other (suc k)) e set old new) (next_is k)
      (checkpointed_along (slot_model other) (λ (disks : A × List B). slice_get disks.1 k) e (get_or sets (k + 1) []) old new (rest k (omega (arith, within))))

  uncalled_behind : (i : ℕ) → ((k : ℕ) → i ≤ k → slice_get after k ≡ slice_get more k) → (j : ℕ) → i < j → IsUncalled (models_of one other j) old new
  uncalled_behind i same zero lt = absurd (omega (arith, lt))
  uncalled_behind i same (suc k) lt = uncalled_along (slot_model other) (λ (disks : A × List B). slice_get disks.1 k) old new
      (same_uncalled (slot_model other) (slice_get more k) (slice_get after k) (same k (omega (arith, lt))))

  -- the first failed
  pub first_failed : after ≡ more → FailedOn one e (get_or sets 0 []) first now → FailedAt (length more) (models_of one other) (share bits) e (joined sets) old new 0
  first_failed same did = record {
    within = omega arith;
    done = λ j lt. absurd (omega (arith, lt));
    failed = subst (λ (set : List Ballot). FailedOn (models_of one other 0) e set old new) (part_is 0)
        (failed_along one (λ (disks : A × List B). disks.0) e (get_or sets 0 []) old new did);
    uncalled = λ j behind within. uncalled_behind 0 (λ k le. ap (λ (disks : List B). slice_get disks k) same) j behind;
  }

  -- a further one failed
  further_failed : Checkpointed one e (get_or sets 0 []) first now → (i : ℕ) → StopsAtPart other e sets more after i
      → FailedAt (length more) (models_of one other) (share bits) e (joined sets) old new (suc i)
  further_failed did i stops = record {
    within = omega (arith, stops.within);
    done = λ j lt. renewed_at i did stops.done j (omega (arith, lt));
    failed = subst (λ (set : List Ballot). FailedOn (models_of one other (suc i)) e set old new) (next_is i)
        (failed_along (slot_model other) (λ (disks : A × List B). slice_get disks.1 i) e (get_or sets (i + 1) []) old new stops.failed);
    uncalled = λ j behind within. uncalled_behind (suc i) (λ k le. stops.rest k (omega (arith, le))) j behind;
  }

  pub failed_if : {T : Type 0} (r : Result T ℕ) → Checkpointed one e (get_or sets 0 []) first now
      → IfErr r (λ part. (i : ℕ) × (part ≡ i + 1) × StopsAtPart other e sets more after i)
      → IfErr r (FailedAt (length more) (models_of one other) (share bits) e (joined sets) old new)
  failed_if (Ok x) did stops = tt
  failed_if (Err part) did stops =
      let next : suc stops.0 ≡ stops.0 + 1 = omega arith in
      subst (FailedAt (length more) (models_of one other) (share bits) e (joined sets) old new) (next ∙ sym stops.1) (further_failed did stops.0 stops.2)

  pub renewed_if : {T E : Type 0} (r : Result T E) → Checkpointed one e (get_or sets 0 []) first now → OnOk r (AreRenewed other e sets (length more) more after)
      → OnOk r ((i : ℕ) → i ≤ length more → Checkpointed (models_of one other i) e (share bits i (joined sets)) old new)
  renewed_if (Ok x) did rest = renewed_at (length more) did rest
  renewed_if (Err fault) did rest = tt
