-- The disks of a store that was opened.
use Rattle.std.proofs.Common.{◌≡◌, ◌<◌, ◌≤◌, ℕ, zero, suc, List, [], ◌∷◌, Some, length, get_or, refl, sym, ap, subst, ◌∙◌, arith}
use Rattle.store_spec.proofs.Common.{Ballot, DiskModel, Election, get_or_from_slice_get, share, slice_get}
use Rattle.any_store.specs.Checkpointed.{IsMediumNow}
use Rattle.parted_store.proofs.Slots.{medium_along, medium_in}
use Rattle.parted_store.specs.Slots.{models_of, slot_model}
use Rattle.partition_store.proofs.Shares.{share_joined}
use Rattle.partition_store.specs.Opening.{IsOpened}
use Rattle.partition_store.specs.Parted.{Parted, joined}
use Rattle.partition_store.proofs.SideBySide.{zip_from}

stands : {X : Type 0} (xs : List X) (k : ℕ) → k < length xs → (x : X) × (slice_get xs k ≡ Some x)
stands [] k lt = absurd (omega (arith, lt))
stands (x ∷ xs) zero lt = (x, refl)
stands (x ∷ xs) (suc k) lt = stands xs k (omega (arith, lt))

module _ {A B : Type 0} (one : DiskModel A) (other : DiskModel B) where
  pub opened_media : (e : Election) (old new : A) (more now : List B) (store : Parted) → IsOpened one other e old new more now store
      → (i : ℕ) → i ≤ length now → IsMediumNow (models_of one other i) e (share store.bits i (joined store.sets)) (new, now)
  opened_media e old new more now store opened zero within =
      let first : opened.set ≡ share store.bits 0 (joined store.sets) =
      ap (λ (sets : List (List Ballot)). get_or sets 0 []) (sym opened.are) ∙ sym (share_joined store.bits 0 store.sets opened.parted.parts) in
      subst (λ (set : List Ballot). IsMediumNow (models_of one other 0) e set (new, now)) first
      (medium_along one (λ (disks : A × List B). disks.0) e opened.set (new, now) opened.medium)
  opened_media e old new more now store opened (suc k) within =
      let there = stands now k (omega (arith, within)) in
      let held = zip_from (λ (set : List Ballot) (disk : B). IsMediumNow other e set disk) opened.sets now k there.0 opened.media there.1 in
      let set : held.0 ≡ share store.bits (suc k) (joined store.sets) =
      sym (get_or_from_slice_get opened.sets k held.0 [] held.1) ∙ ap (λ (sets : List (List Ballot)). get_or sets (suc k) []) (sym opened.are)
      ∙ sym (share_joined store.bits (suc k) store.sets opened.parted.parts) in
      subst (λ (set : List Ballot). IsMediumNow (models_of one other (suc k)) e set (new, now)) set
      (medium_along (slot_model other) (λ (disks : A × List B). slice_get disks.1 k) e held.0 (new, now)
      (subst (λ slot. IsMediumNow (slot_model other) e held.0 slot) (sym there.1) (medium_in other e held.0 there.0 held.2)))
