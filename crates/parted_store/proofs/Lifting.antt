-- What is said of disks, said of a value that holds them, and of a store that has a part for each.
use Rattle.std.proofs.Common.{◌≡◌, ◌+◌, ◌<◌, ◌≤◌, ⊎_elim, ℕ, zero, suc, List, Option, None, Some, length, map, refl, sym, ap, subst, ◌∙◌, arith}
use Rattle.store_spec.proofs.Common.{Ballot, DiskModel, Election, Rose, cases_lt, last_count, range_with_len, share, slice_get}
use Rattle.any_store.specs.Checkpointed.{Checkpointed, FailedAt}
use Rattle.parted_store.proofs.Slots.{calls_row, checkpointed_along, failed_along, uncalled_along}
use Rattle.parted_store.specs.Slots.{along, models_of, slot_count}
use Rattle.partition_store.specs.Parted.{Parted, joined}

module _ {S X : Type 0} (models : ℕ → DiskModel X) (at : S → X) (bits last more : ℕ) (store kept : Parted) (same : kept ≡ store) (bits_are : kept.bits ≡ bits) (size : more ≡ last)
    (old new : S) where
  pub checkpointed_up : ((i : ℕ) → i ≤ more → Checkpointed (models i) kept.election (share kept.bits i (joined kept.sets)) (at old) (at new))
      → (i : ℕ) → i ≤ last → Checkpointed (along (models i) at) store.election (share bits i (joined store.sets)) old new
  checkpointed_up did i within =
      checkpointed_along (models i) at store.election (share bits i (joined store.sets)) old new
      (subst (λ (s : Parted). Checkpointed (models i) s.election (share bits i (joined s.sets)) (at old) (at new)) same
      (subst (λ bits. Checkpointed (models i) kept.election (share bits i (joined kept.sets)) (at old) (at new)) bits_are
      (did i (subst (λ n. i ≤ n) (sym size) within))))

  pub failed_up : (i : ℕ) → FailedAt more models (share kept.bits) kept.election (joined kept.sets) (at old) (at new) i
      → FailedAt last (λ i. along (models i) at) (share bits) store.election (joined store.sets) old new i
  failed_up i did =
      let here : FailedAt last models (share bits) store.election (joined store.sets) (at old) (at new) i =
      subst (λ n. FailedAt n models (share bits) store.election (joined store.sets) (at old) (at new) i) size
      (subst (λ (s : Parted). FailedAt more models (share bits) s.election (joined s.sets) (at old) (at new) i) same
      (subst (λ bits. FailedAt more models (share bits) kept.election (joined kept.sets) (at old) (at new) i) bits_are did)) in
      record {
        within = here.within;
        done = λ j lt. checkpointed_along (models j) at store.election (share bits j (joined store.sets)) old new (here.done j lt);
        failed = failed_along (models i) at store.election (share bits i (joined store.sets)) old new here.failed;
        uncalled = λ j behind within. uncalled_along (models j) at old new (here.uncalled j behind within);
      }

-- the calls of the further disks, in a row
pub further_row : {A B : Type 0} (one : DiskModel A) (other : DiskModel B) (first : A) (more : List B) (last : ℕ) → length more ≡ last
    → map other.calls more ≡ map (λ i. (models_of one other i).calls (first, more)) (range_with_len 1 last)
further_row one other first more last size =
    calls_row other.calls more (λ i. (models_of one other i).calls (first, more)) 1
    (λ i.
    let next : suc i ≡ 1 + i = omega arith in
    subst (λ n. (models_of one other n).calls (first, more) ≡ slot_count other.calls (slice_get more i)) next refl)
    ∙ ap (λ n. map (λ i. (models_of one other i).calls (first, more)) (range_with_len 1 n)) size

-- ---- counts of faults

-- none is above the last value of a count
pub counts_within : {A B : Type 0} (one : DiskModel A) (other : DiskModel B) → ((a : A) → one.faults a ≤ last_count) → ((b : B) → other.faults b ≤ last_count)
    → (i : ℕ) (disks : A × List B) → (models_of one other i).faults disks ≤ last_count
counts_within one other first further zero disks = first disks.0
counts_within one other first further (suc i) disks = in_slot (slice_get disks.1 i) where
  in_slot : (slot : Option _) → slot_count other.faults slot ≤ last_count
  in_slot None = omega arith
  in_slot (Some disk) = further disk

-- none fell where each checkpoint ended well
pub steady_counts : {X : Type 0} (models : ℕ → DiskModel X) (last more : ℕ) (parts : ℕ → List Ballot → List Ballot) (e : Election) (set : List Ballot) (old new : X) → more ≡ last
    → ((i : ℕ) → i ≤ more → Checkpointed (models i) e (parts i set) old new) → (i : ℕ) → i ≤ last → (models i).faults old ≤ (models i).faults new
steady_counts models last more parts e set old new size did i within =
    let here = did i (subst (λ n. i ≤ n) (sym size) within) in
    omega (arith, here.no_fault)

-- nor where one failed
pub later_counts : {X : Type 0} (models : ℕ → DiskModel X) (last more : ℕ) (parts : ℕ → List Ballot → List Ballot) (e : Election) (set : List Ballot) (old new : X) (i : ℕ) → more ≡ last
    → ((j : ℕ) → (models j).faults old ≤ last_count) → FailedAt more models parts e set old new i → (j : ℕ) → j ≤ last → (models j).faults old ≤ (models j).faults new
later_counts models last more parts e set old new i size counted did j within = ⊎_elim
    (λ (before : j < i). let here = did.done j before in omega (arith, here.no_fault))
    (λ (not : i ≤ j). ⊎_elim
    (λ (behind : i < j). let here = did.uncalled j behind (subst (λ n. j ≤ n) (sym size) within) in omega (arith, here.faults))
    (λ (other : j ≤ i).
    let same : i ≡ j = omega (arith, not, other) in
    subst (λ j. (models j).faults old ≤ (models j).faults new) same (rises ((models i).faults old) ((models i).faults new) (counted i) did.failed.rose))
    (cases_lt i j))
    (cases_lt j i) where
      rises : (a b : ℕ) → a ≤ last_count → Rose a b → a ≤ b
      rises a b few rose = ⊎_elim
          (λ (lt : b < last_count). let less = rose lt in omega (arith, less))
          (λ (not : last_count ≤ b). omega (arith, not, few))
          (cases_lt b last_count)
