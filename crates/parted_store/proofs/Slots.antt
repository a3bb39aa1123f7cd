-- What is said of a disk, said of a state in which it stands.
use Rattle.std.proofs.Common.{◌≡◌, ◌+◌, ℕ, suc, List, [], ◌∷◌, Some, length, map, refl, sym, ap, subst, ◌∙◌, arith}
use Rattle.store_spec.proofs.Common.{Ballot, DiskModel, Election, range_with_len, slice_get}
use Rattle.any_store.specs.Checkpointed.{Checkpointed, FailedOn, IsMediumNow, IsUncalled}
use Rattle.body_store.specs.Contents.{Contents}
use Rattle.parted_store.specs.Slots.{along, slot_count, slot_model}

module _ {S D : Type 0} (model : DiskModel D) (at : S → D) where
  pub uncalled_along : (old new : S) → IsUncalled model (at old) (at new) → IsUncalled (along model at) old new
  uncalled_along old new is = record { seen = is.seen; calls = is.calls; faults = is.faults; images = is.images }

module _ {S D : Type 0} (model : DiskModel D) (at : S → D) (e : Election) (set : List Ballot) where
  pub medium_of : (now : S) → IsMediumNow (along model at) e set now → IsMediumNow model e set (at now)
  medium_of now is = record { settled = is.settled; medium = is.medium }

  pub medium_along : (now : S) → IsMediumNow model e set (at now) → IsMediumNow (along model at) e set now
  medium_along now is = record { settled = is.settled; medium = is.medium }

  pub checkpointed_along : (old new : S) → Checkpointed model e set (at old) (at new) → Checkpointed (along model at) e set old new
  checkpointed_along old new did = record {
    told = did.told;
    now = medium_along new did.now;
    crashes = λ bytes before sees is.
        let leaves = did.crashes bytes before sees is in
        record { later = leaves.later; past = leaves.past; each = leaves.each; now = leaves.now };
    later = did.later;
    no_fault = did.no_fault;
  }

  pub failed_along : (old new : S) → FailedOn model e set (at old) (at new) → FailedOn (along model at) e set old new
  failed_along old new did = record {
    attempted = record {
      told = did.attempted.told;
      crashes = λ bytes before sees is.
          let leaves = did.attempted.crashes bytes before sees is in
          record { later = leaves.later; past = leaves.past; each = leaves.each; now = leaves.now };
      later = did.attempted.later;
    };
    rose = did.rose;
  }

-- ---- the store of a part

module _ {D : Type 0} (model : DiskModel D) (e : Election) (set : List Ballot) (old new : D) (part : Contents) (is : part ≡ record { election = e; ballots = set }) where
  pub checkpointed_part : Checkpointed model part.election part.ballots old new → Checkpointed model e set old new
  checkpointed_part did = subst (λ (s : Contents). Checkpointed model s.election s.ballots old new) is did

  pub failed_part : FailedOn model part.election part.ballots old new → FailedOn model e set old new
  failed_part did = subst (λ (s : Contents). FailedOn model s.election s.ballots old new) is did

-- ---- a place at which there is a disk

module _ {D : Type 0} (model : DiskModel D) (e : Election) (set : List Ballot) where
  pub medium_there : (now : D) → IsMediumNow (slot_model model) e set (Some now) → IsMediumNow model e set now
  medium_there now is = record { settled = is.settled; medium = is.medium }

  pub medium_in : (now : D) → IsMediumNow model e set now → IsMediumNow (slot_model model) e set (Some now)
  medium_in now is = record { settled = is.settled; medium = is.medium }

  pub checkpointed_there : (old new : D) → Checkpointed model e set old new → Checkpointed (slot_model model) e set (Some old) (Some new)
  checkpointed_there old new did = record {
    told = did.told;
    now = record { settled = did.now.settled; medium = did.now.medium };
    crashes = λ bytes before sees is.
        let leaves = did.crashes bytes before sees is in
        record { later = leaves.later; past = leaves.past; each = leaves.each; now = leaves.now };
    later = did.later;
    no_fault = did.no_fault;
  }

  pub failed_there : (old new : D) → FailedOn model e set old new → FailedOn (slot_model model) e set (Some old) (Some new)
  failed_there old new did = record {
    attempted = record {
      told = did.attempted.told;
      crashes = λ bytes before sees is.
          let leaves = did.attempted.crashes bytes before sees is in
          record { later = leaves.later; past = leaves.past; each = leaves.each; now = leaves.now };
      later = did.attempted.later;
    };
    rose = did.rose;
  }

-- ---- the calls of all of a list

pub calls_row : {D : Type 0} (calls : D → ℕ) (more : List D) (f : ℕ → ℕ) (a : ℕ)
    → ((i : ℕ) → f (a + i) ≡ slot_count calls (slice_get more i)) → map calls more ≡ map f (range_with_len a (length more))
calls_row calls [] f a is = refl
calls_row calls (x ∷ xs) f a is =
    let first : a + 0 ≡ a = omega arith in
    let head : f a ≡ calls x = subst (λ n. f n ≡ calls x) first (is 0) in
    let tail = calls_row calls xs f (a + 1) (λ i.
    let next : a + suc i ≡ a + 1 + i = omega arith in
    subst (λ n. f n ≡ slot_count calls (slice_get xs i)) next (is (suc i))) in
    ap (λ n. n ∷ map calls xs) (sym head) ∙ ap (λ ns. f a ∷ ns) tail
