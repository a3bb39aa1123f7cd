-- The checkpoints of a list of disks, one after another.
use Rattle.std.proofs.Common.{◌≡◌, ◌≢◌, ◌+◌, ◌<◌, ◌≤◌, ℕ, zero, suc, List, [], ◌∷◌, Option, Some, length, get_or, set, refl, sym, ap, subst, ◌∙◌, ⊎_elim, arith}
use Rattle.store_spec.proofs.Common.{AllZip, Ballot, DiskModel, Election, cases_lt, get_or_from_slice_get, slice_get, slice_get-get_or}
use Rattle.any_store.specs.Checkpointed.{Checkpointed, FailedOn, IsMediumNow}
use Rattle.parted_store.proofs.Slots.{checkpointed_there, failed_there, medium_there}
use Rattle.parted_store.specs.Slots.{slot_model}
use Rattle.parted_store.specs.Stops.{AreRenewed, StopsAtPart}
use Rattle.recovery.proofs.OneByOne.{stands_now, zip_set}

-- those from a place on are as they were
abbrev pub AreStill : {D : Type 0} → ℕ → List D → List D → Type 0
AreStill i first now = (j : ℕ) → i ≤ j → slice_get now j ≡ slice_get first j

other_slot : {X : Type 0} (now : List X) (i j : ℕ) (y : X) → j ≢ i → slice_get (set now i y) j ≡ slice_get now j
other_slot [] i j y other = refl
other_slot (a ∷ now) zero zero y other = absurd (other refl)
other_slot (a ∷ now) zero (suc j) y other = refl
other_slot (a ∷ now) (suc i) zero y other = refl
other_slot (a ∷ now) (suc i) (suc j) y other = other_slot now i j y (λ same. other (ap suc same))

module _ {D : Type 0} (first now : List D) (i : ℕ) (x y : D) (lt : i < length now) (still : AreStill i first now) where
  abbrev next : List D
  next = set now i y

  -- the disk that is called stood there at first
  there : slice_get first i ≡ Some (get_or now i x)
  there = sym (still i (omega arith)) ∙ slice_get-get_or now i x lt

  at_both : (P : Option D → Option D → Type 0) → P (Some (get_or now i x)) (Some y) → P (slice_get first i) (slice_get next i)
  at_both P holds = subst (λ slot. P slot (slice_get next i)) (sym there) (subst (λ slot. P (Some (get_or now i x)) slot) (sym (stands_now now i y lt)) holds)

  pub leads_next : (R : D → D → Type 0) → AllZip R first now → R (get_or now i x) y → AllZip R first next
  leads_next R zip holds = zip_set R first now i (get_or now i x) y zip (get_or_from_slice_get first i (get_or now i x) (get_or now i x) there) holds

  pub still_next : AreStill (i + 1) first next
  still_next j le = other_slot now i j y (λ same. omega (arith, le, same)) ∙ still j (omega (arith, le))

  module _ (model : DiskModel D) (e : Election) where
    pub medium_next : (set : List Ballot) → IsMediumNow (slot_model model) e set (slice_get first i) → IsMediumNow model e set (get_or now i x)
    medium_next set is = medium_there model e set (get_or now i x) (subst (λ (slot : Option D). IsMediumNow (slot_model model) e set slot) there is)

    module _ (sets : List (List Ballot)) where
      before : AreRenewed model e sets i first now → AreRenewed model e sets i first next
      before done j lt = subst (λ (slot : Option D). Checkpointed (slot_model model) e (get_or sets (j + 1) []) (slice_get first j) slot)
          (sym (other_slot now i j y (λ same. omega (arith, lt, same)))) (done j lt)

      pub renewed_next : AreRenewed model e sets i first now → Checkpointed model e (get_or sets (i + 1) []) (get_or now i x) y → AreRenewed model e sets (i + 1) first next
      renewed_next done did j within = ⊎_elim
          (λ (lt : j < i). before done j lt)
          (λ (not : i ≤ j).
          let same : i ≡ j = omega (arith, within, not) in
          subst (λ j. Checkpointed (slot_model model) e (get_or sets (j + 1) []) (slice_get first j) (slice_get next j)) same
          (at_both (λ old new. Checkpointed (slot_model model) e (get_or sets (i + 1) []) old new)
          (checkpointed_there model e (get_or sets (i + 1) []) (get_or now i x) y did)))
          (cases_lt j i)

      pub stops_next : length now ≡ length first → AreRenewed model e sets i first now → FailedOn model e (get_or sets (i + 1) []) (get_or now i x) y → StopsAtPart model e sets first next i
      stops_next size done did = record {
        within = subst (λ n. i < n) size lt;
        done = before done;
        failed = at_both (λ old new. FailedOn (slot_model model) e (get_or sets (i + 1) []) old new)
            (failed_there model e (get_or sets (i + 1) []) (get_or now i x) y did);
        rest = λ j lt. still_next j (omega (arith, lt));
      }
