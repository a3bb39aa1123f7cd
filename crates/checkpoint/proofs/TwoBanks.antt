-- The runs of calls that renew both banks of a medium, bank B first.
use Rattle.std.proofs.Common.{◌≡◌, ℕ, List, Option, Some, ◌∙◌, inl, ◌⊎◌, length}
use Rattle.store_spec.proofs.Common.{A, B, Ballot, Bank, Election, HoldsSet, IsMediumOf, IsOpen, LeavesOnly, image_of, medium_size}
use Rattle.crash_disk.proofs.Moments.{joined, weaker}
use Rattle.checkpoint.proofs.OldOrNew.{both_new, first_half, second_half}
use Rattle.checkpoint.proofs.Pages.{Fits, told_back}
use Rattle.checkpoint.specs.Renewal.{IsRenewed, IsHalfRenewed}
use Rattle.image_builder.proofs.Held.{medium_parts, parts_medium}
use Rattle.outside_io.proofs.Told.{told_on}
use Rattle.outside_io.specs.Told.{IfTold}

module _ {D : Type 0} (calls : D → ℕ) (may_leave : D → ℕ → List ℕ → Type 0) (e : Election) (old new : List Ballot) (bytes : List ℕ) (was : IsMediumOf e bytes old) (fits : Fits e new) where
  -- bank B is renewed
  pub run_first : (first mid : D) → LeavesOnly calls may_leave first mid (IsHalfRenewed e B (image_of e new) bytes) → LeavesOnly calls may_leave first mid (λ c. HoldsSet e c old ⊎ HoldsSet e c new)
  run_first first mid run =
      weaker calls may_leave first mid (IsHalfRenewed e B (image_of e new) bytes) (λ c. HoldsSet e c old ⊎ HoldsSet e c new) (λ c half. inl (first_half e old new bytes was fits c half)) run

  -- and then bank A
  pub run_second : (first mid last : D) (between : List ℕ) → IsRenewed e B (image_of e new) bytes between → LeavesOnly calls may_leave first mid (λ c. HoldsSet e c old ⊎ HoldsSet e c new)
      → LeavesOnly calls may_leave mid last (IsHalfRenewed e A (image_of e new) between) → LeavesOnly calls may_leave first last (λ c. HoldsSet e c old ⊎ HoldsSet e c new)
  run_second first mid last between one run second =
      joined calls may_leave first mid last (λ c. HoldsSet e c old ⊎ HoldsSet e c new) run
      (weaker calls may_leave mid last (IsHalfRenewed e A (image_of e new) between) (λ c. HoldsSet e c old ⊎ HoldsSet e c new) (λ c half. second_half e old new bytes was fits between one c half) second)

-- ---- where the bytes may not be told

module _ (e : Election) (new : List Ballot) (old : Option (List ℕ)) (fits : Fits e new) (was : (x : List ℕ) → old ≡ Some x → (set : List Ballot) × IsMediumOf e x set) where
  -- a medium has its size
  pub medium_long : (x : List ℕ) → old ≡ Some x → length x ≡ medium_size e
  medium_long x is = (medium_parts e x (was x is).0 fits.election (was x is).1).size

  -- and open gates
  pub medium_open : (bank : Bank) (x : List ℕ) → old ≡ Some x → IsOpen e bank x
  medium_open bank x is = (medium_parts e x (was x is).0 fits.election (was x is).1).gates bank

  module _ (mid : Option (List ℕ)) (one : IfTold old mid (IsRenewed e B (image_of e new))) where
    -- both stay while bank B is renewed
    pub mid_long : (y : List ℕ) → mid ≡ Some y → length y ≡ medium_size e
    mid_long y is = let start = told_back old mid y one.told is in (one.related start.0 y start.1 is).kept.size ∙ medium_long start.0 start.1

    pub mid_open : (y : List ℕ) → mid ≡ Some y → IsOpen e A y
    mid_open y is = let start = told_back old mid y one.told is in (one.related start.0 y start.1 is).kept.gate ∙ medium_open A start.0 start.1

    -- in the end it is the medium of the new set
    pub renewed_told : (now : Option (List ℕ)) → IfTold mid now (IsRenewed e A (image_of e new)) → IfTold old now (λ _ bytes. IsMediumOf e bytes new)
    renewed_told now two =
        let both = told_on {Q = λ x z. (set : List Ballot) → IsMediumOf e x set → IsMediumOf e z new} one two (λ x y z first next set medium.
        parts_medium e z new fits.set fits.within_limit (both_new e set new x medium fits y first z next)) in
        record {
          told = both.told;
          related = λ x z was_x is_z. both.related x z was_x is_z (was x was_x).0 (was x was_x).1;
        }
