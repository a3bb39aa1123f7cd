-- The runs of calls that make a medium canonical, and what they leave at each moment.
use Rattle.std.proofs.Common.{◌≡◌, ℕ, List, Option, Some, None, true, refl, sym, ◌∙◌, ap, subst}
use Rattle.store_spec.proofs.Common.{AddsNoCrashImage, Ballot, Bank, Election, Err, HoldsSet, HoldsTheSame, IfSome, IsElection, IsMediumOf, IsSettled, KeepsCrashImages, LeavesOnly, Ok, OnOk, Result, false≢true, image_of, is_some, leaves_now, other_bank}
use Rattle.checkpoint.specs.Renewal.{IsRenewed, IsHalfRenewed}
use Rattle.crash_disk.proofs.Moments.{joined, one_call, weaker}
use Rattle.outside_io.specs.Told.{IfTold}
use Rattle.outside_io.proofs.Told.{told_holds}
use Rattle.recovery.proofs.Agreeing.{half_holds, holds_the_same, read_holds, renewed_medium}
use Rattle.recovery.proofs.OnlyReading.{nothing_joined, nothing_once, settled_reads}
use Rattle.recovery.specs.Canonical.{IsReadAs}
use Rattle.recovery.specs.ReadsOnly.{ReadsOnly, WritesNothing}
use Rattle.recovery.specs.Refused.{IsUnchangedAt}
use Rattle.recovery.specs.declared.fault.RecoverFault.{RecoverFault}
use Rattle.recovery.specs.declared.fault.RecoverFault.TheVariants.{NoStore, OtherElection, Damaged, DiskFault, Memory}

-- no call that only reads changes the bytes, whatever it is answered with
pub unchanged : (fault : RecoverFault) (old new : Option (List ℕ)) → new ≡ old → IsUnchangedAt fault old new
unchanged NoStore old new same = same
unchanged (OtherElection header) old new same = same
unchanged (Damaged cell) old new same = same
unchanged DiskFault old new same = tt
unchanged Memory old new same = same

module _ (e : Election) (set : List Ballot) (bank other : Bank) (is : other ≡ other_bank bank) where
  -- the other bank was renewed
  pub renewed_told : {T E : Type 0} (r : Result T E) (old new : Option (List ℕ)) → ((x : List ℕ) → old ≡ Some x → IsReadAs e x bank set)
      → OnOk r (IfTold old new (IsRenewed e other (image_of e set))) → OnOk r (IfTold old new (λ _ y. IsMediumOf e y set))
  renewed_told (Ok v) old new read renewed = record {
    told = renewed.told;
    related = λ x y was now. renewed_medium e set bank x y (read x was) (subst (λ (b : Bank). IsRenewed e b (image_of e set) x y) is (renewed.related x y was now));
  }
  renewed_told (Err v) old new read renewed = tt

  module _ {D : Type 0} (calls : D → ℕ) (may_leave : D → ℕ → List ℕ → Type 0) (bytes : List ℕ) (read : IsReadAs e bytes bank set) where
    -- it is renewed
    pub renewing : (old new : D) → LeavesOnly calls may_leave old new (IsHalfRenewed e other (image_of e set) bytes) → LeavesOnly calls may_leave old new (λ c. HoldsSet e c set)
    renewing old new run =
        weaker calls may_leave old new (IsHalfRenewed e other (image_of e set) bytes) (λ c. HoldsSet e c set)
        (λ c half. half_holds e set bank bytes c read (subst (λ (b : Bank). IsHalfRenewed e b (image_of e set) bytes c) is half)) run

-- while bytes are read, what is left is what they are
module _ {D : Type 0} (seen : D → Option (List ℕ)) (calls : D → ℕ) (may_leave : D → ℕ → List ℕ → Type 0) (old mid : D) (bytes : List ℕ) (reads : ReadsOnly seen calls may_leave old mid) (sees : seen old ≡ Some bytes) where
  pub reading : (P : List ℕ → Type 0) → P bytes → LeavesOnly calls may_leave old mid P
  reading P here =
      weaker calls may_leave old mid (λ c. seen old ≡ Some c) P
      (λ c left. let same : bytes ≡ c = let both : Some bytes ≡ Some c = sym sees ∙ left in cc in subst P same here)
      reads.any_moment

  -- and then something else is done
  pub reading_then : (new : D) (P : List ℕ → Type 0) → P bytes → LeavesOnly calls may_leave mid new P → LeavesOnly calls may_leave old new P
  reading_then new P here run = joined calls may_leave old mid new P (reading P here) run

  pub sees_still : seen mid ≡ Some bytes
  sees_still = reads.same_bytes ∙ sees

-- two runs on a settled disk, neither of which writes
pub looked : {D : Type 0} (seen : D → Option (List ℕ)) (calls : D → ℕ) (may_leave : D → ℕ → List ℕ → Type 0) (old mid new : D) → IsSettled seen calls may_leave old
    → WritesNothing seen calls may_leave old mid → WritesNothing seen calls may_leave mid new → ReadsOnly seen calls may_leave old new
looked seen calls may_leave old mid new settled first next = settled_reads seen calls may_leave old new settled (nothing_joined seen calls may_leave old mid new first next)

-- a store was read, and then the medium was made that of it
module _ {D : Type 0} (seen : D → Option (List ℕ)) (calls : D → ℕ) (may_leave : D → ℕ → List ℕ → Type 0) (e : Election) (set : List Ballot) (election : IsElection e) where
  pub restored : (old mid new : D) (bytes : List ℕ) → ReadsOnly seen calls may_leave old mid → seen old ≡ Some bytes → HoldsSet e bytes set
      → LeavesOnly calls may_leave mid new (λ c. HoldsSet e c set) → LeavesOnly calls may_leave old new (HoldsTheSame e bytes)
  restored old mid new bytes reads sees held run =
      reading_then seen calls may_leave old mid bytes reads sees new (HoldsTheSame e bytes) (λ what holds. holds)
      (weaker calls may_leave mid new (λ c. HoldsSet e c set) (HoldsTheSame e bytes) (λ c now. holds_the_same e set bytes c election held now) run)

  -- by what its calls tell
  pub restored_told : (old one two new : D) (bank : Bank) (bytes : List ℕ) → IsSettled seen calls may_leave old → WritesNothing seen calls may_leave old one → WritesNothing seen calls may_leave one two → seen old ≡ Some bytes
      → IfSome (seen one) (λ x. IsReadAs e x bank set) → ((x : List ℕ) → seen two ≡ Some x → LeavesOnly calls may_leave two new (λ c. HoldsSet e c set)) → LeavesOnly calls may_leave old new (HoldsTheSame e bytes)
  restored_told old one two new bank bytes settled first next sees read run =
      let reads = looked seen calls may_leave old one two settled first next in
      let found = told_holds (λ x. IsReadAs e x bank set) bytes (first.same_bytes ∙ sees) read in
      restored old two new bytes reads sees (read_holds e set bank bytes found) (run bytes (reads.same_bytes ∙ sees))

-- ---- the first sync

some_of : {A : Type 0} (o : Option A) → is_some o ≡ true → (x : A) × (o ≡ Some x)
some_of None is = absurd (false≢true is)
some_of (Some x) is = (x, refl)

module _ {D : Type 0} (seen : D → Option (List ℕ)) (calls : D → ℕ) (may_leave : D → ℕ → List ℕ → Type 0) (old new : D) (settled : IsSettled seen calls may_leave old) where
  -- it succeeds on a settled disk
  pub synced_reads : seen new ≡ seen old → AddsNoCrashImage calls may_leave old new → IsSettled seen calls may_leave new → ReadsOnly seen calls may_leave old new
  synced_reads same adds now = record {
    same_bytes = same;
    settled = now;
    any_moment = one_call calls may_leave old new (λ image. seen old ≡ Some image) (λ c left. (settled c).0 left) adds;
  }

  -- it fails on one
  pub unsynced_reads : (bytes : List ℕ) → seen old ≡ Some bytes → is_some (seen new) ≡ is_some (seen old) → ((x : List ℕ) → seen new ≡ Some x → leaves_now calls may_leave new x)
      → KeepsCrashImages calls may_leave old new → ReadsOnly seen calls may_leave old new
  unsynced_reads bytes sees told law keeps =
      let now = some_of (seen new) (told ∙ ap is_some sees) in
      let was : seen old ≡ Some now.0 = (settled now.0).0 (keeps.at_most.after now.0 (law now.0 now.1)) in
      settled_reads seen calls may_leave old new settled (nothing_once seen calls may_leave old new (now.1 ∙ sym was) keeps)
