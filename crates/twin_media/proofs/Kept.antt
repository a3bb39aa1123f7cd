-- What a disk that was found to hold this or that is and becomes.
use Rattle.std.proofs.Common.{◌≡◌, ℕ, ◌<◌, ◌≤◌, inl, inr, ⊎_elim, List, length, Option, Some, None, refl, sym, ◌∙◌, ap, subst, arith}
use Rattle.store_spec.proofs.Common.{A, B, Ballot, Election, HoldsSet, IsBallotSet, IsOpen, IsUnused, IsWithinLimit, LeavesOnly, LeavesOnlyOnceSynced, cases_lt, image_of, last_count, medium_size}
use Rattle.std.specs.Prelude.{◌≢◌}
use Rattle.bank_medium.specs.Banks.{bank_named}
use Rattle.body_store.specs.Contents.{Contents, IsStored}
use Rattle.checkpoint.specs.Unused.{IsUnusedOrHolds}
use Rattle.crash_disk.proofs.Moments.{synced_then, weaker}
use Rattle.image_builder.proofs.OneSet.{one_set}
use Rattle.recovery.proofs.Agreeing.{read_holds}
use Rattle.recovery.specs.Refused.{IsRefusedMedium}
use Rattle.recovery.specs.declared.fault.RecoverFault.TheVariants.{NoStore}
use Rattle.twin_media.specs.Finding.{HasFound, IsHeld}
use Rattle.twin_media.specs.Pairing.{IsKeptOr}
use Rattle.twin_media.specs.declared.finding.Held.{Held}

module _ (e : Election) (bytes : List ℕ) where
  -- where it holds no store, and has no more bytes than a medium, it is lost
  pub lost : length bytes ≤ medium_size e → IsRefusedMedium e bytes NoStore → IsUnused e bytes
  lost small refused =
      ⊎_elim
      (λ (short : length bytes < medium_size e). inl short)
      (λ (full : medium_size e ≤ length bytes).
      let size : length bytes ≡ medium_size e = omega arith in
      ⊎_elim (λ (other : length bytes ≢ medium_size e). absurd (other size)) (λ (shut : (¬ IsOpen e A bytes) × (¬ IsOpen e B bytes)). inr (size, shut.0, shut.1)) refused)
      (cases_lt (length bytes) (medium_size e))

  -- what was read from it it holds
  pub held_holds : (held : Held) → IsHeld e held bytes → HoldsSet e bytes held.store.ballots
  held_holds held is = read_holds e held.store.ballots (bank_named held.bank) bytes is.read

  module _ (N : List Ballot → Type 0) where
    -- nothing was written yet
    pub found_kept : (found : Option Held) → HasFound e found bytes → (image : List ℕ) → image ≡ bytes → IsKeptOr e N bytes image
    found_kept None unused image is = inl (unused, subst (IsUnused e) (sym is) unused)
    found_kept (Some held) read image is =
        let holds = held_holds held read in
        inr (inl (held.store.ballots, holds, subst (λ x. HoldsSet e x held.store.ballots) (sym is) holds))

    -- the new set is one of others
    pub kept_more : (M : List Ballot → Type 0) → ((set : List Ballot) → N set → M set) → (image : List ℕ) → IsKeptOr e N bytes image → IsKeptOr e M bytes image
    kept_more M more image left = ⊎_elim inl (λ other. inr (⊎_elim inl (λ new. inr (new.0, more new.0 new.1, new.2)) other)) left

  -- it is filled
  pub filling_kept : (set : List Ballot) → IsUnused e bytes → (image : List ℕ) → IsUnusedOrHolds e set image → IsKeptOr e (λ other. other ≡ set) bytes image
  filling_kept set unused image left = ⊎_elim (λ still. inl (unused, still)) (λ holds. inr (inr (set, refl, holds))) left

-- stores of one election whose images are the same hold the same set
pub same_ballots : (one two : Contents) → one.election ≡ two.election → IsStored one → IsStored two
    → image_of one.election one.ballots ≡ image_of two.election two.ballots → one.ballots ≡ two.ballots
same_ballots one two own stored_one stored_two same =
    one_set two.election one.ballots two.ballots stored_two.election
    (subst (λ e. IsBallotSet e one.ballots) own stored_one.set) (subst (λ e. IsWithinLimit e one.ballots) own stored_one.within_limit)
    stored_two.set stored_two.within_limit (sym (ap (λ e. image_of e one.ballots) own) ∙ same)

-- a disk was looked at, and then written
pub kept_once : {D : Type 0} (calls : D → ℕ) (may_leave : D → ℕ → List ℕ → Type 0) (e : Election) (bytes : List ℕ) (found : Option Held) (N M : List Ballot → Type 0) (old mid new : D)
    → HasFound e found bytes → ((set : List Ballot) → N set → M set) → (calls mid < last_count → calls old < calls mid) → LeavesOnlyOnceSynced calls may_leave old mid (λ image. image ≡ bytes)
    → LeavesOnly calls may_leave mid new (IsKeptOr e N bytes) → LeavesOnlyOnceSynced calls may_leave old new (IsKeptOr e M bytes)
kept_once calls may_leave e bytes found N M old mid new has more called looked written =
    synced_then calls may_leave old mid new (λ image. image ≡ bytes) (IsKeptOr e M bytes) called (found_kept e bytes M found has) looked
    (weaker calls may_leave mid new (IsKeptOr e N bytes) (IsKeptOr e M bytes) (kept_more e bytes N M more) written)

-- ---- a disk that holds a set

-- it is made the medium of it
pub mended_kept : (e : Election) (N : List Ballot → Type 0) (held : Held) (bytes : List ℕ) → IsHeld e held bytes → (image : List ℕ) → HoldsSet e image held.store.ballots → IsKeptOr e N bytes image
mended_kept e N held bytes is image holds = inr (inl (held.store.ballots, held_holds e bytes held is, holds))
