-- The runs of calls that make an unused disk the medium of a set.
use Rattle.std.proofs.Common.{◌≡◌, ℕ, ◌+◌, ◌*◌, ◌≤◌, List, [], ◌∷◌, ◌++◌, length, Option, Some, None, is_some, refl, sym, ◌∙◌, ap, inl, inr, arith}
use Rattle.store_spec.proofs.Common.{Ballot, Election, ForSome, IsMediumOf, IsTorn, IsUnused, LeavesOnly, TearsAtMost, bank_size, image_of, leaves_now, medium_of, open_gate, option_map, overwritten, torn_from}
use Rattle.crash_disk.proofs.Moments.{goes_on, joined, weaker}
use Rattle.crash_disk.proofs.TornBytes.{overwritten-next}
use Rattle.checkpoint.proofs.Pages.{Fits}
use Rattle.checkpoint.proofs.Unused.{opened_medium, opening_holds, unused_small, unused_torn}
use Rattle.checkpoint.specs.Unused.{IsUntouchedOr, IsUnusedOrHolds}
use Rattle.outside_io.specs.Told.{IfTold}

-- one page more of its banks is written
pub run_page : {D : Type 0} (calls : D → ℕ) (may_leave : D → ℕ → List ℕ → Type 0) (e : Election) (first mid new : D) (at k : ℕ) → at + k ≤ 2 * bank_size e → LeavesOnly calls may_leave first mid (IsUnused e)
    → TearsAtMost calls may_leave at k mid new → LeavesOnly calls may_leave first new (IsUnused e)
run_page calls may_leave e first mid new at k within run write =
    goes_on calls may_leave first mid new (IsUnused e) (torn_from at k (leaves_now calls may_leave mid)) run write (λ c left. unused_torn e at k left.0 c within (run.now left.0 left.1) left.2)

module _ {D : Type 0} (calls : D → ℕ) (may_leave : D → ℕ → List ℕ → Type 0) (e : Election) (ballots : List Ballot) (bytes : List ℕ) where
  -- it is looked at
  pub run_looking : (synced looked : D) → LeavesOnly calls may_leave synced looked (λ c. c ≡ bytes) → LeavesOnly calls may_leave synced looked (IsUntouchedOr e ballots bytes)
  run_looking synced looked run = weaker calls may_leave synced looked (λ c. c ≡ bytes) (IsUntouchedOr e ballots bytes) (λ c same. inl same) run

  -- its banks are written
  pub run_writing : (looked written : D) → LeavesOnly calls may_leave looked written (IsUnused e) → LeavesOnly calls may_leave looked written (IsUnusedOrHolds e ballots)
  run_writing looked written run = weaker calls may_leave looked written (IsUnused e) (IsUnusedOrHolds e ballots) (λ c still. inl still) run

  -- and its gates are opened
  pub run_opening : (looked written opened : D) → Fits e ballots → IsUnused e bytes → LeavesOnly calls may_leave looked written (IsUnused e)
      → LeavesOnly calls may_leave written opened (IsTorn (2 * bank_size e) 2 (overwritten 0 (image_of e ballots ++ image_of e ballots) bytes))
      → LeavesOnly calls may_leave looked opened (IsUnusedOrHolds e ballots)
  run_opening looked written opened fits unused writing opening =
      joined calls may_leave looked written opened (IsUnusedOrHolds e ballots) (run_writing looked written writing)
      (weaker calls may_leave written opened (IsTorn (2 * bank_size e) 2 (overwritten 0 (image_of e ballots ++ image_of e ballots) bytes)) (IsUnusedOrHolds e ballots)
      (λ c torn. opening_holds e ballots bytes fits (unused_small e bytes unused) c torn) opening)

  -- it is looked at, and filled
  pub run_filling : (synced looked filled : D) → IsUnused e bytes → LeavesOnly calls may_leave synced looked (λ c. c ≡ bytes) → LeavesOnly calls may_leave looked filled (IsUnusedOrHolds e ballots)
      → LeavesOnly calls may_leave synced filled (IsUntouchedOr e ballots bytes)
  run_filling synced looked filled unused looking filling =
      joined calls may_leave synced looked filled (IsUntouchedOr e ballots bytes) (run_looking synced looked looking)
      (weaker calls may_leave looked filled (IsUnusedOrHolds e ballots) (IsUntouchedOr e ballots bytes) (λ c left. inr (unused, left)) filling)

-- ---- where the bytes may not be told

-- both banks were written, one behind the other
pub banks_told : (now mid first : Option (List ℕ)) (image : List ℕ) (n : ℕ) → length image ≡ n → mid ≡ option_map (overwritten 0 image) first → now ≡ option_map (overwritten n image) mid
    → now ≡ option_map (overwritten 0 (image ++ image)) first
banks_told now mid None image n long one two = two ∙ ap (option_map (overwritten n image)) one
banks_told now mid (Some x) image n long one two =
    let from : n ≡ 0 + n = omega arith in
    two ∙ ap (option_map (overwritten n image)) one
    ∙ ap Some (ap (λ k. overwritten k image (overwritten 0 image x)) from ∙ overwritten-next 0 n image image x (omega arith) long)

-- the gates were opened
pub made_told : (e : Election) (now written old : Option (List ℕ)) (ballots : List Ballot) → Fits e ballots → ForSome old (IsUnused e)
    → written ≡ option_map (overwritten 0 (image_of e ballots ++ image_of e ballots)) old → now ≡ option_map (overwritten (2 * bank_size e) (open_gate ∷ open_gate ∷ [])) written
    → IfTold old now (λ _ bytes. IsMediumOf e bytes ballots)
made_told e now written None ballots fits unused one two = record {
  told = ap is_some (two ∙ ap (option_map (overwritten (2 * bank_size e) (open_gate ∷ open_gate ∷ []))) one);
  related = λ x y was is. let no : None ≡ Some x = was in absurd (let no : ⊥ = cc in no);
}
made_told e now written (Some bytes) ballots fits unused one two =
    let last = overwritten (2 * bank_size e) (open_gate ∷ open_gate ∷ []) (overwritten 0 (image_of e ballots ++ image_of e ballots) bytes) in
    let sees : now ≡ Some last = two ∙ ap (option_map (overwritten (2 * bank_size e) (open_gate ∷ open_gate ∷ []))) one in
    let medium : last ≡ medium_of e ballots = opened_medium e ballots bytes fits (unused_small e bytes (unused bytes refl)) in
    record {
      told = ap is_some sees;
      related = λ x y was is.
          let same : Some y ≡ Some last = sym is ∙ sees in
          let made : y ≡ last = cc in
          record { set = fits.set; within_limit = fits.within_limit; bytes = made ∙ medium };
    }
