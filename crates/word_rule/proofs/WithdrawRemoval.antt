-- The steps of a seat for one number, by their rows.
use Rattle.std.proofs.Common.{◌≡◌, ◌≢◌, ◌⊎◌, ℕ, inl, inr, List, [], ◌∷◌, ◌++◌, refl, sym, ◌∙◌, ap, subst, append-nil}
use Rattle.store_spec.proofs.Common.{FirstRow, Gone, Quiet, WithdrawNote, WithdrawRow, WithdrawState, WithdrawView, began, chose, emptied, found_candidate, found_gone, found_lower_candidate, found_owed, kept_candidate, left_by, looked_higher, looked_lower, lost, refilled, walked_on, withdraw_act, withdraw_number, withdraw_view_after, word_of}
use Rattle.store_spec.specs.WithdrawStep.WithdrawState.{Rest}
use Rattle.word_rule.specs.WithdrawRemoval.{HasFoundGone, HasRemoved, IsRemoving, begun_by_now}
use Rattle.word_rule.specs.WithdrawWords.{MakesFirstRow, MakesRow}

abbrev pub Begun : ℕ → WithdrawView → WithdrawNote → WithdrawView → Type 0
Begun x before note now = ((note ≡ Gone) × HasFoundGone x before now) ⊎ ((note ≡ Quiet) × (now.state ≢ Rest) × IsRemoving x before now)

first_by_row : (home : ℕ → ℕ) (x : ℕ) (before : WithdrawView) (found : ℕ) (new : WithdrawState) (note : WithdrawNote) → FirstRow home x found new note → Begun x before note (withdraw_view_after before x new note)
first_by_row home x before _ _ _ found_gone = inl (refl, record { at_rest = refl; begun = refl; gone = refl })
first_by_row home x before _ _ _ chose = inr (refl, (λ e. cc), record { walks = refl; begun = sym (append-nil before.begun); gone = refl })

pub begins : (home : ℕ → ℕ) (x : ℕ) (before : WithdrawView) (note : WithdrawNote) (now : WithdrawView) → MakesFirstRow home x before note now → Begun x before note now
begins home x before note now made = subst (Begun x before note) (sym made.is) (first_by_row home x before made.found now.state note made.leads)

module _ (home : ℕ → ℕ) (x : ℕ) (before old : WithdrawView) where
  by_row : (from : WithdrawState) (word found left : ℕ) (new : WithdrawState) (note : WithdrawNote) → WithdrawRow home from word found left new note → IsRemoving x before (record { state = from; begun = old.begun; gone = old.gone }) → IsRemoving x before (withdraw_view_after old (withdraw_number from) new note)
  by_row _ _ _ _ _ _ (walked_on less) h = record { walks = h.walks; begun = h.begun; gone = h.gone }
  by_row _ _ _ _ _ _ (began {x = y} stops) h = record {
    walks = tt;
    begun = ap (λ (l : List ℕ). l ++ y ∷ []) (h.begun ∙ append-nil before.begun) ∙ ap (λ v. before.begun ++ v ∷ []) h.walks;
    gone = h.gone;
  }
  by_row _ _ _ _ _ _ found_owed h = record { walks = tt; begun = h.begun; gone = h.gone }
  by_row _ _ _ _ _ _ (looked_lower other) h = record { walks = tt; begun = h.begun; gone = h.gone }
  by_row _ _ _ _ _ _ (looked_higher misfit) h = record { walks = tt; begun = h.begun; gone = h.gone }
  by_row _ _ _ _ _ _ (found_candidate fits) h = record { walks = tt; begun = h.begun; gone = h.gone }
  by_row _ _ _ _ _ _ (found_lower_candidate above fits) h = record { walks = tt; begun = h.begun; gone = h.gone }
  by_row _ _ _ _ _ _ (kept_candidate above misfit) h = record { walks = tt; begun = h.begun; gone = h.gone }
  by_row _ _ _ _ _ _ emptied h = record { walks = tt; begun = h.begun; gone = h.gone }
  by_row _ _ _ _ _ _ (refilled some) h = record { walks = tt; begun = h.begun; gone = h.gone }
  by_row _ _ _ _ _ _ (lost other) h = record { walks = tt; begun = h.begun; gone = h.gone }

  pub goes_on : (note : WithdrawNote) (now : WithdrawView) → IsRemoving x before old → MakesRow home old note now → IsRemoving x before now
  goes_on note now h made =
      let act = withdraw_act old.state in
      subst (IsRemoving x before) (sym made.is) (by_row old.state (word_of act) made.found (left_by act made.found) now.state note made.leads h)

pub ends : (x : ℕ) (before now : WithdrawView) → IsRemoving x before now → now.state ≡ Rest → HasRemoved x before now
ends x before now h rests = record { at_rest = rests; begun = h.begun ∙ ap (λ s. before.begun ++ begun_by_now x s) rests; gone = h.gone }
