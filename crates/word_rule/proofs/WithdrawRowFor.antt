-- Each word that a step may find has its row.
use Rattle.std.proofs.Common.{◌≡◌, ◌≢◌, ℕ, ◌+◌, ◌-◌, ◌<◌, ◌≤◌, ◌⊎◌, inl, inr, ⊎_elim, refl, sym, subst, arith}
use Rattle.store_spec.proofs.Common.{Begun, Chosen, Done, Down, FirstRow, Fits, Gone, Owing, Quiet, Up, WithdrawNote, WithdrawState, began, cases_eq, cases_lt, looked_higher, walked_on}
use Rattle.step_core.proofs.WithdrawLeads.{leads_gone, leads_chosen, leads_found, leads_lower, leads_candidate, leads_lower_candidate, leads_kept, leads_emptied, leads_refilled, leads_lost}
use Rattle.step_core.specs.WithdrawTables.{FitsIn, LeadsTo, MayFind}
use Rattle.store_spec.specs.WithdrawStep.WithdrawState.{Rest}

abbrev pub First : (ℕ → ℕ) → ℕ → ℕ → Type 0
First home x found = (new : WithdrawState) × (note : WithdrawNote) × FirstRow home x found new note

pub first_row_for : (home : ℕ → ℕ) (x found : ℕ) → found ≤ 1 → First home x found
first_row_for home x found few = ⊎_elim
    (λ (e : found ≡ 1). (Rest, Gone, leads_gone home x found e))
    (λ (n : found ≢ 1). (Chosen x (home x), Quiet, leads_chosen home x found (home x) few n refl))
    (cases_eq found 1)

abbrev pub Later : (ℕ → ℕ) → WithdrawState → ℕ → Type 0
Later home from found = (new : WithdrawState) × (note : WithdrawNote) × LeadsTo home from found new note

-- a word fits a hole, or does not
fits_or_not : (home : ℕ → ℕ) (x hole word : ℕ) → Fits home x hole word ⊎ (¬ Fits home x hole word)
fits_or_not home x hole word = ⊎_elim
    (λ (e : word ≡ 0). inl (inl e))
    (λ (n : word ≢ 0). ⊎_elim
    (λ (past : hole < home word). inr (λ f. ⊎_elim (λ z. n z) (λ h. let le = h.0 in let no : ⊥ = omega arith in no) f))
    (λ (within : home word ≤ hole). ⊎_elim
    (λ (less : word < x). inl (inr (within, less)))
    (λ (more : x ≤ word). inr (λ f. ⊎_elim (λ z. n z) (λ h. let lt = h.1 in let no : ⊥ = omega arith in no) f))
    (cases_lt word x))
    (cases_lt hole (home word)))
    (cases_eq word 0)

at_hole : (home : ℕ → ℕ) (x bound c source found : ℕ) → (found ≢ x → 0 < bound) → Later home (Down x bound bound c source) found
at_hole home x bound c source found below = ⊎_elim
    (λ (e : found ≡ x). ⊎_elim
    (λ (z : c ≡ 0). (Rest, Done, leads_emptied home x bound c source found e z))
    (λ (n : c ≢ 0). (Owing c source, Quiet, leads_refilled home x bound c source found e n))
    (cases_eq c 0))
    (λ (n : found ≢ x). (Owing x (bound - 1), Quiet, leads_lost home x bound c source found n (below n)))
    (cases_eq found x)

above_hole : (home : ℕ → ℕ) (x bound place c source found : ℕ) → bound < place → Later home (Down x bound place c source) found
above_hole home x bound place c source found above = ⊎_elim
    (λ (f : Fits home x bound found). (Down x bound (place - 1) found place, Quiet, leads_lower_candidate home x bound place c source found above f))
    (λ (n : ¬ Fits home x bound found). (Down x bound (place - 1) c source, Quiet, leads_kept home x bound place c source found above n))
    (fits_or_not home x bound found)

pub row_for : (home : ℕ → ℕ) (cells : ℕ) (from : WithdrawState) (found : ℕ) → FitsIn cells from → MayFind from found → Later home from found
row_for home cells Rest found fits may = absurd may
row_for home cells (Chosen x place) found fits may = ⊎_elim
    (λ (lt : x < found). (Chosen x (place + 1), Quiet, walked_on lt))
    (λ (le : found ≤ x). (Owing x place, Begun, began le))
    (cases_lt x found)
row_for home cells (Owing x bound) found fits may = ⊎_elim
    (λ (e : found ≡ x). (Up x bound (bound + 1), Quiet, leads_found home x bound found e))
    (λ (n : found ≢ x). (Owing x (bound - 1), Quiet, leads_lower home x bound found n (may n)))
    (cases_eq found x)
row_for home cells (Up x bound place) found fits may = ⊎_elim
    (λ (f : Fits home x bound found). (Down x bound (place - 1) found place, Quiet, leads_candidate home x bound place found fits.1 f))
    (λ (n : ¬ Fits home x bound found). (Up x bound (place + 1), Quiet, looked_higher n))
    (fits_or_not home x bound found)
row_for home cells (Down x bound place c source) found fits may = ⊎_elim
    (λ (e : place ≡ bound). subst (λ (p : ℕ). Later home (Down x bound p c source) found) (sym e) (at_hole home x bound c source found (may e)))
    (λ (n : place ≢ bound). let le = fits.1 in above_hole home x bound place c source found (omega arith))
    (cases_eq place bound)
