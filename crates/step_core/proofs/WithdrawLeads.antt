-- The rows of the table, by what is found and what is left of it.
use Rattle.std.proofs.Common.{◌≡◌, ◌≢◌, ◌==◌, ℕ, ◌+◌, ◌-◌, ◌<◌, ◌≤◌, refl, sym, ◌∙◌, subst, arith}
use Rattle.store_spec.proofs.Common.{Chosen, Done, Down, FirstRow, Fits, Gone, Owing, Quiet, Up, WithdrawNote, WithdrawRow, WithdrawState, chose, cond-false, cond-true, emptied, eq-eqb, found_candidate, found_gone, found_lower_candidate, found_owed, kept_candidate, left_by, looked_lower, lost, ne_eqb, refilled, word_of}
use Rattle.step_core.specs.WithdrawTables.{LeadsTo}
use Rattle.store_spec.specs.Act.Act.{Load, Trade}
use Rattle.store_spec.specs.WithdrawStep.WithdrawState.{Rest}

-- ---- the first step

pub leads_gone : (home : ℕ → ℕ) (x found : ℕ) → found ≡ 1 → FirstRow home x found Rest Gone
leads_gone home x found e = subst (λ (f : ℕ). FirstRow home x f Rest Gone) (sym e) found_gone

pub leads_chosen : (home : ℕ → ℕ) (x found place : ℕ) → found ≤ 1 → found ≢ 1 → place ≡ home x → FirstRow home x found (Chosen x place) Quiet
leads_chosen home x found place few n at_home =
    let none : 0 ≡ found = omega arith in
    subst (λ (f : ℕ). FirstRow home x f (Chosen x place) Quiet) none
    (subst (λ (p : ℕ). FirstRow home x 0 (Chosen x p) Quiet) (sym at_home) chose)

-- ---- the later ones

-- a place above another is one more than a place
one_less : (bound place : ℕ) → bound < place → place - 1 + 1 ≡ place
one_less bound place lt = omega arith

module _ (home : ℕ → ℕ) (x bound : ℕ) where
  pub leads_found : (found : ℕ) → found ≡ x → LeadsTo home (Owing x bound) found (Up x bound (bound + 1)) Quiet
  leads_found found e = subst (λ (f : ℕ). LeadsTo home (Owing x bound) f (Up x bound (bound + 1)) Quiet) (sym e) found_owed

  pub leads_lower : (found : ℕ) → found ≢ x → 0 < bound → LeadsTo home (Owing x bound) found (Owing x (bound - 1)) Quiet
  leads_lower found n low = subst (λ (b : ℕ). LeadsTo home (Owing x b) found (Owing x (bound - 1)) Quiet) (one_less 0 bound low) (looked_lower n)

  pub leads_candidate : (place found : ℕ) → bound < place → Fits home x bound found → LeadsTo home (Up x bound place) found (Down x bound (place - 1) found place) Quiet
  leads_candidate place found above fits = subst (λ (p : ℕ). LeadsTo home (Up x bound p) found (Down x bound (place - 1) found p) Quiet) (one_less bound place above) (found_candidate fits)

  -- ---- above the hole

  above_hole : (place c source found : ℕ) (new : WithdrawState) → bound < place → WithdrawRow home (Down x bound place c source) place found found new Quiet → LeadsTo home (Down x bound place c source) found new Quiet
  above_hole place c source found new above row =
      subst (λ a. WithdrawRow home (Down x bound place c source) (word_of a) found (left_by a found) new Quiet)
      (sym (cond-false (place == bound) (Trade bound x c) (Load place) (ne_eqb place bound (λ e. omega arith)))) row

  pub leads_lower_candidate : (place c source found : ℕ) → bound < place → Fits home x bound found → LeadsTo home (Down x bound place c source) found (Down x bound (place - 1) found place) Quiet
  leads_lower_candidate place c source found above fits = above_hole place c source found (Down x bound (place - 1) found place) above
      (subst (λ (p : ℕ). WithdrawRow home (Down x bound p c source) p found found (Down x bound (place - 1) found p) Quiet) (one_less bound place above) (found_lower_candidate (omega arith) fits))

  pub leads_kept : (place c source found : ℕ) → bound < place → ¬ Fits home x bound found → LeadsTo home (Down x bound place c source) found (Down x bound (place - 1) c source) Quiet
  leads_kept place c source found above misfit = above_hole place c source found (Down x bound (place - 1) c source) above
      (subst (λ (p : ℕ). WithdrawRow home (Down x bound p c source) p found found (Down x bound (place - 1) c source) Quiet) (one_less bound place above) (kept_candidate (omega arith) misfit))

  -- ---- at the hole

  at_hole : (c source found left : ℕ) (new : WithdrawState) (note : WithdrawNote) → left ≡ left_by (Trade bound x c) found → WithdrawRow home (Down x bound bound c source) bound found left new note → LeadsTo home (Down x bound bound c source) found new note
  at_hole c source found left new note e row =
      subst (λ a. WithdrawRow home (Down x bound bound c source) (word_of a) found (left_by a found) new note)
      (sym (cond-true (bound == bound) (Trade bound x c) (Load bound) (eq-eqb bound bound refl)))
      (subst (λ (l : ℕ). WithdrawRow home (Down x bound bound c source) bound found l new note) e row)

  pub leads_emptied : (c source found : ℕ) → found ≡ x → c ≡ 0 → LeadsTo home (Down x bound bound c source) found Rest Done
  leads_emptied c source found e z =
      at_hole c source found 0 Rest Done (sym z ∙ sym (cond-true (found == x) c found (eq-eqb found x e)))
      (subst (λ (f : ℕ). WithdrawRow home (Down x bound bound c source) bound f 0 Rest Done) (sym e)
      (subst (λ (d : ℕ). WithdrawRow home (Down x bound bound d source) bound x 0 Rest Done) (sym z) emptied))

  pub leads_refilled : (c source found : ℕ) → found ≡ x → c ≢ 0 → LeadsTo home (Down x bound bound c source) found (Owing c source) Quiet
  leads_refilled c source found e some =
      at_hole c source found c (Owing c source) Quiet (sym (cond-true (found == x) c found (eq-eqb found x e)))
      (subst (λ (f : ℕ). WithdrawRow home (Down x bound bound c source) bound f c (Owing c source) Quiet) (sym e) (refilled some))

  pub leads_lost : (c source found : ℕ) → found ≢ x → 0 < bound → LeadsTo home (Down x bound bound c source) found (Owing x (bound - 1)) Quiet
  leads_lost c source found n low =
      at_hole c source found found (Owing x (bound - 1)) Quiet (sym (cond-false (found == x) c found (ne_eqb found x n)))
      (subst (λ (b : ℕ). WithdrawRow home (Down x b b c source) b found found (Owing x (bound - 1)) Quiet) (one_less 0 bound low) (lost n))
