-- The owed number is not at its bound, or is there no more: the bound goes down by one.
use Rattle.std.proofs.Common.{◌≡◌, ◌≢◌, ℕ, ◌+◌, ◌<◌, ◌≤◌, ⊎_elim, List, length, get_or, set, refl, sym, ◌∙◌, subst, arith}
use Rattle.store_spec.proofs.Common.{AreLowest, AreOwed, IsSound, Owing, WithdrawInvariant, WithdrawState, WithdrawView, cases_eq, cases_lt, cell_words, copies, debts, flag_words, length-take}
use Rattle.step_core.proofs.Copies.{copy_elsewhere}
use Rattle.step_core.proofs.Debts.{owed, owed_to, owed_yes, owed_other, owed_above, chosen, debts_rise, debts_set}
use Rattle.step_core.proofs.WithdrawFlags.{begun_stays, live_before, live_on, flags_stay}
use Rattle.step_core.proofs.WithdrawStates.{Follows, sound_after}
use Rattle.step_core.proofs.WordSets.{all_after_set}
use Rattle.store_spec.specs.WithdrawInvariant.{Owes}

module _ (home : ℕ → ℕ) (base words : List ℕ) (views : List WithdrawView) (id : ℕ) (w : WithdrawView) (x bound : ℕ) (lt : id < length views) (at : get_or views id w ≡ w) (inv : WithdrawInvariant home base words views) (as_owed : (y first : ℕ) → owed w.state y first ≡ owed_to x (bound + 1) y first) (unchosen : (y : ℕ) → chosen w.state y ≡ 0) (owes : Owes base x (bound + 1)) (missed : get_or (cell_words base words) (bound + 1) 0 ≢ x) where
  lowers : WithdrawView
  lowers = record { state = Owing x bound; begun = w.begun; gone = w.gone }

  abbrev after : List WithdrawView
  after = set views id lowers

  debts_more : (y first : ℕ) → debts after y first + owed_to x (bound + 1) y first ≡ debts views y first + owed_to x bound y first
  unfolding lowers
  debts_more y first = let was = as_owed y first in omega (arith, debts_set views id w lowers lt at y first)

  -- the number, and the first cells up to the old bound without it: there one more is owed
  debts_stay : (y first : ℕ) → (x ≡ y → first ≢ bound + 1) → debts after y first ≡ debts views y first
  debts_stay y first away = ⊎_elim
      (λ (e : x ≡ y). ⊎_elim
      (λ (high : bound < first).
      let apart = away e in
      omega (arith, debts_more y first, owed_yes x (bound + 1) y first e (omega arith), owed_yes x bound y first e high))
      (λ (low : first ≤ bound). omega (arith, debts_more y first, owed_above x (bound + 1) y first (omega arith), owed_above x bound y first low))
      (cases_lt bound first))
      (λ (n : x ≢ y). omega (arith, debts_more y first, owed_other x (bound + 1) y first n, owed_other x bound y first n))
      (cases_eq x y)

  -- no more than from one cell more, where there is no copy more
  debts_short : (y first : ℕ) → x ≡ y → first ≡ bound + 1 → (debts after y first ≤ debts views y (bound + 1 + 1)) × (copies (cell_words base words) y first ≡ copies (cell_words base words) y (bound + 1 + 1))
  debts_short y first e is =
      let cells = cell_words base words in
      let size = inv.size in let low = owes.within in
      let within : bound + 1 < length cells = omega (arith, length-take (length base) words) in
      let rises = debts_rise after y first (bound + 1 + 1) (omega arith) in
      let none : copies cells y (bound + 1 + 1) ≡ copies cells y (bound + 1) = copy_elsewhere cells y (bound + 1) within (λ z. missed (z ∙ sym e)) in
      (omega (arith, debts_stay y (bound + 1 + 1) (λ same. omega arith)), subst (λ (n : ℕ). copies cells y n ≡ copies cells y (bound + 1 + 1)) (sym is) (sym none))

  owed_then : AreOwed base (cell_words base words) after
  unfolding lowers
  owed_then = record {
    no_more = λ y first. ⊎_elim
        (λ (e : x ≡ y). ⊎_elim
        (λ (here : first ≡ bound + 1). let short = debts_short y first e here in let no_more = inv.owed.no_more y (bound + 1 + 1) in omega arith)
        (λ (n : first ≢ bound + 1). let no_more = inv.owed.no_more y first in omega (arith, debts_stay y first (λ same. n)))
        (cases_eq first (bound + 1)))
        (λ (n : x ≢ y). let no_more = inv.owed.no_more y first in omega (arith, debts_stay y first (λ e. absurd (n e))))
        (cases_eq x y);
    in_all = λ y of_base.
        let in_all = inv.owed.in_all y of_base in let low = owes.within in
        omega (arith, debts_stay y (length base) (λ e. omega arith), begun_stays base views id w lowers lt at refl y);
  }

  lowest_then : AreLowest home base (cell_words base words) after
  unfolding lowers
  lowest_then =
      let before = live_before base views id w lowers lt at refl in
      record {
        spare = λ y first live some. ⊎_elim
            (λ (e : x ≡ y). ⊎_elim
            (λ (here : first ≡ bound + 1).
            let short = debts_short y first e here in
            let spare = inv.lowest.spare y (bound + 1 + 1) (before y live) (omega arith) in omega arith)
            (λ (n : first ≢ bound + 1). let spare = inv.lowest.spare y first (before y live) some in omega (arith, debts_stay y first (λ same. n)))
            (cases_eq first (bound + 1)))
            (λ (n : x ≢ y). let spare = inv.lowest.spare y first (before y live) some in omega (arith, debts_stay y first (λ e. absurd (n e))))
            (cases_eq x y);
        in_order = λ y place live from none. inv.lowest.in_order y place (before y live) from none;
      }

  pub lower : WithdrawInvariant home base words (set views id (record { state = Owing x bound; begun = w.begun; gone = w.gone }))
  unfolding lowers
  lower =
      let cells = cell_words base words in
      let follows : Follows base cells views cells after = record {
        live = live_before base views id w lowers lt at refl;
        falls = λ place. omega arith;
        kept = λ y first live some. some;
      } in
      let on : (state : WithdrawState) → IsSound home base cells views state → IsSound home base cells after state =
      λ state s. sound_after home base cells views cells after follows state (λ y walks live. live_on base views id w lowers lt at refl y live) s in
      record {
        begins = inv.begins;
        size = inv.size;
        flags = flags_stay base views id w lowers lt at refl (flag_words base words) refl (λ y. sym (unchosen y)) inv.flags;
        copied = inv.copied;
        owed = owed_then;
        lowest = lowest_then;
        states = all_after_set (λ v. IsSound home base cells after v.state) views id lowers
            (record { of_base = owes.of_base; within = let low = owes.within in omega arith })
            (λ k d within other. on (get_or views k d).state (inv.states k d within));
      }
