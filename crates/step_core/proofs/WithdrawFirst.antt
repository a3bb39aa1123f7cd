-- The first step for a number: a swap of its flag.
use Rattle.std.proofs.Common.{◌≡◌, ◌≢◌, ℕ, ◌+◌, ◌<◌, ◌≤◌, ⊎_elim, List, [], ◌∷◌, ◌++◌, length, get_or, set, refl, sym, ◌∙◌, ap, subst, arith}
use Rattle.store_spec.proofs.Common.{All-push, AreFlags, Chosen, IsLive, IsOfBase, IsOrdered, WithdrawInvariant, WithdrawView, cases_eq, cases_lt, cases_order, cell_words, flag_words, get_or-drop, get_or-set_other, get_or-set_same, get_or_default, get_or_past, length-drop, length-set, set-get_or, times_taken}
use Rattle.std.proofs.lemmas.List.{take-set-le, drop-set-add}
use Rattle.step_core.proofs.Copies.{hit, hit_yes, hit_no}
use Rattle.step_core.proofs.Debts.{owed, chosen, chosen_set}
use Rattle.step_core.proofs.WithdrawFlags.{begun_stays, flags_after, own_begun, own_gone, gone_on}
use Rattle.step_core.proofs.WithdrawQuiet.{same_but_flags}
use Rattle.store_spec.specs.WithdrawStep.WithdrawState.{Rest}

-- in ordered cells a number stands in one place
pub one_place : (home : ℕ → ℕ) (cells : List ℕ) (x p q : ℕ) → IsOrdered home cells → x ≢ 0 → get_or cells p 0 ≡ x → get_or cells q 0 ≡ x → p ≡ q
one_place home cells x p q h some at_p at_q =
    let earlier = λ (i j : ℕ) (at_i : get_or cells i 0 ≡ x) (at_j : get_or cells j 0 ≡ x) (lt : i < j).
    let some_i : get_or cells i 0 ≢ 0 = λ z. some (sym at_i ∙ z) in
    let some_j : get_or cells j 0 ≢ 0 = λ z. some (sym at_j ∙ z) in
    let from : home (get_or cells j 0) ≤ i = subst (λ (v : ℕ). home v ≤ i) (at_i ∙ sym at_j) (h.from_home i some_i) in
    let less = h.greater_before j i some_j from lt in
    let no : ⊥ = omega arith in no in
    ⊎_elim (λ e. e) (λ s. ⊎_elim (λ lt. absurd (earlier p q at_p at_q lt)) (λ lt. absurd (earlier q p at_q at_p lt)) s) (cases_order p q)

module _ (home : ℕ → ℕ) (base words : List ℕ) (views : List WithdrawView) (id : ℕ) (w : WithdrawView) (x cell : ℕ) (lt : id < length views) (at : get_or views id w ≡ w) (inv : WithdrawInvariant home base words views) (rests : w.state ≡ Rest) (some : x ≢ 0) (stands : get_or base cell 0 ≡ x) where
  within : cell < length base
  within = ⊎_elim (λ lt. lt) (λ (past : length base ≤ cell). absurd (some (sym stands ∙ get_or_past base cell 0 past))) (cases_lt cell (length base))

  of_base : IsOfBase base x
  of_base = record { some = some; stood = (cell, within, get_or_default base cell x 0 within ∙ stands) }

  -- the flag tells how often the number was taken
  flag_is : get_or words (length base + cell) 0 ≡ times_taken views x
  flag_is = sym (get_or-drop (length base) words cell 0) ∙ inv.flags.counted cell ∙ ap (times_taken views) stands

  rests_owe : (y first : ℕ) → owed w.state y first ≡ 0
  rests_owe y first = ap (λ s. owed s y first) rests

  rests_choose : (y : ℕ) → chosen w.state y ≡ 0
  rests_choose y = ap (λ s. chosen s y) rests

  flag_within : length base + cell < length words
  flag_within = let size = inv.size in let here = within in omega arith

  cells_stay : cell_words base (set words (length base + cell) 1) ≡ cell_words base words
  cells_stay = take-set-le (length base) words (length base + cell) 1 (omega arith)

  flags_are : flag_words base (set words (length base + cell) 1) ≡ set (flag_words base words) cell 1
  flags_are = drop-set-add (length base) words cell 1

  -- the number was taken: it is found gone
  pub first_late : get_or words (length base + cell) 0 ≡ 1 → WithdrawInvariant home base (set words (length base + cell) 1) (set views id (record { state = Rest; begun = w.begun; gone = w.gone ++ x ∷ [] }))
  first_late was =
      let z : WithdrawView = record { state = Rest; begun = w.begun; gone = w.gone ++ x ∷ [] } in
      let views' = set views id z in
      let flags = flag_words base words in
      let none : (y first : ℕ) → owed z.state y first ≡ owed w.state y first = λ y first. sym (rests_owe y first) in
      let begun_same = begun_stays base views id w z lt at refl in
      let same : (y : ℕ) → times_taken views' y ≡ times_taken views y = λ y.
      let begun = begun_same y in let none_before = rests_choose y in omega (arith, chosen_set views id w z lt at y) in
      let once : (y : ℕ) → times_taken views' y ≤ 1 = λ y. let once = inv.flags.once y in let is = same y in omega arith in
      let grows : (y : ℕ) → times_taken views y ≤ times_taken views' y = λ y. let is = same y in omega arith in
      let unchanged : set words (length base + cell) 1 ≡ words = ap (λ v. set words (length base + cell) v) (sym was) ∙ set-get_or words (length base + cell) 0 in
      let taken : IsOfBase base x × (times_taken views' x ≡ 1) = (of_base, same x ∙ sym flag_is ∙ was) in
      let after = flags_after base flags flags views id w z lt at inv.flags
      (λ k. inv.flags.counted k ∙ sym (same (get_or base k 0))) once grows
      (own_begun base flags flags views id w z lt at inv.flags)
      (All-push (λ y. IsOfBase base y × (times_taken views' y ≡ 1)) w.gone x
      (gone_on base flags flags views id w z lt at inv.flags w.gone grows once (own_gone base flags flags views id w z lt at inv.flags)) taken) in
      subst (λ (l : List ℕ). WithdrawInvariant home base l views') (sym unchanged)
      (same_but_flags home base words words views id w z lt at inv refl none refl refl after tt)

  -- it was not: it is chosen
  pub first_chooses : get_or words (length base + cell) 0 ≡ 0 → WithdrawInvariant home base (set words (length base + cell) 1) (set views id (record { state = Chosen x (home x); begun = w.begun; gone = w.gone }))
  first_chooses was =
      let z : WithdrawView = record { state = Chosen x (home x); begun = w.begun; gone = w.gone } in
      let views' = set views id z in
      let flags = flag_words base words in
      let none : (y first : ℕ) → owed z.state y first ≡ owed w.state y first = λ y first. sym (rests_owe y first) in
      let begun_same = begun_stays base views id w z lt at refl in
      let more : (y : ℕ) → times_taken views' y ≡ times_taken views y + hit y x = λ y.
      let begun = begun_same y in let none_before = rests_choose y in omega (arith, chosen_set views id w z lt at y) in
      let untaken : times_taken views x ≡ 0 = sym flag_is ∙ was in
      let other : (y : ℕ) → y ≢ x → times_taken views' y ≡ times_taken views y = λ y n. omega (arith, more y, hit_no y x (λ e. n (sym e))) in
      let now : times_taken views' x ≡ 1 = omega (arith, more x, hit_yes x x refl) in
      let once : (y : ℕ) → times_taken views' y ≤ 1 = λ y. ⊎_elim
      (λ (e : y ≡ x). let is : times_taken views' y ≡ 1 = ap (times_taken views') e ∙ now in omega arith)
      (λ (n : y ≢ x). let once = inv.flags.once y in omega (arith, other y n))
      (cases_eq y x) in
      let grows : (y : ℕ) → times_taken views y ≤ times_taken views' y = λ y. omega (arith, more y) in
      let size : length flags ≡ length base = let size = inv.size in omega (arith, length-drop (length base) words) in
      let here = within in
      let counted : (k : ℕ) → get_or (set flags cell 1) k 0 ≡ times_taken views' (get_or base k 0) = λ k. ⊎_elim
      (λ (e : k ≡ cell).
      ap (λ j. get_or (set flags cell 1) j 0) e ∙ get_or-set_same flags cell 1 0 (omega arith) ∙ sym now ∙ ap (times_taken views') (sym stands) ∙ ap (λ j. times_taken views' (get_or base j 0)) (sym e))
      (λ (n : k ≢ cell).
      get_or-set_other flags cell k 1 0 n ∙ inv.flags.counted k
      ∙ sym (other (get_or base k 0) (λ e. n (one_place home base x k cell inv.begins.ordered some e stands))))
      (cases_eq k cell) in
      let after = flags_after base flags (set flags cell 1) views id w z lt at inv.flags counted once grows
      (own_begun base flags flags views id w z lt at inv.flags)
      (gone_on base flags flags views id w z lt at inv.flags w.gone grows once (own_gone base flags flags views id w z lt at inv.flags)) in
      let live : IsLive base views x = record { of_base = of_base; kept = omega arith } in
      let homed : home x ≤ cell = subst (λ (v : ℕ). home v ≤ cell) stands (inv.begins.ordered.from_home cell (λ e. some (sym stands ∙ e))) in
      same_but_flags home base words (set words (length base + cell) 1) views id w z lt at inv refl none
      (length-set words (length base + cell) 1) cells_stay
      (subst (λ (l : List ℕ). AreFlags base l views') (sym flags_are) after)
      (record { live = live; from_home = omega arith; within = omega arith })
