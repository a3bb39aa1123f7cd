-- Once all are at rest, the cells are the layout of the base without the numbers whose removal was begun.
use Rattle.std.proofs.Common.{◌≡◌, ◌≢◌, ℕ, ◌+◌, ◌<◌, ◌≤◌, ⊎_elim, List, length, get_or, refl, sym, ◌∙◌, ap, subst, arith}
use Rattle.store_spec.proofs.Common.{All, All-weaker, Contains, IsLive, IsOfBase, IsOrdered, WithdrawInvariant, WithdrawView, begun_by, cases_eq, cases_lt, cell_words, copies, count_by, debts, get_or_default, get_or_past, laid_out, layout_of, length-take, numbers_in, take_all, times, times_begun, times_taken, walks_to, without}
use Rattle.layout_def.proofs.OwnLayout.{ordered_is_own_layout}
use Rattle.step_core.proofs.Copies.{hit, hit_yes, copies_more, copies_rise}
use Rattle.step_core.proofs.Debts.{owed, chosen}
use Rattle.step_core.proofs.Listings.{times_some, some_times, times_in_cells, no_zero_in_cells, times_without, times_without_none, times-flat_map, same_ascending}
use Rattle.step_core.proofs.WithdrawSeats.{base_once}
use Rattle.step_core.proofs.WordSets.{sum_none}
use Rattle.store_spec.specs.WithdrawStep.WithdrawState.{Rest}

module _ (home : ℕ → ℕ) (base words : List ℕ) (views : List WithdrawView) (inv : WithdrawInvariant home base words views) (rest : All (λ w. w.state ≡ Rest) views) where
  abbrev cells : List ℕ
  cells = cell_words base words

  size : length (cell_words base words) ≡ length base
  size = let size = inv.size in omega (arith, length-take (length base) words)

  no_debts : (x first : ℕ) → debts views x first ≡ 0
  no_debts x first = sum_none (λ w. owed w.state x first) views (λ k d lt. ap (λ s. owed s x first) (rest k d lt))

  -- what was taken was begun
  pub all_begun : (x : ℕ) → times_taken views x ≡ times_begun views x
  all_begun x =
      let none : count_by (λ w. walks_to w.state x) views ≡ 0 = sum_none (λ w. chosen w.state x) views (λ k d lt. ap (λ s. chosen s x) (rest k d lt)) in
      omega arith

  in_cells : (x : ℕ) → copies cells x (length base) ≡ times cells x
  in_cells x = ap (λ l. times l x) (take_all (length base) cells (omega (arith, size)))

  -- a number of the base stands once, or was begun
  once : (x : ℕ) → IsOfBase base x → times cells x + times_begun views x ≡ 1
  once x of = let all = inv.owed.in_all x of in omega (arith, no_debts x (length base), in_cells x)

  within : (place : ℕ) → get_or cells place 0 ≢ 0 → place < length cells
  within place some = ⊎_elim (λ lt. lt) (λ (past : length cells ≤ place). absurd (some (get_or_past cells place 0 past))) (cases_lt place (length cells))

  ordered : IsOrdered home (cell_words base words)
  ordered = record {
    from_home = inv.copied.from_home;
    greater_before = λ place before some from earlier.
        let x = get_or cells place 0 in
        let lt = within place some in
        let of : IsOfBase base x = record { some = some; stood = inv.copied.of_base place some } in
        let stands = once x of in
        let more : copies cells x (place + 1) ≡ copies cells x place + hit x x = copies_more cells x place lt in
        let few = copies_rise cells x (place + 1) (length base) (omega (arith, size)) in
        let none : copies cells x place ≡ 0 = omega (arith, hit_yes x x refl, in_cells x) in
        let live : IsLive base views x = record { of_base = of; kept = omega (arith, hit_yes x x refl, in_cells x) } in
        let none_before : copies cells x (before + 1) ≡ 0 = omega (arith, copies_rise cells x (before + 1) place (omega arith)) in
        inv.lowest.in_order x before live from none_before;
  }

  same_numbers : (x : ℕ) → times (numbers_in cells) x ≡ times (without (numbers_in base) (begun_by views)) x
  same_numbers x =
      let begun : times (begun_by views) x ≡ times_begun views x = times-flat_map (λ w. w.begun) views x in
      let never : times (numbers_in base) x ≡ 0 → times (without (numbers_in base) (begun_by views)) x ≡ 0 = λ none. ⊎_elim
      (λ (e : times (begun_by views) x ≡ 0). times_without (numbers_in base) (begun_by views) x e ∙ none)
      (λ (n : times (begun_by views) x ≢ 0). times_without_none (numbers_in base) (begun_by views) x (omega arith))
      (cases_eq (times (begun_by views) x) 0) in
      ⊎_elim
      (λ (e : x ≡ 0).
      ap (times (numbers_in cells)) e ∙ no_zero_in_cells cells ∙ sym (never (ap (times (numbers_in base)) e ∙ no_zero_in_cells base)))
      (λ (some : x ≢ 0).
      times_in_cells cells x some ∙ ⊎_elim
      (λ (none : times base x ≡ 0).
      let not_there : times cells x ≡ 0 = ⊎_elim (λ z. z)
      (λ (n : times cells x ≢ 0).
      let c = some_times cells x (omega arith) in
      let there : get_or cells c.0 0 ≡ x = get_or_default cells c.0 0 x c.1 ∙ c.2 in
      let of = times_some base x (subst (λ (v : ℕ). Contains base v) there (inv.copied.of_base c.0 (λ z. some (sym there ∙ z)))) in
      absurd (omega arith))
      (cases_eq (times cells x) 0) in
      not_there ∙ sym (never (times_in_cells base x some ∙ none)))
      (λ (n : times base x ≢ 0).
      let of : IsOfBase base x = record { some = some; stood = some_times base x (omega arith) } in
      let stands = once x of in
      let one = base_once home base x inv.begins of in
      ⊎_elim
      (λ (e : times_begun views x ≡ 0). let kept : times cells x ≡ times base x = omega arith in
      kept ∙ sym (times_in_cells base x some) ∙ sym (times_without (numbers_in base) (begun_by views) x (begun ∙ e)))
      (λ (m : times_begun views x ≢ 0). let gone : times cells x ≡ 0 = omega arith in
      gone ∙ sym (times_without_none (numbers_in base) (begun_by views) x (omega arith)))
      (cases_eq (times_begun views x) 0))
      (cases_eq (times base x) 0))
      (cases_eq x 0)

  pub at_rest : cell_words base words ≡ layout_of home (length base) (without (numbers_in base) (begun_by views))
  at_rest =
      ordered_is_own_layout home cells ordered
      ∙ ap (λ n. layout_of home n (numbers_in cells)) size
      ∙ ap (laid_out home (length base)) (same_ascending (numbers_in cells) (without (numbers_in base) (begun_by views)) same_numbers)

  -- of the lists: each begun number is of the base, once, and each that was found gone was begun
  pub begun_once : (x : ℕ) → times (begun_by views) x ≤ 1
  begun_once x =
      let once = inv.flags.once x in let begun : times (begun_by views) x ≡ times_begun views x = times-flat_map (λ w. w.begun) views x in
      omega (arith, all_begun x)

  pub gone_begun : All (λ w. All (Contains (begun_by views)) w.gone) views
  gone_begun = λ k d lt. All-weaker (λ x. IsOfBase base x × (times_taken views x ≡ 1)) (Contains (begun_by views))
      (λ x s.
      let begun : times (begun_by views) x ≡ times_begun views x = times-flat_map (λ w. w.begun) views x in
      some_times (begun_by views) x (omega (arith, all_begun x, s.1)))
      (get_or views k d).gone (inv.flags.gone k d lt)
