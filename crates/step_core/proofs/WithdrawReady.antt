-- What the invariant gives a step: its places lie within the cells, there is a cell below where one is wanted, what is
-- left to do falls, and a number that was taken is found gone.
use Rattle.std.proofs.Common.{◌≡◌, ◌≢◌, ◌==◌, ℕ, ◌+◌, ◌<◌, ◌⊎◌, inl, inr, ⊎_elim, List, length, get_or, Some, slice_get, refl, sym, ◌∙◌, ap, subst, arith}
use Rattle.store_spec.proofs.Common.{All, All-contains, Chosen, Contains, Down, Falls, IsOfBase, IsSound, Owing, StandsInBase, Up, WithdrawInvariant, WithdrawNote, WithdrawRow, WithdrawState, WithdrawView, began, cases_eq, cell_words, cond-false, cond-true, copies, emptied, eq-eqb, found_candidate, found_lower_candidate, found_owed, get_or-drop, get_or-take, get_or_from_slice_get, kept_candidate, length-take, looked_higher, looked_lower, lost, ne_eqb, refilled, slice_get_within, times_taken, walked_on, withdraw_act, withdraw_measure, word_of}
use Rattle.step_core.proofs.Copies.{hit, hit_no, copies_more}
use Rattle.step_core.proofs.Listings.{times_some}
use Rattle.step_core.proofs.Debts.{owed, owed_to, owed_yes, owed_within, begun_within}
use Rattle.step_core.specs.WithdrawTables.{FitsIn, MayFind}
use Rattle.store_spec.specs.Act.Act.{Load, Trade}
use Rattle.store_spec.specs.WithdrawStep.WithdrawState.{Rest}

pub within_cells : (home : ℕ → ℕ) (base cells : List ℕ) (views : List WithdrawView) (state : WithdrawState) → IsSound home base cells views state → FitsIn (length base) state
within_cells home base cells views Rest s = tt
within_cells home base cells views (Chosen x place) s = (s.live.of_base.some, s.within)
within_cells home base cells views (Owing x bound) s = (s.of_base.some, s.within)
within_cells home base cells views (Up x bound place) s = (s.owed.of_base.some, s.above, s.within)
within_cells home base cells views (Down x bound place c source) s = let below = s.below in let last = s.within in (s.owed.of_base.some, s.above, omega arith, s.within)

-- each row does a part of what is left
pub row_falls : (home : ℕ → ℕ) (base cells : List ℕ) (views : List WithdrawView) (from : WithdrawState) (cell found left : ℕ) (new : WithdrawState) (note : WithdrawNote) → WithdrawRow home from cell found left new note → IsSound home base cells views from → Falls (withdraw_measure (length base) new) (withdraw_measure (length base) from)
row_falls home base cells views _ _ _ _ _ _ (walked_on {x} {place} {word} less) s = let lt = s.within in inl (omega arith)
row_falls home base cells views _ _ _ _ _ _ (began {x} {place} {word} stops) s = let lt = s.within in inl (omega arith)
row_falls home base cells views _ _ _ _ _ _ (found_owed {x} {bound}) s = let lt = s.within in inr (refl, inr (refl, inr (refl, inl (omega arith))))
row_falls home base cells views _ _ _ _ _ _ (looked_lower {x} {bound} {word} other) s = inr (refl, inr (refl, inl (omega arith)))
row_falls home base cells views _ _ _ _ _ _ (looked_higher {x} {bound} {place} {word} misfit) s = let lt = s.within in inr (refl, inr (refl, inr (refl, inl (omega arith))))
row_falls home base cells views _ _ _ _ _ _ (found_candidate {x} {bound} {place} {word} fits) s = let lt = s.within in inr (refl, inr (refl, inr (refl, inl (omega arith))))
row_falls home base cells views _ _ _ _ _ _ (found_lower_candidate {x} {bound} {place} {c} {source} {word} above fits) s = inr (refl, inr (refl, inr (refl, inl (omega arith))))
row_falls home base cells views _ _ _ _ _ _ (kept_candidate {x} {bound} {place} {c} {source} {word} above misfit) s = inr (refl, inr (refl, inr (refl, inl (omega arith))))
row_falls home base cells views _ _ _ _ _ _ (emptied {x} {bound} {source}) s = let some = s.owed.of_base.some in inr (refl, inl (omega arith))
row_falls home base cells views _ _ _ _ _ _ (refilled {x} {bound} {c} {source} some) s = inr (refl, inl (⊎_elim (λ (e : c ≡ 0). absurd (some e)) (λ f. f.1) s.fits))
row_falls home base cells views _ _ _ _ _ _ (lost {x} {bound} {c} {source} {word} other) s = inr (refl, inr (refl, inl (omega arith)))

-- the cell on which a downward search acts
pub down_word : (x bound place c source : ℕ) → word_of (withdraw_act (Down x bound place c source)) ≡ place
down_word x bound place c source = ⊎_elim
    (λ (e : place ≡ bound). ap word_of (cond-true (place == bound) (Trade bound x c) (Load place) (eq-eqb place bound e)) ∙ sym e)
    (λ (n : place ≢ bound). ap word_of (cond-false (place == bound) (Trade bound x c) (Load place) (ne_eqb place bound n)))
    (cases_eq place bound)

module _ (home : ℕ → ℕ) (base words : List ℕ) (views : List WithdrawView) (id : ℕ) (w : WithdrawView) (inv : WithdrawInvariant home base words views) (has : slice_get views id ≡ Some w) where
  lt : id < length views
  lt = slice_get_within views id w has

  at : get_or views id w ≡ w
  at = get_or_from_slice_get views id w w has

  pub sound_of : (state : WithdrawState) → w.state ≡ state → IsSound home base (cell_words base words) views state
  sound_of state is = subst (λ (s : WithdrawState). IsSound home base (cell_words base words) views s) (ap (λ v. v.state) at ∙ is) (inv.states id w lt)

  -- an owed number that is owed from the first cell alone stands there
  at_first : (x found : ℕ) → owed w.state x 1 ≡ 1 → get_or words 0 0 ≡ found → 0 < length base → found ≡ x
  at_first x found owes here some =
      let cells = cell_words base words in
      let size = inv.size in
      let debt = owed_within views id w w lt at x 1 in
      let no_more = inv.owed.no_more x 1 in
      let first : copies cells x 1 ≡ copies cells x 0 + hit x (get_or cells 0 0) = copies_more cells x 0 (omega (arith, length-take (length base) words)) in
      let none : copies cells x 0 ≡ 0 = refl in
      ⊎_elim
      (λ (e : get_or cells 0 0 ≡ x). sym here ∙ sym (get_or-take (length base) words 0 0 some) ∙ e)
      (λ (n : get_or cells 0 0 ≢ x). absurd (omega (arith, hit_no x (get_or cells 0 0) n)))
      (cases_eq (get_or cells 0 0) x)

  lower_owed : (x bound found : ℕ) → ((first : ℕ) → owed w.state x first ≡ owed_to x bound x first) → bound < length base → get_or words bound 0 ≡ found → found ≢ x → 0 < bound
  lower_owed x bound found owes within here other = ⊎_elim
      (λ (e : bound ≡ 0).
      absurd (other (at_first x found (owes 1 ∙ owed_yes x bound x 1 refl (omega arith)) (subst (λ (k : ℕ). get_or words k 0 ≡ found) e here) (omega arith))))
      (λ (n : bound ≢ 0). omega arith)
      (cases_eq bound 0)

  pub may_find : (state : WithdrawState) (found : ℕ) → state ≢ Rest → w.state ≡ state → get_or words (word_of (withdraw_act state)) 0 ≡ found → MayFind state found
  may_find Rest found moves is here = moves refl
  may_find (Chosen x place) found moves is here = tt
  may_find (Owing x bound) found moves is here = λ other. lower_owed x bound found (λ first. ap (λ s. owed s x first) is) (sound_of (Owing x bound) is).within here other
  may_find (Up x bound place) found moves is here = tt
  may_find (Down x bound place c source) found moves is here = λ e other.
      lower_owed x bound found (λ first. ap (λ s. owed s x first) is) (sound_of (Down x bound place c source) is).owed.within
      (subst (λ (k : ℕ). get_or words k 0 ≡ found) (down_word x bound place c source ∙ e) here) other

  -- a number that was taken by this one or another is found gone
  pub found_taken : (x cell : ℕ) → StandsInBase base x cell → Contains w.begun x ⊎ Contains w.gone x → get_or words (length base + cell) 0 ≡ 1
  found_taken x cell seated taken =
      let flag : get_or words (length base + cell) 0 ≡ times_taken views x =
      sym (get_or-drop (length base) words cell 0) ∙ inv.flags.counted cell ∙ ap (times_taken views) seated.stands in
      let once = inv.flags.once x in
      ⊎_elim
      (λ (c : Contains w.begun x).
      let mine = begun_within views id w w lt at x in let some = times_some w.begun x c in omega arith)
      (λ (c : Contains w.gone x).
      let all = subst (λ (v : WithdrawView). All (λ y. IsOfBase base y × (times_taken views y ≡ 1)) v.gone) at (inv.flags.gone id w lt) in
      flag ∙ (All-contains (λ y. IsOfBase base y × (times_taken views y ≡ 1)) w.gone x all c).1)
      taken
