-- A step of a withdrawer by its row keeps the withdrawing invariant, and tells what it is said to tell.
use Rattle.std.proofs.Common.{◌≡◌, ◌≢◌, ℕ, ◌+◌, ◌≤◌, List, length, get_or, set, Some, slice_get, refl, sym, ◌∙◌, ap, subst, arith}
use Rattle.store_spec.proofs.Common.{Begun, Done, FirstRow, Gone, Quiet, StandsInBase, WithdrawInvariant, WithdrawNote, WithdrawState, WithdrawView, cell_words, get_or-drop, get_or-set_same, left_by, length-set, slice_get-get_or, slice_get_within, withdraw_act, withdraw_number, withdraw_view_after, word_of}
use Rattle.step_core.proofs.WithdrawReady.{found_taken, may_find, row_falls, sound_of, within_cells}
use Rattle.step_core.proofs.WithdrawRows.{keeps_first, keeps_row}
use Rattle.step_core.specs.WithdrawTables.{FitsIn, LeadsTo}
use Rattle.store_spec.specs.WithdrawStep.WithdrawState.{Rest}
use Rattle.word_rule.proofs.WithdrawRowFor.{first_row_for, row_for}
use Rattle.word_rule.specs.WithdrawSeats.{Begins, TakesNextRow}

-- the state after a step is the new one, whatever the note
after_state : (view : WithdrawView) (x : ℕ) (new : WithdrawState) (note : WithdrawNote) → (withdraw_view_after view x new note).state ≡ new
after_state view x new Quiet = refl
after_state view x new Gone = refl
after_state view x new Begun = refl
after_state view x new Done = refl

module _ (home : ℕ → ℕ) (base words : List ℕ) (views : List WithdrawView) (id : ℕ) (view : WithdrawView) (inv : WithdrawInvariant home base words views) (has : slice_get views id ≡ Some view) where
  -- what was put stands there
  has_now : (w : WithdrawView) → slice_get (set views id w) id ≡ Some w
  has_now w =
      let lt = slice_get_within views id view has in
      slice_get-get_or (set views id w) id w (omega (arith, length-set views id w)) ∙ ap Some (get_or-set_same views id w w lt)

  fits_now : (now : List ℕ) (w : WithdrawView) → WithdrawInvariant home base now (set views id w) → FitsIn (length base) w.state
  fits_now now w kept = within_cells home base (cell_words base now) (set views id w) w.state (sound_of home base now (set views id w) id w kept (has_now w) w.state refl)

  -- a view that a later step leads to
  pub record NextView (found : ℕ) (now : List ℕ) : Type 0 where
    pub after : WithdrawView
    pub keeps : WithdrawInvariant home base now (set views id after)
    pub tells : TakesNextRow home (length base) found view after

  pub next_view : view.state ≢ Rest → let act = withdraw_act view.state in let found = get_or words (word_of act) 0 in NextView found (set words (word_of act) (left_by act found))
  next_view moves =
      let act = withdraw_act view.state in
      let found = get_or words (word_of act) 0 in
      let now = set words (word_of act) (left_by act found) in
      let x = withdraw_number view.state in
      let sound = sound_of home base words views id view inv has view.state refl in
      let may = may_find home base words views id view inv has view.state found moves refl refl in
      let row = row_for home (length base) view.state found (within_cells home base (cell_words base words) views view.state sound) may in
      let after = withdraw_view_after view x row.0 row.1 in
      let is = after_state view x row.0 row.1 in
      let keeps = keeps_row home base view.state (word_of act) found (left_by act found) row.0 row.1 row.2 words views id view inv has refl refl in
      record {
        after = after;
        keeps = keeps;
        tells = record {
          may_find = may;
          note = row.1;
          row = subst (λ s. LeadsTo home view.state found s row.1) (sym is) row.2;
          is = ap (λ s. withdraw_view_after view x s row.1) (sym is);
          fits = fits_now now after keeps;
          falls = row_falls home base (cell_words base words) views view.state (word_of act) found (left_by act found) after.state row.1 (subst (λ s. LeadsTo home view.state found s row.1) (sym is) row.2) sound;
        };
      }

  -- a view that a first step for a number leads to
  pub record FirstView (x found : ℕ) (now : List ℕ) : Type 0 where
    pub after : WithdrawView
    pub keeps : WithdrawInvariant home base now (set views id after)
    pub tells : Begins home (length base) x found view after

  pub first_view : (x cell : ℕ) → view.state ≡ Rest → StandsInBase base x cell → let found = get_or words (length base + cell) 0 in FirstView x found (set words (length base + cell) 1)
  first_view x cell rests seated =
      let found = get_or words (length base + cell) 0 in
      let now = set words (length base + cell) 1 in
      let flag : found ≤ 1 = let is = sym (get_or-drop (length base) words cell 0) ∙ inv.flags.counted cell in let once = inv.flags.once (get_or base cell 0) in omega arith in
      let row = first_row_for home x found flag in
      let after = withdraw_view_after view x row.0 row.1 in
      let is = after_state view x row.0 row.1 in
      let keeps = keeps_first home base x cell found row.0 row.1 seated row.2 words views id view inv has rests refl in
      record {
        after = after;
        keeps = keeps;
        tells = record {
          flag = flag;
          note = row.1;
          row = subst (λ s. FirstRow home x found s row.1) (sym is) row.2;
          is = ap (λ s. withdraw_view_after view x s row.1) (sym is);
          fits = fits_now now after keeps;
          again = λ taken. found_taken home base words views id view inv has x cell seated taken;
        };
      }
