-- A step that changes no cell and no count: it looks, and the withdrawer goes on.
use Rattle.std.proofs.Common.{◌≡◌, ℕ, ◌<◌, List, length, get_or, set, sym, ◌∙◌, subst, arith}
use Rattle.store_spec.proofs.Common.{All, AreCopies, AreFlags, AreLowest, AreOwed, IsSound, WithdrawInvariant, WithdrawState, WithdrawView, cell_words, debts, flag_words}
use Rattle.step_core.proofs.Debts.{owed, chosen, debts_set}
use Rattle.step_core.proofs.WithdrawFlags.{begun_stays, live_before, live_on, flags_stay}
use Rattle.step_core.proofs.WithdrawStates.{Follows, sound_after}
use Rattle.step_core.proofs.WordSets.{all_after_set}

module _ (home : ℕ → ℕ) (base words words' : List ℕ) (views : List WithdrawView) (id : ℕ) (w z : WithdrawView) (lt : id < length views) (at : get_or views id w ≡ w) (inv : WithdrawInvariant home base words views) (begun : z.begun ≡ w.begun) (as_owed : (x first : ℕ) → owed z.state x first ≡ owed w.state x first) where
  debts_stay : (x first : ℕ) → debts (set views id z) x first ≡ debts views x first
  debts_stay x first = let was = as_owed x first in omega (arith, debts_set views id w z lt at x first)

  owed_stays : AreOwed base (cell_words base words) (set views id z)
  owed_stays = record {
    no_more = λ x first. let no_more = inv.owed.no_more x first in omega (arith, debts_stay x first);
    in_all = λ x of_base. let in_all = inv.owed.in_all x of_base in omega (arith, debts_stay x (length base), begun_stays base views id w z lt at begun x);
  }

  lowest_stays : AreLowest home base (cell_words base words) (set views id z)
  lowest_stays =
      let before = live_before base views id w z lt at begun in
      record {
        spare = λ x first live some. let spare = inv.lowest.spare x first (before x live) some in omega (arith, debts_stay x first);
        in_order = λ x place live from none. inv.lowest.in_order x place (before x live) from none;
      }

  sound_on : (state : WithdrawState) → IsSound home base (cell_words base words) views state → IsSound home base (cell_words base words) (set views id z) state
  sound_on state s =
      let cells = cell_words base words in
      let follows : Follows base cells views cells (set views id z) = record {
        live = live_before base views id w z lt at begun;
        falls = λ place. omega arith;
        kept = λ x first live some. some;
      } in
      sound_after home base cells views cells (set views id z) follows state (λ x walks live. live_on base views id w z lt at begun x live) s

  -- flags and the list of those that were found gone may change
  pub same_but_flags : length words' ≡ length words → cell_words base words' ≡ cell_words base words → AreFlags base (flag_words base words') (set views id z) → IsSound home base (cell_words base words) views z.state → WithdrawInvariant home base words' (set views id z)
  same_but_flags size cells flags sound =
      let views' = set views id z in
      let back = sym cells in
      record {
        begins = inv.begins;
        size = size ∙ inv.size;
        flags = flags;
        copied = subst (λ (l : List ℕ). AreCopies home base l) back inv.copied;
        owed = subst (λ (l : List ℕ). AreOwed base l views') back owed_stays;
        lowest = subst (λ (l : List ℕ). AreLowest home base l views') back lowest_stays;
        states = subst (λ (l : List ℕ). All (λ v. IsSound home base l views' v.state) views') back
            (all_after_set (λ v. IsSound home base (cell_words base words) views' v.state) views id z (sound_on z.state sound)
            (λ k d within other. sound_on (get_or views k d).state (inv.states k d within)));
      }

  -- or no word at all
  pub quiet : z.gone ≡ w.gone → ((x : ℕ) → chosen z.state x ≡ chosen w.state x) → IsSound home base (cell_words base words) views z.state → WithdrawInvariant home base words (set views id z)
  quiet gone as_chosen sound = record {
    begins = inv.begins;
    size = inv.size;
    flags = flags_stay base views id w z lt at begun (flag_words base words) gone as_chosen inv.flags;
    copied = inv.copied;
    owed = owed_stays;
    lowest = lowest_stays;
    states = all_after_set (λ v. IsSound home base (cell_words base words) (set views id z) v.state) views id z (sound_on z.state sound)
        (λ k d within other. sound_on (get_or views k d).state (inv.states k d within));
  }
