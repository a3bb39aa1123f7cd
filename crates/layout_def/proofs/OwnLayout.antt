-- The first cells of a layout are the layout in so many cells, so ordered cells are the layout of the numbers in them,
-- also where these have no room to spare.
use Rattle.std.proofs.Common.{◌≡◌, ◌≢◌, ◌==◌, true, not, ℕ, zero, suc, ◌+◌, ◌≤◌, ⊎_elim, List, [], ◌∷◌, length, get_or, take, refl, sym, ap, ◌∙◌, arith}
use Rattle.store_spec.proofs.Common.{All, All-weaker, Contains-get_or, HasRoom, IsOrdered, ascending, cases_eq, cond-false, cond-true, eq-eqb, filter_passes, laid_out, layout_of, ne_eqb, numbers_in, placed, take-replicate, true≢false}
use Rattle.layout_def.proofs.Fronts.{distinct_in, front_is_layout, holds_own}
use Rattle.layout_def.proofs.OrderedCells.{home_before, place_from_contains}

placed_in_front : (v place n : ℕ) (cells : List ℕ) → placed v place (take n cells) ≡ take n (placed v place cells)
placed_in_front v place zero cells = refl
placed_in_front v place (suc n) [] = refl
placed_in_front v zero (suc n) (cell ∷ cells) = ⊎_elim
    (λ (e : cell ≡ 0). cond-true _ _ _ (eq-eqb cell 0 e) ∙ ap (take (suc n)) (sym (cond-true _ (v ∷ cells) (cell ∷ placed v zero cells) (eq-eqb cell 0 e))))
    (λ (d : cell ≢ 0).
    cond-false _ _ _ (ne_eqb cell 0 d)
    ∙ ap (λ rest. cell ∷ rest) (placed_in_front v zero n cells)
    ∙ ap (take (suc n)) (sym (cond-false _ (v ∷ cells) (cell ∷ placed v zero cells) (ne_eqb cell 0 d))))
    (cases_eq cell 0)
placed_in_front v (suc place) (suc n) (cell ∷ cells) = ap (λ rest. cell ∷ rest) (placed_in_front v place n cells)

laid_out_in_front : (home : ℕ → ℕ) (n count : ℕ) (numbers : List ℕ) → n ≤ count → laid_out home n numbers ≡ take n (laid_out home count numbers)
laid_out_in_front home n count [] le = sym (take-replicate n count 0 le)
laid_out_in_front home n count (v ∷ greater) le =
    ap (placed v (home v)) (laid_out_in_front home n count greater le) ∙ placed_in_front v (home v) n (laid_out home count greater)

-- the numbers that stand in cells are not 0
numbers_some : (cells : List ℕ) → All (λ v. v ≢ 0) (numbers_in cells)
numbers_some cells =
    All-weaker (λ v. not (v == 0) ≡ true) (λ v. v ≢ 0)
    (λ v pass zero_v. true≢false (sym pass ∙ ap not (eq-eqb v 0 zero_v)))
    (numbers_in cells) (filter_passes (λ cell. not (cell == 0)) cells)

-- each stands at its home or after it, so that there is a cell for each home
room_behind : (home : ℕ → ℕ) (cells : List ℕ) → IsOrdered home cells → HasRoom home (length cells) (length cells + length (numbers_in cells)) (numbers_in cells)
room_behind home cells h = record {
  distinct = distinct_in home cells h;
  some = numbers_some cells;
  homed = λ k d within.
      let v = get_or (numbers_in cells) k d in
      let s = place_from_contains cells v ((holds_own cells).each v (Contains-get_or (numbers_in cells) k d within)) in
      let at_home : home v ≤ s.0 = home_before home cells v s.0 h (numbers_some cells k d within) s.2 in
      omega (arith, s.1);
  room = omega arith;
}

pub ordered_is_own_layout : (home : ℕ → ℕ) (cells : List ℕ) → IsOrdered home cells → cells ≡ layout_of home (length cells) (numbers_in cells)
ordered_is_own_layout home cells h =
    let numbers = numbers_in cells in
    let more = length cells + length numbers in
    sym (laid_out_in_front home (length cells) more (ascending numbers) (omega arith)
    ∙ front_is_layout home (length cells) more cells (room_behind home cells h) h (omega arith))
