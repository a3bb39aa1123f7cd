-- Ordered cells are the first cells of the layout of the numbers in them.
use Rattle.std.proofs.Common.{◌≡◌, ◌≢◌, ◌==◌, not, ℕ, ◌-◌, ◌<◌, ◌≤◌, inl, inr, ⊎_elim, List, [], ◌∷◌, ◌++◌, length, get_or, take, replicate, sym, refl, ap, ◌∙◌, subst, arith}
use Rattle.store_spec.proofs.Common.{All, All-contains, AllPairs, AllPairs-filter, Contains-get_or, HasRoom, HoldsExactly, IsOrdered, ascending, cases_eq, cases_lt, cond-false, cond-true, eq-eqb, get_or-append_right, get_or_append_left, get_or_default, laid_out, layout_of, length-append, length-replicate, ne_eqb, numbers_in, placed, put_in_order, take_at}
use Rattle.layout_def.proofs.Ascending.{IsIn, in_from_contains, contains_from_in, from_ascending, put_first}
use Rattle.layout_def.proofs.LaidOut.{empty_cell, ordered_is_layout_of}
use Rattle.layout_def.proofs.OrderedCells.{above_before, home_before, place_from_contains, contains_from_place, place_within}

-- ---- the numbers in cells

filled_in : (cell : ℕ) (cells : List ℕ) → cell ≢ 0 → numbers_in (cell ∷ cells) ≡ cell ∷ numbers_in cells
filled_in cell cells n = cond-true _ _ _ (ap not (ne_eqb cell 0 n))

empty_in : (cell : ℕ) (cells : List ℕ) → cell ≡ 0 → numbers_in (cell ∷ cells) ≡ numbers_in cells
empty_in cell cells e = cond-false _ _ _ (ap not (eq-eqb cell 0 e))

in_numbers : (v : ℕ) (cells : List ℕ) → v ≢ 0 → IsIn v cells → IsIn v (numbers_in cells)
in_numbers v [] n i = i
in_numbers v (cell ∷ cells) n i = ⊎_elim
    (λ (e : cell ≡ 0). subst (λ (l : List ℕ). IsIn v l) (sym (empty_in cell cells e))
    (⊎_elim (λ (same : cell ≡ v). absurd (n (sym same ∙ e))) (λ rest. in_numbers v cells n rest) i))
    (λ (d : cell ≢ 0). subst (λ (l : List ℕ). IsIn v l) (sym (filled_in cell cells d))
    (⊎_elim (λ same. inl same) (λ rest. inr (in_numbers v cells n rest)) i))
    (cases_eq cell 0)

from_numbers : (v : ℕ) (cells : List ℕ) → IsIn v (numbers_in cells) → (v ≢ 0) × IsIn v cells
from_numbers v [] i = absurd i
from_numbers v (cell ∷ cells) i = ⊎_elim
    (λ (e : cell ≡ 0). let rest = from_numbers v cells (subst (λ (l : List ℕ). IsIn v l) (empty_in cell cells e) i) in (rest.0, inr rest.1))
    (λ (d : cell ≢ 0).
    let j : IsIn v (cell ∷ numbers_in cells) = subst (λ (l : List ℕ). IsIn v l) (filled_in cell cells d) i in
    ⊎_elim (λ (same : cell ≡ v). (λ (z : v ≡ 0). d (same ∙ z), inl same)) (λ k. let rest = from_numbers v cells k in (rest.0, inr rest.1)) j)
    (cases_eq cell 0)

-- cells hold exactly the numbers in them
pub holds_own : (cells : List ℕ) → HoldsExactly cells (numbers_in cells)
holds_own cells = record {
  each = λ v c. contains_from_in v cells (from_numbers v cells (in_from_contains v _ c)).1;
  only = λ v n c. contains_from_in v (numbers_in cells) (in_numbers v cells n (in_from_contains v cells c));
}

-- ---- the front of ordered cells, and cells that are empty behind it

pub ordered_front : (home : ℕ → ℕ) (front more : List ℕ) → IsOrdered home (front ++ more) → IsOrdered home front
ordered_front home front more h =
    let same = λ (p : ℕ) (lt : p < length front). get_or_append_left front more 0 p lt in
    record {
      from_home = λ p n.
          let lt = place_within front p n in
          let e = same p lt in
          home_before home (front ++ more) (get_or front p 0) p h n e;
      greater_before = λ p q n from before.
          let lt = place_within front p n in
          let more_there = above_before home (front ++ more) (get_or front p 0) p q h n (same p lt) from before in
          omega (arith, same q (omega arith));
    }

then_empty : (front : List ℕ) (rest p : ℕ) → length front ≤ p → get_or (front ++ replicate rest 0) p 0 ≡ 0
then_empty front rest p past = get_or-append_right front (replicate rest 0) (length front) p 0 refl past ∙ empty_cell rest (p - length front)

padded_ordered : (home : ℕ → ℕ) (front : List ℕ) (rest : ℕ) → IsOrdered home front → IsOrdered home (front ++ replicate rest 0)
padded_ordered home front rest h =
    let all = front ++ replicate rest 0 in
    let same = λ (p : ℕ) (lt : p < length front). get_or_append_left front (replicate rest 0) 0 p lt in
    let within = λ (p : ℕ) (n : get_or all p 0 ≢ 0). ⊎_elim (λ lt. lt) (λ (past : length front ≤ p). absurd (n (then_empty front rest p past))) (cases_lt p (length front)) in
    record {
      from_home = λ p n.
          let lt = within p n in
          home_before home front (get_or all p 0) p h n (sym (same p lt));
      greater_before = λ p q n from before.
          let lt = within p n in
          let more_there = above_before home front (get_or all p 0) p q h n (sym (same p lt)) from before in
          omega (arith, same q (omega arith));
    }

padded_holds : (front : List ℕ) (rest : ℕ) → HoldsExactly (front ++ replicate rest 0) (numbers_in front)
padded_holds front rest =
    let all = front ++ replicate rest 0 in
    let own = holds_own front in
    record {
      each = λ v c.
          let s = place_from_contains front v (own.each v c) in
          contains_from_place all v s.0 (omega (arith, length-append front (replicate rest 0), s.1)) (get_or_append_left front (replicate rest 0) 0 s.0 s.1 ∙ s.2);
      only = λ v n c.
          let s = place_from_contains all v c in
          let lt : s.0 < length front = ⊎_elim (λ lt. lt) (λ (past : length front ≤ s.0). absurd (n (sym s.2 ∙ then_empty front rest s.0 past))) (cases_lt s.0 (length front)) in
          own.only v n (contains_from_place front v s.0 lt (sym (get_or_append_left front (replicate rest 0) 0 s.0 lt) ∙ s.2));
    }

pub front_is_layout : (home : ℕ → ℕ) (homes count : ℕ) (front : List ℕ) → HasRoom home homes count (numbers_in front) → IsOrdered home front → length front ≤ count → take (length front) (layout_of home count (numbers_in front)) ≡ front
front_is_layout home homes count front room h short =
    let rest = count - length front in
    let behind : length (replicate {A = ℕ} rest 0) ≡ rest = length-replicate rest 0 in
    let size : length (front ++ replicate rest 0) ≡ count = omega (arith, length-append front (replicate rest 0)) in
    let whole = ordered_is_layout_of home homes count (numbers_in front) (front ++ replicate rest 0) room size (padded_ordered home front rest h) (padded_holds front rest) in
    ap (take (length front)) (sym whole) ∙ take_at front (replicate rest 0) (length front) refl

-- ---- each number once

pub stands_once : (home : ℕ → ℕ) (cells : List ℕ) → IsOrdered home cells → (p q : ℕ) → p < q → get_or cells p 0 ≢ 0 → get_or cells p 0 ≢ get_or cells q 0
stands_once home cells h p q lt n e =
    let more : get_or cells q 0 < get_or cells p 0 = above_before home cells (get_or cells q 0) q p h (λ z. n (e ∙ z)) refl
    (subst (λ (v : ℕ). home v ≤ p) e (home_before home cells (get_or cells p 0) p h n refl)) lt in
    omega arith

pub distinct_in : (home : ℕ → ℕ) (cells : List ℕ) → IsOrdered home cells → AllPairs (λ a b. a ≢ b) (numbers_in cells)
distinct_in home cells h =
    let once : AllPairs (λ a b. a ≢ 0 → a ≢ b) cells = λ i j d lt within n e.
    let left = get_or_default cells i 0 d (omega arith) in
    let right = get_or_default cells j 0 d within in
    stands_once home cells h i j lt (λ z. n (sym left ∙ z)) (left ∙ e ∙ sym right) in
    let kept = AllPairs-filter (λ a b. a ≢ 0 → a ≢ b) (λ cell. not (cell == 0)) cells once in
    λ i j d lt within.
    kept i j d lt within (from_numbers _ cells (in_from_contains _ (numbers_in cells) (Contains-get_or (numbers_in cells) i d (omega arith)))).0

-- ---- the least number and the greatest

put_least : (v : ℕ) (xs : List ℕ) → ((w : ℕ) → IsIn w xs → v < w) → put_in_order v xs ≡ v ∷ xs
put_least v [] least = refl
put_least v (x ∷ xs) least = let less = least x (inl refl) in put_first v x xs (omega arith)

pub least_placed : (home : ℕ → ℕ) (count v : ℕ) (numbers : List ℕ) → All (λ w. v < w) numbers → layout_of home count (v ∷ numbers) ≡ placed v (home v) (layout_of home count numbers)
least_placed home count v numbers least = ap (laid_out home count) (put_least v (ascending numbers) (λ w i. All-contains (λ u. v < u) numbers w least (contains_from_in w numbers (from_ascending w numbers i))))

pub greatest_at_home : (home : ℕ → ℕ) (cells : List ℕ) (p : ℕ) → IsOrdered home cells → get_or cells p 0 ≢ 0 → All (λ w. w ≤ get_or cells p 0) cells → home (get_or cells p 0) ≡ p
greatest_at_home home cells p h n greatest =
    let v = get_or cells p 0 in
    let from = home_before home cells v p h n refl in
    ⊎_elim
    (λ (before : home v < p).
    let more : v < get_or cells (home v) 0 = above_before home cells v p (home v) h n refl (omega arith) before in
    let lt = place_within cells (home v) (λ z. omega arith) in
    let most = greatest (home v) 0 lt in
    absurd (omega arith))
    (λ (after : p ≤ home v). omega arith)
    (cases_lt (home v) p)
