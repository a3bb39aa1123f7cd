-- Two lists hold the same numbers just when they weigh the same, however numbers are weighed. 0 weighs nothing.
use Rattle.std.proofs.Common.{◌≡◌, ◌≢◌, ◌==◌, not, ℕ, ◌<◌, ◌≤◌, ⊎_elim, List, [], ◌∷◌, refl, sym, ap, ◌∙◌, subst, arith}
use Rattle.store_spec.proofs.Common.{HoldSame, IsPermutation, IsPermutation-cons, IsPermutation-middle, IsPermutation-refl, IsPermutation-sym, IsPermutation-trans, ascending, cases_eq, cases_lt, cond-false, cond-true, eq-eqb, ne_eqb, numbers_in, put_in_order, sum_by, sum_by-IsPermutation, sum_by-cons, times}
use Rattle.layout_def.proofs.Ascending.{put_first, put_later}
use Rattle.step_core.proofs.Listings.{no_zero_in_cells, same_ascending, times_in_cells}
use Rattle.step_core.proofs.Sets.{is_one, is_one-zero}

abbrev pub WeighSame : List ℕ → List ℕ → Type 0
WeighSame xs ys = (weight : ℕ → ℕ) → weight 0 ≡ 0 → sum_by weight xs ≡ sum_by weight ys

-- the numbers in cells weigh what the cells weigh
pub numbers_weigh : (cells : List ℕ) → WeighSame cells (numbers_in cells)
numbers_weigh [] weight none = refl
numbers_weigh (cell ∷ cells) weight none =
    let rest = numbers_weigh cells weight none in
    let parts = sum_by-cons weight cell cells in
    ⊎_elim
    (λ (empty : cell ≡ 0).
    let are = ap (sum_by weight) (cond-false (not (cell == 0)) (cell ∷ numbers_in cells) (numbers_in cells) (ap not (eq-eqb cell 0 empty))) in
    let nothing = ap weight empty ∙ none in
    omega arith)
    (λ (filled : cell ≢ 0).
    let are = ap (sum_by weight) (cond-true (not (cell == 0)) (cell ∷ numbers_in cells) (numbers_in cells) (ap not (ne_eqb cell 0 filled))) in
    let both = sum_by-cons weight cell (numbers_in cells) in
    omega arith)
    (cases_eq cell 0)

pub weigh : {xs ys : List ℕ} → HoldSame xs ys → WeighSame xs ys
weigh {xs} {ys} same weight none =
    numbers_weigh xs weight none
    ∙ sym (sum_by-IsPermutation weight (numbers_in xs) (numbers_in ys) same.reordered)
    ∙ sym (numbers_weigh ys weight none)

-- ---- back, by the ascending order, which the counts fix

put-IsPermutation : (v : ℕ) (xs : List ℕ) → IsPermutation (v ∷ xs) (put_in_order v xs)
put-IsPermutation v [] = IsPermutation-refl (v ∷ [])
put-IsPermutation v (x ∷ xs) =
    let all = v ∷ x ∷ xs in
    ⊎_elim
    (λ (below : x < v). subst (IsPermutation all) (sym (put_later v x xs below))
    (IsPermutation-trans all (x ∷ v ∷ xs) (x ∷ put_in_order v xs) (IsPermutation-middle (v ∷ []) x xs) (IsPermutation-cons x (v ∷ xs) (put_in_order v xs) (put-IsPermutation v xs))))
    (λ (above : v ≤ x). subst (IsPermutation all) (sym (put_first v x xs above)) (IsPermutation-refl all))
    (cases_lt x v)

in_order-IsPermutation : (xs : List ℕ) → IsPermutation xs (ascending xs)
in_order-IsPermutation [] = IsPermutation-refl []
in_order-IsPermutation (x ∷ xs) =
    IsPermutation-trans (x ∷ xs) (x ∷ ascending xs) (ascending (x ∷ xs))
    (IsPermutation-cons x xs (ascending xs) (in_order-IsPermutation xs)) (put-IsPermutation x (ascending xs))

pub hold : {xs ys : List ℕ} → WeighSame xs ys → HoldSame xs ys
hold {xs} {ys} same =
    let counts : (v : ℕ) → times (numbers_in xs) v ≡ times (numbers_in ys) v = λ v. ⊎_elim
    (λ (zero : v ≡ 0). ap (times (numbers_in xs)) zero ∙ no_zero_in_cells xs ∙ sym (no_zero_in_cells ys) ∙ ap (times (numbers_in ys)) (sym zero))
    (λ (some : v ≢ 0). times_in_cells xs v some ∙ same (is_one v) (is_one-zero v some) ∙ sym (times_in_cells ys v some))
    (cases_eq v 0) in
    record {
      reordered = IsPermutation-trans (numbers_in xs) (ascending (numbers_in xs)) (numbers_in ys) (in_order-IsPermutation (numbers_in xs))
          (subst (λ (l : List ℕ). IsPermutation l (numbers_in ys)) (sym (same_ascending (numbers_in xs) (numbers_in ys) counts))
          (IsPermutation-sym (numbers_in ys) (ascending (numbers_in ys)) (in_order-IsPermutation (numbers_in ys))));
    }
