-- Ordered cells with the same numbers are equal.
use Rattle.std.proofs.Common.{◌≡◌, ◌≢◌, ℕ, zero, suc, ◌+◌, ◌<◌, ◌≤◌, ⊎_elim, List, [], ◌∷◌, length, get_or, sym, refl, ap, ◌∙◌, subst, arith}
use Rattle.store_spec.proofs.Common.{Contains, IsOrdered, cases_eq, cases_lt, cases_order, ext_get_or, get_or_default, get_or_past}

-- ---- a number that stands in a cell

pub place_from_contains : (cells : List ℕ) (v : ℕ) → Contains cells v → (p : ℕ) × (p < length cells) × (get_or cells p 0 ≡ v)
place_from_contains cells v c = (c.0, c.1, get_or_default cells c.0 0 v c.1 ∙ c.2)

pub contains_from_place : (cells : List ℕ) (v p : ℕ) → p < length cells → get_or cells p 0 ≡ v → Contains cells v
contains_from_place cells v p lt e = (p, lt, get_or_default cells p v 0 lt ∙ e)

pub place_within : (cells : List ℕ) (p : ℕ) → get_or cells p 0 ≢ 0 → p < length cells
place_within cells p n = ⊎_elim (λ lt. lt) (λ (past : length cells ≤ p). absurd (n (get_or_past cells p 0 past))) (cases_lt p (length cells))

-- no cell holds more
abbrev total : List ℕ → ℕ
total [] = 0
total (x ∷ xs) = x + total xs

le_total : (cells : List ℕ) (p : ℕ) → get_or cells p 0 ≤ total cells
le_total [] p = omega arith
le_total (x ∷ xs) zero = omega arith
le_total (x ∷ xs) (suc p) = let rest = le_total xs p in omega arith

-- ---- the same place in both

-- each number greater than v stands in the second where it stands in the first
abbrev AgreeAbove : ℕ → List ℕ → List ℕ → Type 0
AgreeAbove v a b = (w p : ℕ) → v < w → get_or a p 0 ≡ w → get_or b p 0 ≡ w

pub home_before : (home : ℕ → ℕ) (cells : List ℕ) (v p : ℕ) → IsOrdered home cells → v ≢ 0 → get_or cells p 0 ≡ v → home v ≤ p
home_before home cells v p h n e = subst (λ (w : ℕ). home w ≤ p) e (h.from_home p (λ z. n (sym e ∙ z)))

pub above_before : (home : ℕ → ℕ) (cells : List ℕ) (v p q : ℕ) → IsOrdered home cells → v ≢ 0 → get_or cells p 0 ≡ v → home v ≤ q → q < p → v < get_or cells q 0
above_before home cells v p q h n e from before =
    subst (λ (w : ℕ). w < get_or cells q 0) e
    (h.greater_before p q (λ z. n (sym e ∙ z)) (subst (λ (w : ℕ). home w ≤ q) (sym e) from) before)

one_way : (home : ℕ → ℕ) (a b : List ℕ) (v p q : ℕ) → IsOrdered home a → IsOrdered home b → v ≢ 0 → AgreeAbove v a b → AgreeAbove v b a → get_or a p 0 ≡ v → get_or b q 0 ≡ v → get_or b p 0 ≡ v
one_way home a b v p q ha hb n ab ba ea eb = ⊎_elim
    (λ (same : p ≡ q). ap (λ k. get_or b k 0) same ∙ eb)
    (λ s. ⊎_elim
    (λ (early : p < q).
    let more : v < get_or b p 0 = above_before home b v q p hb n eb (home_before home a v p ha n ea) early in
    let there : get_or a p 0 ≡ get_or b p 0 = ba _ p more refl in
    absurd (omega arith))
    (λ (late : q < p).
    let more : v < get_or a q 0 = above_before home a v p q ha n ea (home_before home b v q hb n eb) late in
    let there : get_or b q 0 ≡ get_or a q 0 = ab _ q more refl in
    absurd (omega arith))
    s)
    (cases_order p q)

-- the numbers of the first stand in the second too
abbrev AllStandIn : List ℕ → List ℕ → Type 0
AllStandIn a b = (v : ℕ) → v ≢ 0 → Contains a v → Contains b v

abbrev SamePlaces : ℕ → List ℕ → List ℕ → Type 0
SamePlaces v a b = (p : ℕ) → get_or a p 0 ≡ v → get_or b p 0 ≡ v

-- from the greatest number down
same_places : (home : ℕ → ℕ) (a b : List ℕ) (ha : IsOrdered home a) (hb : IsOrdered home b) (ab : AllStandIn a b) (ba : AllStandIn b a) (left v : ℕ) → total a + total b < v + left → v ≢ 0 → SamePlaces v a b × SamePlaces v b a
same_places home a b ha hb ab ba zero v few n =
    (λ p e. absurd (omega (arith, le_total a p)), λ p e. absurd (omega (arith, le_total b p)))
same_places home a b ha hb ab ba (suc left) v few n =
    let above_ab : AgreeAbove v a b = λ w p lt e. (same_places home a b ha hb ab ba left w (omega arith) (omega arith)).0 p e in
    let above_ba : AgreeAbove v b a = λ w p lt e. (same_places home a b ha hb ab ba left w (omega arith) (omega arith)).1 p e in (
      λ p e.
          let other = place_from_contains b v (ab v n (contains_from_place a v p (place_within a p (λ z. n (sym e ∙ z))) e)) in
          one_way home a b v p other.0 ha hb n above_ab above_ba e other.2,
      λ p e.
          let other = place_from_contains a v (ba v n (contains_from_place b v p (place_within b p (λ z. n (sym e ∙ z))) e)) in
          one_way home b a v p other.0 hb ha n above_ba above_ab e other.2,
    )

same_cell : (home : ℕ → ℕ) (a b : List ℕ) → IsOrdered home a → IsOrdered home b → AllStandIn a b → AllStandIn b a → (p : ℕ) → get_or a p 0 ≡ get_or b p 0
same_cell home a b ha hb ab ba p =
    let both = λ (v : ℕ) (n : v ≢ 0). same_places home a b ha hb ab ba (total a + total b + 1) v (omega arith) n in
    ⊎_elim
    (λ (empty : get_or a p 0 ≡ 0). ⊎_elim
    (λ (also : get_or b p 0 ≡ 0). empty ∙ sym also)
    (λ (n : get_or b p 0 ≢ 0). (both (get_or b p 0) n).1 p refl)
    (cases_eq (get_or b p 0) 0))
    (λ (n : get_or a p 0 ≢ 0). sym ((both (get_or a p 0) n).0 p refl))
    (cases_eq (get_or a p 0) 0)

pub same_cells : (home : ℕ → ℕ) (a b : List ℕ) → IsOrdered home a → IsOrdered home b → length a ≡ length b → AllStandIn a b → AllStandIn b a → a ≡ b
same_cells home a b ha hb len ab ba = ext_get_or 0 a b len (λ p lt. same_cell home a b ha hb ab ba p)
