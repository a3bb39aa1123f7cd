-- The numbers of a list in ascending order: whichever way the list is listed, and with the list's own numbers.
use Rattle.std.proofs.Common.{◌≡◌, if◌then◌else◌, ◌==◌, ◌≢◌, ℕ, zero, suc, ◌<◌, ◌≤◌, ◌⊎◌, inl, inr, ⊎_elim, List, [], ◌∷◌, length, get_or, set, sym, refl, ap, ◌∙◌, subst, arith}
use Rattle.store_spec.proofs.Common.{AllPairs, AllPairs-from_IsDistinct, Contains, Decides-eqb, IsDistinct-IsPermutation, IsDistinct-from_AllPairs, IsNonDecreasing, IsPermutation, ascending, cases_eq, cases_lt, cond-false, cond-true, eq-eqb, get_or-set_other, get_or-set_same, le-leb, length-set, lt-leb, nat_eq, nat_tests, ne_eqb, put_in_order, swap}
use Rattle.std.proofs.lemmas.List.Sorted.{IsPermutation-keeps}
use Rattle.std.proofs.lemmas.List.Edits.{swap_is}

pub put_first : (v x : ℕ) (xs : List ℕ) → v ≤ x → put_in_order v (x ∷ xs) ≡ v ∷ x ∷ xs
put_first v x xs h = cond-true _ _ _ (le-leb v x h)

pub put_later : (v x : ℕ) (xs : List ℕ) → x < v → put_in_order v (x ∷ xs) ≡ x ∷ put_in_order v xs
put_later v x xs h = cond-false _ _ _ (lt-leb v x h)

-- ---- the order of the list does not matter

put_twice_tie : (v w : ℕ) (xs : List ℕ) → v ≡ w → put_in_order v (put_in_order w xs) ≡ put_in_order w (put_in_order v xs)
put_twice_tie v w xs e = ap (λ n. put_in_order n (put_in_order w xs)) e ∙ ap (λ n. put_in_order w (put_in_order n xs)) (sym e)

put_twice_up : (v w : ℕ) (xs : List ℕ) → v < w → put_in_order v (put_in_order w xs) ≡ put_in_order w (put_in_order v xs)
put_twice_up v w [] h = put_first v w [] (omega arith) ∙ sym (put_later w v [] h)
put_twice_up v w (x ∷ xs) h = ⊎_elim
    (λ (below : x < v).
    ap (put_in_order v) (put_later w x xs (omega arith))
    ∙ put_later v x (put_in_order w xs) below
    ∙ ap (λ ys. x ∷ ys) (put_twice_up v w xs h)
    ∙ sym (put_later w x (put_in_order v xs) (omega arith))
    ∙ ap (put_in_order w) (sym (put_later v x xs below)))
    (λ (above : v ≤ x).
    let right : put_in_order w (put_in_order v (x ∷ xs)) ≡ v ∷ put_in_order w (x ∷ xs) =
    ap (put_in_order w) (put_first v x xs above) ∙ put_later w v (x ∷ xs) h in
    ⊎_elim
    (λ (between : x < w).
    ap (put_in_order v) (put_later w x xs between)
    ∙ put_first v x (put_in_order w xs) above
    ∙ ap (λ ys. v ∷ ys) (sym (put_later w x xs between))
    ∙ sym right)
    (λ (last : w ≤ x).
    ap (put_in_order v) (put_first w x xs last)
    ∙ put_first v w (x ∷ xs) (omega arith)
    ∙ ap (λ ys. v ∷ ys) (sym (put_first w x xs last))
    ∙ sym right)
    (cases_lt x w))
    (cases_lt x v)

put_twice : (v w : ℕ) (xs : List ℕ) → put_in_order v (put_in_order w xs) ≡ put_in_order w (put_in_order v xs)
put_twice v w xs = ⊎_elim
    (λ up. put_twice_up v w xs up)
    (λ (h : w ≤ v). ⊎_elim (λ down. sym (put_twice_up w v xs down)) (λ (k : v ≤ w). put_twice_tie v w xs (omega arith)) (cases_lt w v))
    (cases_lt v w)

-- the list without the first such number
abbrev without_first : ℕ → List ℕ → List ℕ
without_first v [] = []
without_first v (x ∷ xs) = if x == v then xs else x ∷ without_first v xs

without_put : (v : ℕ) (xs : List ℕ) → without_first v (put_in_order v xs) ≡ xs
without_put v [] = cond-true _ _ _ (eq-eqb v v refl)
without_put v (x ∷ xs) = ⊎_elim
    (λ (below : x < v).
    ap (without_first v) (put_later v x xs below)
    ∙ cond-false _ _ _ (ne_eqb x v (λ e. omega arith))
    ∙ ap (λ ys. x ∷ ys) (without_put v xs))
    (λ (above : v ≤ x).
    ap (without_first v) (put_first v x xs above)
    ∙ cond-true _ _ _ (eq-eqb v v refl))
    (cases_lt x v)

put_cancel : (v : ℕ) (xs ys : List ℕ) → put_in_order v xs ≡ put_in_order v ys → xs ≡ ys
put_cancel v xs ys e = sym (without_put v xs) ∙ ap (without_first v) e ∙ without_put v ys

-- a write exchanges a number of the list for another
ascending_set : (xs : List ℕ) (i a : ℕ) → i < length xs → put_in_order (get_or xs i 0) (ascending (set xs i a)) ≡ put_in_order a (ascending xs)
ascending_set [] i a h = absurd (omega arith)
ascending_set (x ∷ xs) zero a h = put_twice x a (ascending xs)
ascending_set (x ∷ xs) (suc i) a h =
    put_twice (get_or xs i 0) x (ascending (set xs i a))
    ∙ ap (put_in_order x) (ascending_set xs i a (omega arith))
    ∙ put_twice x a (ascending xs)

ascending_swap : (xs : List ℕ) (i j : ℕ) → i < length xs → j < length xs → ascending (swap xs i j) ≡ ascending xs
ascending_swap xs i j hi hj =
    let a = get_or xs i 0 in
    let b = get_or xs j 0 in
    let once = set xs i b in
    let still : get_or once j 0 ≡ b = ⊎_elim
    (λ (e : j ≡ i). ap (λ k. get_or once k 0) e ∙ get_or-set_same xs i b 0 hi)
    (λ (n : j ≢ i). get_or-set_other xs i j b 0 n)
    (cases_eq j i) in
    let twice : put_in_order b (ascending (set once j a)) ≡ put_in_order b (ascending xs) =
    ap (λ v. put_in_order v (ascending (set once j a))) (sym still)
    ∙ ascending_set once j a (omega (arith, length-set xs i b))
    ∙ ascending_set xs i b hi in
    ap ascending (sym (swap_is xs i j 0 hi hj)) ∙ put_cancel b _ _ twice

pub ascending-IsPermutation : (xs ys : List ℕ) → IsPermutation xs ys → ascending ys ≡ ascending xs
ascending-IsPermutation xs ys p =
    IsPermutation-keeps xs (λ l. ascending l ≡ ascending xs) refl (λ l i j hi hj e. ascending_swap l i j hi hj ∙ e) ys p

-- a list that rises already is in order
pub ascending_rising : (xs : List ℕ) → IsNonDecreasing xs → ascending xs ≡ xs
ascending_rising [] h = refl
ascending_rising (x ∷ []) h = refl
ascending_rising (x ∷ y ∷ ys) h =
    ap (put_in_order x) (ascending_rising (y ∷ ys) (λ i j d le lt. h (suc i) (suc j) d (omega arith) (omega arith)))
    ∙ put_first x y ys (h 0 1 0 (omega arith) (omega arith))

-- ---- the numbers are those of the list

-- the number is in the list
abbrev pub IsIn : ℕ → List ℕ → Type 0
IsIn v [] = ⊥
IsIn v (x ∷ xs) = (x ≡ v) ⊎ IsIn v xs

pub in_from_contains : (v : ℕ) (xs : List ℕ) → Contains xs v → IsIn v xs
in_from_contains v [] c = absurd (omega (arith, c.1))
in_from_contains v (x ∷ xs) (zero, lt, e) = inl e
in_from_contains v (x ∷ xs) (suc k, lt, e) = inr (in_from_contains v xs (k, omega arith, e))

pub contains_from_in : (v : ℕ) (xs : List ℕ) → IsIn v xs → Contains xs v
contains_from_in v [] h = absurd h
contains_from_in v (x ∷ xs) (inl e) = (0, omega arith, e)
contains_from_in v (x ∷ xs) (inr h) = let c = contains_from_in v xs h in (suc c.0, omega (arith, c.1), c.2)

in_put : (v w : ℕ) (xs : List ℕ) → (w ≡ v) ⊎ IsIn v xs → IsIn v (put_in_order w xs)
in_put v w [] h = h
in_put v w (x ∷ xs) h = ⊎_elim
    (λ (below : x < w).
    let P = λ (ys : List ℕ). IsIn v ys in
    subst P (sym (put_later w x xs below))
    (⊎_elim (λ e. inr (in_put v w xs (inl e))) (λ k. ⊎_elim (λ e. inl e) (λ m. inr (in_put v w xs (inr m))) k) h))
    (λ (above : w ≤ x). let P = λ (ys : List ℕ). IsIn v ys in subst P (sym (put_first w x xs above)) h)
    (cases_lt x w)

from_put : (v w : ℕ) (xs : List ℕ) → IsIn v (put_in_order w xs) → (w ≡ v) ⊎ IsIn v xs
from_put v w [] h = h
from_put v w (x ∷ xs) h = ⊎_elim
    (λ (below : x < w).
    let P = λ (ys : List ℕ). IsIn v ys in
    let k : IsIn v (x ∷ put_in_order w xs) = subst P (put_later w x xs below) h in
    ⊎_elim (λ e. inr (inl e)) (λ m. ⊎_elim (λ e. inl e) (λ n. inr (inr n)) (from_put v w xs m)) k)
    (λ (above : w ≤ x). let P = λ (ys : List ℕ). IsIn v ys in subst P (put_first w x xs above) h)
    (cases_lt x w)

pub in_ascending : (v : ℕ) (xs : List ℕ) → IsIn v xs → IsIn v (ascending xs)
in_ascending v [] h = absurd h
in_ascending v (x ∷ xs) (inl e) = in_put v x (ascending xs) (inl e)
in_ascending v (x ∷ xs) (inr h) = in_put v x (ascending xs) (inr (in_ascending v xs h))

pub from_ascending : (v : ℕ) (xs : List ℕ) → IsIn v (ascending xs) → IsIn v xs
from_ascending v [] h = absurd h
from_ascending v (x ∷ xs) h = ⊎_elim inl (λ k. inr (from_ascending v xs k)) (from_put v x (ascending xs) h)

length_put : (v : ℕ) (xs : List ℕ) → length (put_in_order v xs) ≡ suc (length xs)
length_put v [] = refl
length_put v (x ∷ xs) = ⊎_elim
    (λ (below : x < v). ap length (put_later v x xs below) ∙ ap suc (length_put v xs))
    (λ (above : v ≤ x). ap length (put_first v x xs above))
    (cases_lt x v)

pub length-ascending : (xs : List ℕ) → length (ascending xs) ≡ length xs
length-ascending [] = refl
length-ascending (x ∷ xs) = length_put x (ascending xs) ∙ ap suc (length-ascending xs)

-- ---- distinct numbers rise strictly

-- each number is below all later ones
abbrev pub IsRising : List ℕ → Type 0
IsRising [] = Unit {0}
IsRising (x ∷ xs) = ((y : ℕ) → IsIn y xs → x < y) × IsRising xs

put_rising : (v : ℕ) (xs : List ℕ) → (IsIn v xs → ⊥) → IsRising xs → IsRising (put_in_order v xs)
put_rising v [] new h = (λ y i. absurd i, tt)
put_rising v (x ∷ xs) new h = ⊎_elim
    (λ (below : x < v).
    let P = λ (ys : List ℕ). IsRising ys in
    subst P (sym (put_later v x xs below))
    (λ y i. ⊎_elim (λ (e : v ≡ y). omega arith) (λ m. h.0 y m) (from_put y v xs i), put_rising v xs (λ i. new (inr i)) h.1))
    (λ (above : v ≤ x).
    let P = λ (ys : List ℕ). IsRising ys in
    let apart : x ≢ v = λ e. new (inl e) in
    subst P (sym (put_first v x xs above))
    (λ y i. ⊎_elim (λ (e : x ≡ y). omega arith) (λ m. let later : x < y = h.0 y m in omega arith) i, h))
    (cases_lt x v)

pub ascending_distinct : (xs : List ℕ) → AllPairs (λ a b. a ≢ b) xs → IsRising (ascending xs)
ascending_distinct [] h = tt
ascending_distinct (x ∷ xs) h =
    let apart : IsIn x xs → ⊥ = λ i. let c = contains_from_in x xs i in h 0 (suc c.0) x (omega arith) (omega (arith, c.1)) (sym c.2) in
    put_rising x (ascending xs) (λ i. apart (from_ascending x xs i))
    (ascending_distinct xs (λ i j d lt in_range. h (suc i) (suc j) d (omega arith) (omega arith)))

-- distinct numbers are so in any order
pub distinct-IsPermutation : (xs ys : List ℕ) → IsPermutation xs ys → AllPairs (λ a b. a ≢ b) xs → AllPairs (λ a b. a ≢ b) ys
distinct-IsPermutation xs ys p h =
    AllPairs-from_IsDistinct Decides-eqb ys (IsDistinct-IsPermutation nat_eq (λ x y. grind (arith, nat_tests)) xs ys p (IsDistinct-from_AllPairs Decides-eqb xs h))
