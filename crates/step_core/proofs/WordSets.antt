-- Lists and sums after one element is set.
use Rattle.std.proofs.Common.{◌≡◌, ◌≢◌, ℕ, zero, suc, ◌+◌, ◌<◌, ◌≤◌, ⊎_elim, List, [], ◌∷◌, length, get_or, set, replicate, sym, refl, ap, ◌∙◌, subst, arith}
use Rattle.store_spec.proofs.Common.{All, cases_eq, get_or-le-sum_by, get_or-set_other, get_or-set_same, length-set, sum_by, sum_by-cons}

-- what holds of the element that is set, and of each other one, holds of all
pub all_after_set : {X : Type 0} (P : X → Type 0) (xs : List X) (i : ℕ) (y : X) → P y → ((k : ℕ) (d : X) → k < length xs → k ≢ i → P (get_or xs k d)) → All P (set xs i y)
all_after_set P xs i y new old = λ k d lt.
    let within : k < length xs = omega (arith, length-set xs i y) in
    ⊎_elim
    (λ (e : k ≡ i). subst P (sym (ap (λ j. get_or (set xs i y) j d) e ∙ get_or-set_same xs i y d (omega arith))) new)
    (λ (n : k ≢ i). subst P (sym (get_or-set_other xs i k y d n)) (old k d within n))
    (cases_eq k i)

-- two elements within a sum
pub two_within : {X : Type 0} (f : X → ℕ) (xs : List X) (i k : ℕ) (d : X) → i < length xs → k < length xs → i ≢ k → f (get_or xs i d) + f (get_or xs k d) ≤ sum_by f xs
two_within f [] i k d hi hk n = absurd (omega arith)
two_within f (x ∷ xs) zero zero d hi hk n = absurd (n refl)
two_within f (x ∷ xs) zero (suc k) d hi hk n = omega (arith, sum_by-cons f x xs, get_or-le-sum_by f xs k d (omega arith))
two_within f (x ∷ xs) (suc i) zero d hi hk n = omega (arith, sum_by-cons f x xs, get_or-le-sum_by f xs i d (omega arith))
two_within f (x ∷ xs) (suc i) (suc k) d hi hk n =
    let rest = two_within f xs i k d (omega arith) (omega arith) (λ e. n (ap suc e)) in
    omega (arith, sum_by-cons f x xs)

-- a sum of nothing but 0
pub sum_none : {X : Type 0} (f : X → ℕ) (xs : List X) → All (λ x. f x ≡ 0) xs → sum_by f xs ≡ 0
sum_none f [] h = refl
sum_none f (x ∷ xs) h =
    let here : f x ≡ 0 = h 0 x (omega arith) in
    let rest = sum_none f xs (λ k d lt. h (suc k) d (omega arith)) in
    omega (arith, sum_by-cons f x xs)

-- empty cells are empty
pub zero_cell : (count place : ℕ) → get_or (replicate {A = ℕ} count 0) place 0 ≡ 0
zero_cell zero place = refl
zero_cell (suc count) zero = refl
zero_cell (suc count) (suc place) = zero_cell count place

-- where each term is the same, the sums are
pub sum_same : {X : Type 0} (f g : X → ℕ) (xs : List X) → All (λ x. f x ≡ g x) xs → sum_by f xs ≡ sum_by g xs
sum_same f g [] h = refl
sum_same f g (x ∷ xs) h =
    let here : f x ≡ g x = h 0 x (omega arith) in
    let rest = sum_same f g xs (λ k d lt. h (suc k) d (omega arith)) in
    omega (arith, sum_by-cons f x xs, sum_by-cons g x xs)
