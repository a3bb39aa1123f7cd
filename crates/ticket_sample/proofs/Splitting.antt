-- What stands before a value in a list that is split around it.
use Rattle.std.proofs.Common.{◌≡◌, ℕ, ◌<◌, ◌≤◌, zero, suc, ◌⊎◌, inl, inr, List, [], ◌∷◌, ◌++◌, Bool, true, false, cond, length, get_or, refl, sym, ap, ◌∙◌, arith}
use Rattle.store_spec.proofs.Common.{All, All-contains, All-head, All-tail, Contains, Contains-append_cases, Contains-permutation, IsPermutation, cond-false, cond-true, count_by, count_by-le-length, lt-ltb, nat_lt, nat_tests, sum_by-IsPermutation, sum_by-append, sum_by-cons, true≢false}
use Rattle.std.specs.Cmp.{IsStrictWeakOrder}

-- ---- counts

pub bool_cases : (b : Bool) → (b ≡ true) ⊎ (b ≡ false)
bool_cases true = inl refl
bool_cases false = inr refl

pub count_all : {X : Type 0} (p : X → Bool) (xs : List X) → All (λ x. p x ≡ true) xs → count_by p xs ≡ length xs
count_all p [] all = refl
count_all p (x ∷ xs) all =
    let first = cond-true {A = ℕ} (p x) 1 0 (All-head (λ x. p x ≡ true) x xs all) in
    let rest = count_all p xs (All-tail (λ x. p x ≡ true) x xs all) in
    omega (arith, first, rest, sum_by-cons (λ x. cond (p x) 1 0) x xs)

pub count_none : {X : Type 0} (p : X → Bool) (xs : List X) → All (λ x. p x ≡ false) xs → count_by p xs ≡ 0
count_none p [] all = refl
count_none p (x ∷ xs) all =
    let first = cond-false {A = ℕ} (p x) 1 0 (All-head (λ x. p x ≡ false) x xs all) in
    let rest = count_none p xs (All-tail (λ x. p x ≡ false) x xs all) in
    omega (arith, first, rest, sum_by-cons (λ x. cond (p x) 1 0) x xs)

-- one of them does not pass
pub count_but_one : {X : Type 0} (p : X → Bool) (xs : List X) (x : X) → Contains xs x → p x ≡ false → count_by p xs < length xs
count_but_one p [] x c not = absurd (omega (arith, c.1))
count_but_one p (y ∷ xs) x (zero, lt, is) not =
    let first = cond-false {A = ℕ} (p y) 1 0 (ap p is ∙ not) in
    omega (arith, first, count_by-le-length p xs, sum_by-cons (λ x. cond (p x) 1 0) y xs)
count_but_one p (y ∷ xs) x (suc i, lt, is) not =
    let rest = count_but_one p xs x (i, omega arith, is) not in
    let one : cond (p y) 1 0 ≤ 1 = elim (p y) as (λ b. cond b 1 0 ≤ 1) [ true ↦ omega arith | false ↦ omega arith ] in
    omega (arith, rest, one, sum_by-cons (λ x. cond (p x) 1 0) y xs)

-- ---- a list split around a value

module _ {X : Type 0} (lt : X → X → Bool) (o : IsStrictWeakOrder lt) where
  -- nothing is before itself
  pub irreflexive : (x : X) → lt x x ≡ false
  irreflexive x = elim (bool_cases (lt x x)) [ inl is ↦ o.one_way x x is | inr isnt ↦ isnt ]

  not_below : (x y t : X) → lt y t ≡ true → lt x t ≡ false → lt y x ≡ true
  not_below x y t below not =
      elim (bool_cases (lt y x)) [ inl is ↦ is | inr isnt ↦ absurd (true≢false (sym below ∙ o.chain y x t isnt not)) ]

  -- Those of the front are before it, and none of those behind it is. Then a value of the list is before it exactly where
  -- fewer values than the front has are before that one.
  pub split_counts : (xs front back : List X) (t x : X) → IsPermutation xs (front ++ t ∷ back) → All (λ y. lt y t ≡ true) front → All (λ y. lt y t ≡ false) back → Contains xs x
      → lt x t ≡ nat_lt (count_by (λ y. lt y x) xs) (length front)
  split_counts xs front back t x same before behind c =
      let test = λ (y : X). lt y x in
      let all = sum_by-IsPermutation (λ y. cond (test y) 1 0) xs (front ++ t ∷ back) same in
      let parts = sum_by-append (λ y. cond (test y) 1 0) front (t ∷ back) in
      elim (bool_cases (lt x t)) [
        | inl is ↦
            let none_behind : All (λ y. test y ≡ false) (t ∷ back) = λ k d within. from_behind is k d within in
            let none = count_none test (t ∷ back) none_behind in
            let in_front : Contains front x = elim (Contains-append_cases front (t ∷ back) x (Contains-permutation xs (front ++ t ∷ back) x same c)) [
              | inl there ↦ there
              | inr other ↦ absurd (true≢false (sym is ∙ All-contains (λ y. lt y t ≡ false) (t ∷ back) x at_or_behind other))
            ] in
            let few = count_but_one test front x in_front (irreflexive x) in
            let less : count_by test xs < length front = omega (arith, all, parts, none, few) in
            is ∙ sym (lt-ltb (count_by test xs) (length front) less)
        | inr isnt ↦
            let whole = count_all test front (λ k d within. not_below x (get_or front k d) t (before k d within) isnt) in
            let many : length front ≤ count_by test xs = omega (arith, all, parts, whole) in
            isnt ∙ (grind (arith, nat_tests, many))
      ]
    where
      at_or_behind : All (λ y. lt y t ≡ false) (t ∷ back)
      at_or_behind zero d within = irreflexive t
      at_or_behind (suc k) d within = behind k d (omega arith)

      from_behind : lt x t ≡ true → (k : ℕ) (d : X) → k < length (t ∷ back) → lt (get_or (t ∷ back) k d) x ≡ false
      from_behind is k d within = o.chain (get_or (t ∷ back) k d) t x (at_or_behind k d within) (o.one_way x t is)
