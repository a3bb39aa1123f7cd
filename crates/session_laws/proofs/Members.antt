-- Whether a number is in a list.
use Rattle.std.proofs.Common.{◌≡◌, ◌≢◌, ℕ, ◌==◌, Bool, true, false, List, ◌∷◌, get_or, refl, sym, subst, ◌∙◌, arith}
use Rattle.store_spec.proofs.Common.{Contains, eq-eqb, eqb-true, false≢true, list_any, ne_eqb}
use Rattle.std.proofs.lemmas.List.Folds.{Any-from_list_any, list_any-from_Any}

-- the test
abbrev pub has : List ℕ → ℕ → Bool
has xs x = list_any (λ y. y == x) xs

-- what it finds is in the list
pub Contains-has : (xs : List ℕ) (x : ℕ) → has xs x ≡ true → Contains xs x
Contains-has xs x is =
    let any = Any-from_list_any (λ y. y == x) xs is in
    let same : any.1 ≡ x = eqb-true any.1 x any.4 in
    (any.0, any.2, subst (λ (y : ℕ). get_or xs any.0 y ≡ y) same any.3)

-- what is in the list it finds
pub has-Contains : (xs : List ℕ) (x : ℕ) → Contains xs x → has xs x ≡ true
has-Contains xs x at = list_any-from_Any (λ y. y == x) xs (at.0, x, at.1, at.2, eq-eqb x x refl)

-- what it does not find is not in the list
pub has-none : (xs : List ℕ) (x : ℕ) → has xs x ≡ false → ¬ Contains xs x
has-none xs x none at = false≢true (sym none ∙ has-Contains xs x at)

-- it finds the first number
pub has-first : (xs : List ℕ) (n x : ℕ) → n ≡ x → has (n ∷ xs) x ≡ true
has-first xs n x same = has-Contains (n ∷ xs) x (0, omega arith, same)

-- it passes another one
pub has-other : (xs : List ℕ) (n x : ℕ) → n ≢ x → has (n ∷ xs) x ≡ has xs x
has-other xs n x other = rw (ne_eqb n x other) refl
