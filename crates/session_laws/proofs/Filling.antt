-- What distinct elements of a list leave of it, and what a filter and an image contain.
use Rattle.std.proofs.Common.{◌≡◌, ◌≢◌, ◌≤◌, zero, suc, ◌⊎◌, inl, inr, Bool, true, List, [], ◌∷◌, ◌++◌, get_or, length, map, refl, sym, subst, ◌∙◌, ap, append-nil, arith, length-append}
use Rattle.store_spec.proofs.Common.{All-append, All-contains, All-contains_itself, All-filter, AllPairs, AllPairs-cons, Contains, Contains-append_cases, Contains-get_or, Contains-permutation, IsPermutation, IsPermutation-refl, IsPermutation-sym, IsPermutation-trans, filter, filter_passes, length_permutation, nil_from_length, not}
use Rattle.std.specs.Prelude.{remove}
use Rattle.std.proofs.lemmas.List.Sorted.{IsPermutation-cons, IsPermutation-filter_both, IsPermutation-remove}
use Rattle.session_laws.proofs.Lists.{pairs_back, pairs_first}

-- ---- distinct elements

-- each element of one list is in another
abbrev pub Among : {X : Type 0} → List X → List X → Type 0
Among {X} xs ys = (x : X) → Contains xs x → Contains ys x

-- what is in a list is its first element, or stands behind it
pub first_or_behind : {X : Type 0} (x y : X) (xs : List X) → Contains (x ∷ xs) y → (x ≡ y) ⊎ Contains xs y
first_or_behind x y xs (zero, within, is) = inl is
first_or_behind x y xs (suc k, within, is) = inr (k, omega arith, is)

-- what stands behind the first element is in the list
pub behind_first : {X : Type 0} (x y : X) (xs : List X) → Contains xs y → Contains (x ∷ xs) y
behind_first x y xs at = (suc at.0, omega (arith, at.1), at.2)

-- the elements of a list and others are another list, in some order
pub record Leaves {X : Type 0} (xs ys : List X) : Type 0 where
  pub rest : List X
  pub is : IsPermutation (xs ++ rest) ys

-- distinct elements of a list leave others of it
pub leaves : {X : Type 0} (xs ys : List X) → AllPairs (λ a b. a ≢ b) xs → Among xs ys → Leaves xs ys
leaves [] ys apart among = record { rest = ys; is = IsPermutation-refl ys }
leaves {X} (x ∷ xs) ys apart among =
    let at = among x (0, omega arith, refl) in
    let others = remove ys at.0 in
    let parted : IsPermutation ys (x ∷ others) = IsPermutation-remove ys at.0 x at.1 (sym at.2) in
    let left : Among xs others = λ y in_xs. elim (first_or_behind x y others (Contains-permutation ys (x ∷ others) y parted (among y (behind_first x y xs in_xs)))) [
      | inl same ↦ absurd (apart 0 (suc in_xs.0) y (omega arith) (omega (arith, in_xs.1)) (same ∙ sym in_xs.2))
      | inr behind ↦ behind
    ] in
    let more = leaves xs others (pairs_back (λ a b. a ≢ b) (x ∷ []) xs apart) left in
    record {
      rest = more.rest;
      is = IsPermutation-trans (x ∷ (xs ++ more.rest)) (x ∷ others) ys (IsPermutation-cons x (xs ++ more.rest) others more.is) (IsPermutation-sym ys (x ∷ others) parted);
    }

-- so they are no more than the list has
pub no_more : {X : Type 0} (xs ys : List X) → AllPairs (λ a b. a ≢ b) xs → Among xs ys → length xs ≤ length ys
no_more xs ys apart among = let left = leaves xs ys apart among in omega (arith, length_permutation (xs ++ left.rest) ys left.is, length-append xs left.rest)

-- and where they are as many, they are the list in some order
pub all_of : {X : Type 0} (xs ys : List X) → AllPairs (λ a b. a ≢ b) xs → Among xs ys → length xs ≡ length ys → IsPermutation xs ys
all_of xs ys apart among same =
    let left = leaves xs ys apart among in
    let none : left.rest ≡ [] = nil_from_length left.rest (omega (arith, length_permutation (xs ++ left.rest) ys left.is, length-append xs left.rest)) in
    subst (λ (l : List _). IsPermutation l ys) (ap (λ rest. xs ++ rest) none ∙ append-nil xs) left.is

-- two lists of such as stand so to each other
pub pairs-append : {X : Type 0} (R : X → X → Type 0) (xs ys : List X) → AllPairs R xs → AllPairs R ys → ((x y : X) → Contains xs x → Contains ys y → R x y) → AllPairs R (xs ++ ys)
pairs-append R [] ys first second across = second
pairs-append R (x ∷ xs) ys first second across =
    AllPairs-cons R x (xs ++ ys)
    (All-append (R x) xs ys (pairs_first R x xs first) (λ k d within. across x (get_or ys k d) (0, omega arith, refl) (Contains-get_or ys k d within)))
    (pairs-append R xs ys (pairs_back R (x ∷ []) xs first) second (λ y z at. across y z (behind_first x y xs at)))

-- ---- images

-- what an image contains is the image of something
pub from_image : {X Y : Type 0} (f : X → Y) (xs : List X) (y : Y) → Contains (map f xs) y → (x : X) × Contains xs x × (f x ≡ y)
from_image f [] y at = absurd (omega (arith, at.1))
from_image f (x ∷ xs) y at =
    elim (first_or_behind (f x) y (map f xs) at) [
      | inl same ↦ (x, (0, omega arith, refl), same)
      | inr behind ↦ let one = from_image f xs y behind in (one.0, behind_first x one.0 xs one.1, one.2)
    ]

-- ---- filters

-- what passes is in the list
pub passed_in : {X : Type 0} (p : X → Bool) (xs : List X) → Among (filter p xs) xs
passed_in p xs x at = All-contains (Contains xs) (filter p xs) x (All-filter p (Contains xs) xs (All-contains_itself xs)) at

-- and passes
pub passes : {X : Type 0} (p : X → Bool) (xs : List X) (x : X) → Contains (filter p xs) x → p x ≡ true
passes p xs x at = All-contains (λ x. p x ≡ true) (filter p xs) x (filter_passes p xs) at

-- what is in the list and passes is left
pub left_in : {X : Type 0} (p : X → Bool) (xs : List X) (x : X) → Contains xs x → p x ≡ true → Contains (filter p xs) x
left_in p xs x at passing =
    let others = λ (x : _). not (p x) in
    elim (Contains-append_cases (filter p xs) (filter others xs) x (Contains-permutation xs (filter p xs ++ filter others xs) x (IsPermutation-filter_both p others (λ x. refl) xs) at)) [
      | inl left ↦ left
      | inr gone ↦ absurd (let no : not (p x) ≡ true = passes others xs x gone in cc (ap not passing))
    ]
