-- What is in lists that are filtered, changed and joined.
use Rattle.std.proofs.Common.{◌≡◌, zero, suc, ◌⊎◌, ⊎_elim, inl, inr, Bool, true, false, List, [], ◌∷◌, get_or, map, refl, sym, ap, ◌∙◌, subst, arith}
use Rattle.store_spec.proofs.Common.{All, Contains, Contains-append_cases, Contains-append_left, Contains-append_right, Contains-get_or, cases_Bool, cond-false, cond-true, filter, flat_map, get_or-map, length-map}

-- what holds of each member holds of all
pub all_members : {X : Type 0} (P : X → Type 0) (xs : List X) → ((x : X) → Contains xs x → P x) → All P xs
all_members P xs each k d within = each (get_or xs k d) (Contains-get_or xs k d within)

pub first_in : {X : Type 0} (x : X) (xs : List X) → Contains (x ∷ xs) x
first_in x xs = (0, omega arith, refl)

pub behind : {X : Type 0} (y x : X) (xs : List X) → Contains xs x → Contains (y ∷ xs) x
behind y x xs c = (suc c.0, omega (arith, c.1), c.2)

pub not_in_none : {X : Type 0} {G : Type 0} (x : X) → Contains [] x → G
not_in_none x c = absurd (omega (arith, c.1))

pub first_or_later : {X : Type 0} (y x : X) (xs : List X) → Contains (y ∷ xs) x → (y ≡ x) ⊎ Contains xs x
first_or_later y x xs (zero, lt, e) = inl e
first_or_later y x xs (suc k, lt, e) = inr (k, omega arith, e)

-- ---- changed

pub contains-map : {X Y : Type 0} (f : X → Y) (xs : List X) (x : X) → Contains xs x → Contains (map f xs) (f x)
contains-map f xs x c = (c.0, omega (arith, c.1, length-map xs f), get_or-map f xs c.0 x (f x) c.1 ∙ ap f c.2)

-- what is in a changed list comes from a member
pub from_map : {X Y : Type 0} (f : X → Y) (xs : List X) (y : Y) → Contains (map f xs) y → (x : X) × Contains xs x × (f x ≡ y)
from_map f [] y c = not_in_none y c
from_map f (x ∷ xs) y (zero, lt, e) = (x, first_in x xs, e)
from_map f (x ∷ xs) y (suc k, lt, e) =
    let rest = from_map f xs y (k, omega arith, e) in
    (rest.0, behind x rest.0 xs rest.1, rest.2)

-- ---- filtered

pub contains-filter : {X : Type 0} (p : X → Bool) (xs : List X) (x : X) → Contains xs x → p x ≡ true → Contains (filter p xs) x
contains-filter p [] x c passes = not_in_none x c
contains-filter {X} p (y ∷ xs) x (zero, lt, e) passes =
    let test : p y ≡ true = ap p e ∙ passes in
    subst (λ (l : List X). Contains l x) (sym (cond-true (p y) (y ∷ filter p xs) (filter p xs) test)) (0, omega arith, e)
contains-filter {X} p (y ∷ xs) x (suc k, lt, e) passes =
    let rest = contains-filter p xs x (k, omega arith, e) passes in
    ⊎_elim
    (λ (test : p y ≡ true). subst (λ (l : List X). Contains l x) (sym (cond-true (p y) (y ∷ filter p xs) (filter p xs) test)) (behind y x (filter p xs) rest))
    (λ (test : p y ≡ false). subst (λ (l : List X). Contains l x) (sym (cond-false (p y) (y ∷ filter p xs) (filter p xs) test)) rest)
    (cases_Bool (p y))

pub from_filter : {X : Type 0} (p : X → Bool) (xs : List X) (x : X) → Contains (filter p xs) x → Contains xs x × (p x ≡ true)
from_filter p [] x c = not_in_none x c
from_filter {X} p (y ∷ xs) x c = ⊎_elim
    (λ (test : p y ≡ true). ⊎_elim
    (λ (here : y ≡ x). (subst (Contains (y ∷ xs)) here (first_in y xs), ap p (sym here) ∙ test))
    (λ later. let rest = from_filter p xs x later in (behind y x xs rest.0, rest.1))
    (first_or_later y x (filter p xs) (subst (λ (l : List X). Contains l x) (cond-true (p y) (y ∷ filter p xs) (filter p xs) test) c)))
    (λ (test : p y ≡ false).
    let rest = from_filter p xs x (subst (λ (l : List X). Contains l x) (cond-false (p y) (y ∷ filter p xs) (filter p xs) test) c) in
    (behind y x xs rest.0, rest.1))
    (cases_Bool (p y))

-- what is kept of a list and changed is in the whole list changed
pub from_kept : {X Y : Type 0} (p : X → Bool) (f : X → Y) (xs : List X) (y : Y) → Contains (map f (filter p xs)) y → Contains (map f xs) y
from_kept p f xs y c =
    let from = from_map f (filter p xs) y c in
    subst (Contains (map f xs)) from.2 (contains-map f xs from.0 (from_filter p xs from.0 from.1).0)

-- ---- joined

pub contains-flat_map : {X Y : Type 0} (f : X → List Y) (xs : List X) (x : X) (y : Y) → Contains xs x → Contains (f x) y → Contains (flat_map f xs) y
contains-flat_map f [] x y c there = not_in_none x c
contains-flat_map {X} {Y} f (z ∷ xs) x y (zero, lt, e) there =
    Contains-append_left (f z) (flat_map f xs) y (subst (λ (w : X). Contains (f w) y) (sym e) there)
contains-flat_map f (z ∷ xs) x y (suc k, lt, e) there =
    Contains-append_right (f z) (flat_map f xs) y (contains-flat_map f xs x y (k, omega arith, e) there)

pub from_flat_map : {X Y : Type 0} (f : X → List Y) (xs : List X) (y : Y) → Contains (flat_map f xs) y → (x : X) × Contains xs x × Contains (f x) y
from_flat_map f [] y c = not_in_none y c
from_flat_map f (x ∷ xs) y c = ⊎_elim
    (λ here. (x, first_in x xs, here))
    (λ later. let rest = from_flat_map f xs y later in (rest.0, behind x rest.0 xs rest.1, rest.2))
    (Contains-append_cases (f x) (flat_map f xs) y c)
