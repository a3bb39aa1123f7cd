-- Lists as sets of numbers: what is counted, and what becomes of it where one element is set.
use Rattle.std.proofs.Common.{◌≡◌, ◌≢◌, ◌==◌, ℕ, zero, suc, ◌+◌, ◌<◌, ◌≤◌, ⊎_elim, Some, List, [], ◌∷◌, ◌++◌, cond, length, get_or, map, set, refl, sym, ap, ◌∙◌, subst, arith}
use Rattle.store_spec.proofs.Common.{All, All-append, All-cons, All-get_or, All-head, All-nil, All-tail, AllPairs, AllPairs-cons, Contains, EachOnce, all_pairs_push, append-nil, append_assoc, cases_eq, cond-false, cond-true, count_of, eq-eqb, flat_map, get_or-le-sum_by, get_or-map, get_or-set_other, get_or-set_same, get_or_default, get_or_from_slice_get, length-map, length-set, ne_eqb, slice_get, slice_get-get_or, sum_by, sum_by-append, sum_by-cons}
use Rattle.std.proofs.lemmas.Option.{slice_get_cases}

-- ---- an element that stands in a list

pub stands_within : {X : Type 0} (xs : List X) (i : ℕ) (x : X) → slice_get xs i ≡ Some x → i < length xs
stands_within xs i x stands = ⊎_elim
    (λ (h : (y : _) × (i < length xs) × (slice_get xs i ≡ Some y) × (get_or xs i y ≡ y)). h.1)
    (λ h. absurd (let none = h.1 in cc))
    (slice_get_cases xs i).1

pub stands-map : {X Y : Type 0} (f : X → Y) (xs : List X) (i : ℕ) (x : X) → slice_get xs i ≡ Some x → slice_get (map f xs) i ≡ Some (f x)
stands-map f xs i x stands =
    let there = stands_within xs i x stands in
    slice_get-get_or (map f xs) i (f x) (omega (arith, length-map xs f))
    ∙ ap (λ y. Some y) (get_or-map f xs i x (f x) there ∙ ap f (get_or_from_slice_get xs i x x stands))

pub stands-set : {X : Type 0} (xs : List X) (i : ℕ) (x y : X) → slice_get xs i ≡ Some x → slice_get (set xs i y) i ≡ Some y
stands-set xs i x y stands =
    let there = stands_within xs i x stands in
    slice_get-get_or (set xs i y) i y (omega (arith, length-set xs i y)) ∙ ap (λ z. Some z) (get_or-set_same xs i y y there)

-- what holds of each element holds of it
pub at_place : {X : Type 0} (P : X → Type 0) (xs : List X) (i : ℕ) (x : X) → slice_get xs i ≡ Some x → All P xs → P x
at_place P xs i x stands all = subst P (get_or_from_slice_get xs i x x stands) (All-get_or P xs i x (stands_within xs i x stands) all)

pub All-from_map : {X Y : Type 0} (P : Y → Type 0) (f : X → Y) (xs : List X) → All P (map f xs) → All (λ x. P (f x)) xs
All-from_map P f xs all k d within = subst P (get_or-map f xs k d (f d) within) (all k (f d) (omega (arith, length-map xs f)))

-- ---- lists joined end to end

pub sum_by-flat_map : {X : Type 0} (weight : ℕ → ℕ) (f : X → List ℕ) (xs : List X) → sum_by weight (flat_map f xs) ≡ sum_by (λ x. sum_by weight (f x)) xs
sum_by-flat_map weight f [] = refl
sum_by-flat_map weight f (x ∷ xs) =
    sum_by-append weight (f x) (flat_map f xs)
    ∙ ap (λ n. sum_by weight (f x) + n) (sum_by-flat_map weight f xs)
    ∙ sym (sum_by-cons (λ y. sum_by weight (f y)) x xs)

pub sum_by-map : {X : Type 0} (weight : ℕ → ℕ) (f : X → ℕ) (xs : List X) → sum_by weight (map f xs) ≡ sum_by (λ x. weight (f x)) xs
sum_by-map weight f [] = refl
sum_by-map weight f (x ∷ xs) =
    sum_by-cons weight (f x) (map f xs)
    ∙ ap (λ n. weight (f x) + n) (sum_by-map weight f xs)
    ∙ sym (sum_by-cons (λ y. weight (f y)) x xs)

pub flat_map-map : {X Y : Type 0} (f : Y → List ℕ) (g : X → Y) (xs : List X) → flat_map f (map g xs) ≡ flat_map (λ x. f (g x)) xs
flat_map-map f g [] = refl
flat_map-map f g (x ∷ xs) = ap (λ ys. f (g x) ++ ys) (flat_map-map f g xs)

pub All-flat_map : {X : Type 0} (P : ℕ → Type 0) (f : X → List ℕ) (xs : List X) → All (λ x. All P (f x)) xs → All P (flat_map f xs)
All-flat_map P f [] h = All-nil P
All-flat_map {X} P f (x ∷ xs) h =
    let Q : X → Type 0 = λ y. All P (f y) in
    All-append P (f x) (flat_map f xs) (All-head Q x xs h) (All-flat_map P f xs (All-tail Q x xs h))

All-front : (P : ℕ → Type 0) (xs ys : List ℕ) → All P (xs ++ ys) → All P xs × All P ys
All-front P [] ys h = (All-nil P, h)
All-front P (x ∷ xs) ys h =
    let rest = All-front P xs ys (All-tail P x (xs ++ ys) h) in
    (All-cons P x xs (All-head P x (xs ++ ys) h) rest.0, rest.1)

pub All-from_flat_map : {X : Type 0} (P : ℕ → Type 0) (f : X → List ℕ) (xs : List X) → All P (flat_map f xs) → All (λ x. All P (f x)) xs
All-from_flat_map {X} P f [] h = All-nil (λ (y : X). All P (f y))
All-from_flat_map {X} P f (x ∷ xs) h =
    let both = All-front P (f x) (flat_map f xs) h in
    All-cons (λ (y : X). All P (f y)) x xs both.0 (All-from_flat_map P f xs both.1)

-- ---- pairs

-- elements that may stand behind any
pub AllPairs-append : {X : Type 0} (R : X → X → Type 0) (xs ys : List X) → AllPairs R xs → All (λ y. (x : X) → R x y) ys → AllPairs R (xs ++ ys)
AllPairs-append R xs [] h any = subst (AllPairs R) (sym (append-nil xs)) h
AllPairs-append {X} R xs (y ∷ ys) h any =
    let P : X → Type 0 = λ z. (x : X) → R x z in
    let first : AllPairs R (xs ++ y ∷ []) = all_pairs_push R xs y h (λ k d within. All-head P y ys any (get_or xs k d)) in
    subst (AllPairs R) (append_assoc xs (y ∷ []) ys) (AllPairs-append R (xs ++ y ∷ []) ys first (All-tail P y ys any))

-- ---- how often a number stands

-- 1 for the number and 0 for any other
abbrev pub is_one : ℕ → ℕ → ℕ
is_one v x = cond (x == v) 1 0

pub is_one-same : (v : ℕ) → is_one v v ≡ 1
is_one-same v = cond-true _ 1 0 (eq-eqb v v refl)

pub is_one-other : (v x : ℕ) → x ≢ v → is_one v x ≡ 0
is_one-other v x d = cond-false _ 1 0 (ne_eqb x v d)

pub is_one-zero : (v : ℕ) → v ≢ 0 → is_one v 0 ≡ 0
is_one-zero v some = is_one-other v 0 (λ e. some (sym e))

counted_on : (v x : ℕ) (xs : List ℕ) → count_of v (x ∷ xs) ≡ is_one v x + count_of v xs
counted_on v x xs = sum_by-cons (is_one v) x xs

pub counted : (v : ℕ) (xs : List ℕ) → Contains xs v → 1 ≤ count_of v xs
counted v [] c = absurd (omega (arith, c.1))
counted v (x ∷ xs) (zero, lt, e) = omega (arith, counted_on v x xs, ap (is_one v) e, is_one-same v)
counted v (x ∷ xs) (suc k, lt, e) = omega (arith, counted_on v x xs, counted v xs (k, omega arith, e))

pub stands_counted : (v : ℕ) (xs : List ℕ) → 1 ≤ count_of v xs → Contains xs v
stands_counted v [] some = absurd (omega arith)
stands_counted v (x ∷ xs) some = ⊎_elim
    (λ (e : x ≡ v). (0, omega arith, e))
    (λ (d : x ≢ v).
    let rest = stands_counted v xs (omega (arith, counted_on v x xs, is_one-other v x d)) in
    (suc rest.0, omega (arith, rest.1), rest.2))
    (cases_eq x v)

pub none_counted : (v : ℕ) (xs : List ℕ) → ¬ Contains xs v → count_of v xs ≡ 0
none_counted v xs none = ⊎_elim
    (λ e. e)
    (λ (d : count_of v xs ≢ 0). absurd (none (stands_counted v xs (omega arith))))
    (cases_eq (count_of v xs) 0)

pub contains-flat_map : {X : Type 0} (f : X → List ℕ) (xs : List X) (i : ℕ) (x : X) (v : ℕ) → slice_get xs i ≡ Some x → Contains (f x) v → Contains (flat_map f xs) v
contains-flat_map {X} f xs i x v stands c =
    let each : X → ℕ = λ y. count_of v (f y) in
    let is : each (get_or xs i x) ≡ each x = ap each (get_or_from_slice_get xs i x x stands) in
    stands_counted v (flat_map f xs) (omega (arith, counted v (f x) c, sum_by-flat_map (is_one v) f xs, get_or-le-sum_by each xs i x (stands_within xs i x stands)))

pub distinct_once : (xs : List ℕ) → EachOnce xs → All (λ v. v ≢ 0) xs → AllPairs (λ a b. a ≢ b) xs
distinct_once [] once some = λ i j d lt within. absurd (omega arith)
distinct_once (x ∷ xs) once some =
    let first : x ≢ 0 = All-head (λ v. v ≢ 0) x xs some in
    let apart : All (λ y. x ≢ y) xs = λ k d within e.
    let again = counted x xs (k, within, get_or_default xs k x d within ∙ sym e) in
    omega (arith, once x first, counted_on x x xs, is_one-same x) in
    AllPairs-cons (λ a b. a ≢ b) x xs apart
    (distinct_once xs (λ v n. omega (arith, once v n, counted_on v x xs)) (All-tail (λ v. v ≢ 0) x xs some))

pub once_distinct : (xs : List ℕ) → AllPairs (λ a b. a ≢ b) xs → EachOnce xs
once_distinct [] apart v some = omega arith
once_distinct (x ∷ xs) apart v some =
    let rest = once_distinct xs (λ i j d lt within. apart (suc i) (suc j) d (omega arith) (omega arith)) v some in
    ⊎_elim
    (λ (same : x ≡ v).
    let none : ¬ Contains xs v = λ c. apart 0 (suc c.0) v (omega arith) (omega (arith, c.1)) (same ∙ sym c.2) in
    omega (arith, counted_on v x xs, none_counted v xs none, ap (is_one v) same, is_one-same v))
    (λ (d : x ≢ v). omega (arith, counted_on v x xs, is_one-other v x d))
    (cases_eq x v)

-- ---- one element is set

pub contains-set : (xs : List ℕ) (i a v : ℕ) → get_or xs i 0 ≢ v → Contains xs v → Contains (set xs i a) v
contains-set xs i a v apart (k, lt, e) =
    let other : k ≢ i = λ same. apart (ap (λ j. get_or xs j 0) (sym same) ∙ get_or_default xs k 0 v lt ∙ e) in
    (k, omega (arith, length-set xs i a), get_or-set_other xs i k a v other ∙ e)
