-- What holds of each element and of each two, one after another.
use Rattle.std.proofs.Common.{List, [], ◌∷◌, arith, suc, ◌≡◌, ◌+◌, ◌++◌, length, get_or, subst, refl, length-append, map, ap, ◌∙◌}
use Rattle.store_spec.proofs.Common.{All, All-cons, All-from_recursion, All-nil, All-weaker, AllByRecursion, AllPairs, AllPairs-cons, Contains, get_or-append-add, get_or-map, get_or_append_left, length-map}

-- each element stands so to each later one
abbrev pub Pairwise : {X : Type 0} → (X → X → Type 0) → List X → Type 0
Pairwise R [] = Unit {0}
Pairwise R (x ∷ xs) = AllByRecursion (R x) xs × Pairwise R xs

-- so it stands for each two places
pub pairs : {X : Type 0} (R : X → X → Type 0) (xs : List X) → Pairwise R xs → AllPairs R xs
pairs R [] each = λ i j d less within. absurd (omega arith)
pairs R (x ∷ xs) each = AllPairs-cons R x xs (All-from_recursion (R x) xs each.0) (pairs R xs each.1)

-- the same of the lists in a list
abbrev pub PairwiseEach : {X : Type 0} → (X → X → Type 0) → List (List X) → Type 0
PairwiseEach R [] = Unit {0}
PairwiseEach R (xs ∷ lists) = Pairwise R xs × PairwiseEach R lists

-- and for each two places of each list
pub pairs_each : {X : Type 0} (R : X → X → Type 0) (lists : List (List X)) → PairwiseEach R lists → All (AllPairs R) lists
pairs_each {X} R lists each = All-from_recursion (AllPairs R) lists (go lists each)
  where
    go : (lists : List (List X)) → PairwiseEach R lists → AllByRecursion (AllPairs R) lists
    go [] each = tt
    go (xs ∷ lists) each = (pairs R xs each.0, go lists each.1)

-- what holds of each element of each list
abbrev pub Each : {X : Type 0} → (X → Type 0) → List (List X) → Type 0
Each P [] = Unit {0}
Each P (xs ∷ lists) = AllByRecursion P xs × Each P lists

-- so it holds at each place
pub all_each : {X : Type 0} (P : X → Type 0) (lists : List (List X)) → Each P lists → All (All P) lists
all_each {X} P lists each = All-from_recursion (All P) lists (go lists each)
  where
    go : (lists : List (List X)) → Each P lists → AllByRecursion (All P) lists
    go [] each = tt
    go (xs ∷ lists) each = (All-from_recursion P xs each.0, go lists each.1)

-- each element stands so to the next
abbrev pub Chain : {X : Type 0} → (X → X → Type 0) → X → List X → Type 0
Chain R x [] = Unit {0}
Chain R x (y ∷ ys) = R x y × Chain R y ys

-- where the relation goes on from one to the next, it stands so to each later one
pub chain_pairs : {X : Type 0} (R : X → X → Type 0) → ((x y z : X) → R x y → R y z → R x z) → (x : X) (ys : List X) → Chain R x ys → AllPairs R (x ∷ ys)
chain_pairs {X} R goes_on x [] chain = AllPairs-cons R x [] (All-nil (R x)) (λ i j d less within. absurd (omega arith))
chain_pairs {X} R goes_on x (y ∷ ys) chain =
    let rest = chain_pairs R goes_on y ys chain.1 in
    let later : All (R y) ys = λ k d within. rest 0 (suc k) d (omega arith) (omega arith) in
    AllPairs-cons R x (y ∷ ys) (All-cons (R x) y ys chain.0 (All-weaker (R y) (R x) (λ z more. goes_on x y z chain.0 more) ys later)) rest

-- ---- parts of a list

-- what stands so to each later one does in the first of two lists
pub pairs_front : {X : Type 0} (R : X → X → Type 0) (xs ys : List X) → AllPairs R (xs ++ ys) → AllPairs R xs
pairs_front R xs ys pairs i j d less within =
    let size = length-append xs ys in
    subst (λ x. R x (get_or xs j d)) (get_or_append_left xs ys d i (omega arith))
    (subst (λ x. R (get_or (xs ++ ys) i d) x) (get_or_append_left xs ys d j within) (pairs i j d less (omega arith)))

-- and in the second
pub pairs_back : {X : Type 0} (R : X → X → Type 0) (xs ys : List X) → AllPairs R (xs ++ ys) → AllPairs R ys
pairs_back R xs ys pairs i j d less within =
    let size = length-append xs ys in
    subst (λ x. R x (get_or ys j d)) (get_or-append-add xs ys i d)
    (subst (λ x. R (get_or (xs ++ ys) (length xs + i) d) x) (get_or-append-add xs ys j d) (pairs (length xs + i) (length xs + j) d (omega arith) (omega arith)))

-- so the first stands to each other one
pub pairs_first : {X : Type 0} (R : X → X → Type 0) (x : X) (xs : List X) → AllPairs R (x ∷ xs) → All (R x) xs
pairs_first R x xs pairs = λ k d within. pairs 0 (suc k) d (omega arith) (omega arith)

-- a list that contains nothing is empty
pub nothing_in : {X : Type 0} (xs : List X) → ((x : X) → Contains xs x → ⊥) → xs ≡ []
nothing_in [] none = refl
nothing_in (x ∷ xs) none = absurd (none x (0, omega arith, refl))

-- what a list contains, its image contains the image of
pub Contains-map : {X Y : Type 0} (f : X → Y) (xs : List X) (x : X) → Contains xs x → Contains (map f xs) (f x)
Contains-map f xs x at = (at.0, omega (arith, at.1, length-map xs f), get_or-map f xs at.0 x (f x) at.1 ∙ ap f at.2)
