-- More on calls on a list of disks, one after another, and on lists that are related entry by entry.
use Rattle.std.proofs.Common.{◌≡◌, ℕ, zero, suc, ◌+◌, ◌-◌, ◌<◌, ◌≤◌, ◌≢◌, List, [], ◌∷◌, ◌++◌, length, get_or, take, drop, set, Some, refl, sym, ap, subst, ◌∙◌, arith}
use Rattle.store_spec.proofs.Common.{AllZip, get_or-drop, get_or-set_same, get_or_from_slice_get, length-set, take-set, take_more}
use Rattle.std.specs.List.{slice_get}
use Rattle.recovery.proofs.OneByOne.{stood_there, zip_more, zip_set}

-- the next one was called
pub zip_next : {X : Type 0} (R : X → X → Type 0) (first now : List X) (i : ℕ) (x y : X) → length now ≡ length first → drop i now ≡ drop i first → i < length now → x ≡ get_or now i x
    → AllZip R first now → R (get_or now i x) y → AllZip R first (set now i y)
zip_next R first now i x y size same lt is zip holds =
    let there = stood_there first now i x size same lt is ∙ ap Some is in
    zip_set R first now i (get_or now i x) y zip (get_or_from_slice_get first i (get_or now i x) (get_or now i x) there) holds

-- two relations, one after another
pub zip_joined : {X Y Z : Type 0} (R : X → Y → Type 0) (S : Y → Z → Type 0) (T : X → Z → Type 0) → ((x : X) (y : Y) (z : Z) → R x y → S y z → T x z)
    → (xs : List X) (ys : List Y) (zs : List Z) → AllZip R xs ys → AllZip S ys zs → AllZip T xs zs
zip_joined R S T step [] [] [] one two = tt
zip_joined R S T step [] [] (z ∷ zs) one two = absurd two
zip_joined R S T step [] (y ∷ ys) zs one two = absurd one
zip_joined R S T step (x ∷ xs) [] zs one two = absurd one
zip_joined R S T step (x ∷ xs) (y ∷ ys) [] one two = absurd two
zip_joined R S T step (x ∷ xs) (y ∷ ys) (z ∷ zs) one two = (step x y z one.0 two.0, zip_joined R S T step xs ys zs one.1 two.1)

-- what follows from a relation
pub zip_weaker : {X Y : Type 0} (R S : X → Y → Type 0) → ((x : X) (y : Y) → R x y → S x y) → (xs : List X) (ys : List Y) → AllZip R xs ys → AllZip S xs ys
zip_weaker R S step [] [] zip = tt
zip_weaker R S step [] (y ∷ ys) zip = absurd zip
zip_weaker R S step (x ∷ xs) [] zip = absurd zip
zip_weaker R S step (x ∷ xs) (y ∷ ys) zip = (step x y zip.0, zip_weaker R S step xs ys zip.1)

-- one place of them
pub zip_at : {X Y : Type 0} (R : X → Y → Type 0) (xs : List X) (ys : List Y) (i : ℕ) (x : X) (y : Y) → AllZip R xs ys → slice_get xs i ≡ Some x → slice_get ys i ≡ Some y → R x y
zip_at R [] ys i x y zip is at = let never : ⊥ = cc in absurd never
zip_at R (a ∷ xs) [] i x y zip is at = absurd zip
zip_at R (a ∷ xs) (b ∷ ys) zero x y zip is at = let left : a ≡ x = cc in let right : b ≡ y = cc in subst (λ x. R x y) left (subst (λ y. R a y) right zip.0)
zip_at R (a ∷ xs) (b ∷ ys) (suc i) x y zip is at = zip_at R xs ys i x y zip.1 is at

-- one of the first of them
pub zip_before : {X Y : Type 0} (R : X → Y → Type 0) (xs : List X) (ys : List Y) (n i : ℕ) (x : X) (y : Y) → i < n → AllZip R (take n xs) (take n ys)
    → slice_get xs i ≡ Some x → slice_get ys i ≡ Some y → R x y
zip_before R xs ys zero i x y lt zip is at = absurd (omega (arith, lt))
zip_before R [] ys (suc n) i x y lt zip is at = let never : ⊥ = cc in absurd never
zip_before R (a ∷ xs) [] (suc n) i x y lt zip is at = absurd zip
zip_before R (a ∷ xs) (b ∷ ys) (suc n) zero x y lt zip is at = let left : a ≡ x = cc in let right : b ≡ y = cc in subst (λ x. R x y) left (subst (λ y. R a y) right zip.0)
zip_before R (a ∷ xs) (b ∷ ys) (suc n) (suc i) x y lt zip is at = zip_before R xs ys n i x y (omega (arith, lt)) zip.1 is at

-- those from one of them on are as they were
pub later_same : {X : Type 0} (first now : List X) (n i : ℕ) (x y : X) → n ≤ i → drop n now ≡ drop n first → slice_get first i ≡ Some x → slice_get now i ≡ Some y → y ≡ x
later_same first now n i x y le same at now_at =
    let k : n + (i - n) ≡ i = omega arith in
    sym (get_or_from_slice_get now i y y now_at) ∙ ap (λ j. get_or now j y) (sym k) ∙ sym (get_or-drop n now (i - n) y) ∙ ap (λ zs. get_or zs (i - n) y) same
    ∙ get_or-drop n first (i - n) y ∙ ap (λ j. get_or first j y) k ∙ get_or_from_slice_get first i x y at

-- ---- the first of them, with the one that was called

pub taken_next : {X : Type 0} (now : List X) (i : ℕ) (y : X) → i < length now → take (i + 1) (set now i y) ≡ take i now ++ y ∷ []
taken_next now i y lt =
    take_more (set now i y) i y (omega (arith, length-set now i y)) ∙ ap (λ z. take i (set now i y) ++ z ∷ []) (get_or-set_same now i y y lt)
    ∙ ap (λ zs. zs ++ y ∷ []) (take-set now i y)

pub zip_taken : {X : Type 0} (R : X → X → Type 0) (first now : List X) (i : ℕ) (x y : X) → slice_get first i ≡ Some x → i < length now → AllZip R (take i first) (take i now) → R x y
    → AllZip R (take (i + 1) first) (take (i + 1) (set now i y))
zip_taken R first now i x y there lt zip holds =
    subst (λ zs. AllZip R (take (i + 1) first) zs) (sym (taken_next now i y lt)) (zip_more R first (take i now) i x y there zip holds)

-- another one is as it was
pub still_there : {X : Type 0} (now : List X) (i place : ℕ) (y z : X) → i ≢ place → slice_get (set now place z) i ≡ Some y → slice_get now i ≡ Some y
still_there [] i place y z other is = is
still_there (a ∷ now) zero zero y z other is = absurd (other refl)
still_there (a ∷ now) zero (suc place) y z other is = is
still_there (a ∷ now) (suc i) zero y z other is = is
still_there (a ∷ now) (suc i) (suc place) y z other is = still_there now i place y z (λ same. other (ap suc same)) is

-- ---- both of two relations, and the other one of a place

pub zip_both : {X Y : Type 0} (R S : X → Y → Type 0) (xs : List X) (ys : List Y) → AllZip R xs ys → AllZip S xs ys → AllZip (λ x y. R x y × S x y) xs ys
zip_both R S [] [] one two = tt
zip_both R S [] (y ∷ ys) one two = absurd one
zip_both R S (x ∷ xs) [] one two = absurd one
zip_both R S (x ∷ xs) (y ∷ ys) one two = ((one.0, two.0), zip_both R S xs ys one.1 two.1)

pub zip_from : {X Y : Type 0} (R : X → Y → Type 0) (xs : List X) (ys : List Y) (i : ℕ) (y : Y) → AllZip R xs ys → slice_get ys i ≡ Some y → (x : X) × (slice_get xs i ≡ Some x) × R x y
zip_from R [] [] i y zip is = let never : ⊥ = cc in absurd never
zip_from R [] (b ∷ ys) i y zip is = absurd zip
zip_from R (a ∷ xs) [] i y zip is = absurd zip
zip_from R (a ∷ xs) (b ∷ ys) zero y zip is = let here : b ≡ y = cc in (a, refl, subst (λ y. R a y) here zip.0)
zip_from R (a ∷ xs) (b ∷ ys) (suc i) y zip is = zip_from R xs ys i y zip.1 is

pub zip_to : {X Y : Type 0} (R : X → Y → Type 0) (xs : List X) (ys : List Y) (i : ℕ) (x : X) → AllZip R xs ys → slice_get xs i ≡ Some x → (y : Y) × (slice_get ys i ≡ Some y) × R x y
zip_to R [] ys i x zip is = let never : ⊥ = cc in absurd never
zip_to R (a ∷ xs) [] i x zip is = absurd zip
zip_to R (a ∷ xs) (b ∷ ys) zero x zip is = let here : a ≡ x = cc in (b, refl, subst (λ x. R x b) here zip.0)
zip_to R (a ∷ xs) (b ∷ ys) (suc i) x zip is = zip_to R xs ys i x zip.1 is
