-- Calls on a list of disks, one after another.
use Rattle.std.proofs.Common.{◌≡◌, ℕ, zero, suc, ◌+◌, ◌<◌, List, [], ◌∷◌, ◌++◌, length, get_or, take, drop, set, Some, Result, Ok, Err, refl, sym, ap, subst, ◌∙◌, arith}
use Rattle.store_spec.proofs.Common.{AllZip, IfErr, IsErrAnd, drop-drop, drop-set-lt, get_or-drop, get_or-set_same, get_or_from_slice_get, length-set, slice_get-get_or, slice_get_within, take_more}
use Rattle.std.proofs.lemmas.Option.{slice_get_read}
use Rattle.std.specs.List.{slice_get}

-- what holds of a fault that is handed on
pub handed_on : {T E : Type 0} (r : Result T E) (P : E → Type 0) (fault : E) → IsErrAnd r (λ f. f ≡ fault) → P fault → IfErr r P
handed_on (Ok x) P fault is holds = tt
handed_on (Err f) P fault is holds = subst P (sym is) holds

-- ---- two lists, item by item

pub zip_same : {X : Type 0} (R : X → X → Type 0) → ((x : X) → R x x) → (xs : List X) → AllZip R xs xs
zip_same R same [] = tt
zip_same R same (x ∷ xs) = (same x, zip_same R same xs)

pub zip_push : {X Y : Type 0} (R : X → Y → Type 0) (xs : List X) (ys : List Y) (x : X) (y : Y) → AllZip R xs ys → R x y → AllZip R (xs ++ x ∷ []) (ys ++ y ∷ [])
zip_push R [] [] x y zip holds = (holds, tt)
zip_push R [] (b ∷ ys) x y zip holds = absurd zip
zip_push R (a ∷ xs) [] x y zip holds = absurd zip
zip_push R (a ∷ xs) (b ∷ ys) x y zip holds = (zip.0, zip_push R xs ys x y zip.1 holds)

pub zip_set : {X Y : Type 0} (R : X → Y → Type 0) (xs : List X) (ys : List Y) (i : ℕ) (x : X) (y : Y) → AllZip R xs ys → get_or xs i x ≡ x → R x y → AllZip R xs (set ys i y)
zip_set R [] [] i x y zip is holds = tt
zip_set R [] (b ∷ ys) i x y zip is holds = absurd zip
zip_set R (a ∷ xs) [] i x y zip is holds = absurd zip
zip_set R (a ∷ xs) (b ∷ ys) zero x y zip is holds = (subst (λ x. R x y) (sym is) holds, zip.1)
zip_set R (a ∷ xs) (b ∷ ys) (suc i) x y zip is holds = (zip.0, zip_set R xs ys i x y zip.1 is holds)

pub zip_more : {X Y : Type 0} (R : X → Y → Type 0) (xs : List X) (ys : List Y) (i : ℕ) (x : X) (y : Y) → slice_get xs i ≡ Some x → AllZip R (take i xs) ys → R x y
    → AllZip R (take (i + 1) xs) (ys ++ y ∷ [])
zip_more R xs ys i x y there zip holds =
    let is : take i xs ++ x ∷ [] ≡ take (i + 1) xs =
    ap (λ z. take i xs ++ z ∷ []) (sym (get_or_from_slice_get xs i x x there)) ∙ sym (take_more xs i x (slice_get_within xs i x there)) in
    subst (λ zs. AllZip R zs (ys ++ y ∷ [])) is (zip_push R (take i xs) ys x y zip holds)

pub zip_take : {X Y : Type 0} (R : X → Y → Type 0) (xs : List X) (ys : List Y) (i : ℕ) → AllZip R xs ys → AllZip R (take i xs) (take i ys)
zip_take R xs ys zero zip = tt
zip_take R [] [] (suc i) zip = tt
zip_take R [] (b ∷ ys) (suc i) zip = absurd zip
zip_take R (a ∷ xs) [] (suc i) zip = absurd zip
zip_take R (a ∷ xs) (b ∷ ys) (suc i) zip = (zip.0, zip_take R xs ys i zip.1)

-- ---- the item that is taken next stands where it stood at first

pub stood_there : {X : Type 0} (first now : List X) (i : ℕ) (x : X) → length now ≡ length first → drop i now ≡ drop i first → i < length now → x ≡ get_or now i x → slice_get first i ≡ Some x
stood_there first now i x size same lt is =
    let k : i + 0 ≡ i = omega arith in
    let now_at : get_or (drop i now) 0 x ≡ get_or now i x = get_or-drop i now 0 x ∙ ap (λ k. get_or now k x) k in
    let first_at : get_or (drop i first) 0 x ≡ get_or first i x = get_or-drop i first 0 x ∙ ap (λ k. get_or first k x) k in
    slice_get_read first (length first) i x refl (omega arith) (is ∙ sym now_at ∙ ap (λ xs. get_or xs 0 x) same ∙ first_at)

pub stands_now : {X : Type 0} (now : List X) (i : ℕ) (y : X) → i < length now → slice_get (set now i y) i ≡ Some y
stands_now now i y lt = slice_get-get_or (set now i y) i y (omega (arith, length-set now i y)) ∙ ap Some (get_or-set_same now i y y lt)

pub rest_still : {X : Type 0} (first now : List X) (i : ℕ) (y : X) → drop i now ≡ drop i first → drop (i + 1) (set now i y) ≡ drop (i + 1) first
rest_still first now i y same =
    drop-set-lt (i + 1) now i y (omega arith) ∙ sym (drop-drop 1 i now) ∙ ap (λ xs. drop 1 xs) same ∙ drop-drop 1 i first
