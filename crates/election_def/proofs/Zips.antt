-- Two lists that go together, place by place.
use Rattle.std.proofs.Common.{◌≡◌, ℕ, zero, suc, ◌<◌, List, [], ◌∷◌, ◌++◌, length, get_or, refl, ap, ◌∙◌, arith}
use Rattle.store_spec.proofs.Common.{AllZip}
use Rattle.serde_json.specs.Data.{Data}
use Rattle.serde_json.specs.View.{items_of}
use Rattle.election_def.specs.Text.{array_items}

pub listed-items_of : (ds : List Data) → array_items (items_of ds) ≡ ds
listed-items_of [] = refl
listed-items_of (d ∷ ds) = ap (λ rest. d ∷ rest) (listed-items_of ds)

-- one more of each
pub one_more : {A B : Type 0} (R : A → B → Type 0) (xs : List A) (ys : List B) (x : A) (y : B) → AllZip R xs ys → R x y → AllZip R (xs ++ x ∷ []) (ys ++ y ∷ [])
one_more R [] [] x y all more = (more, tt)
one_more R [] (b ∷ ys) x y all more = absurd all
one_more R (a ∷ xs) [] x y all more = absurd all
one_more R (a ∷ xs) (b ∷ ys) x y all more = (all.0, one_more R xs ys x y all.1 more)

-- what goes with the element at a place
pub partner : {A B : Type 0} (R : A → B → Type 0) (xs : List A) (ys : List B) (i : ℕ) (d : A) → AllZip R xs ys → i < length xs → (y : B) × R (get_or xs i d) y
partner R [] ys i d all within = absurd (omega arith)
partner R (x ∷ xs) [] i d all within = absurd all
partner R (x ∷ xs) (y ∷ ys) zero d all within = (y, all.0)
partner R (x ∷ xs) (y ∷ ys) (suc i) d all within = partner R xs ys i d all.1 (omega arith)

-- where one element goes with each, one list does
pub one_list : {A B : Type 0} (R : A → B → Type 0) → ((x : A) (y z : B) → R x y → R x z → y ≡ z) → (xs : List A) (ys zs : List B) → AllZip R xs ys → AllZip R xs zs → ys ≡ zs
one_list R one [] [] [] all more = refl
one_list R one [] [] (z ∷ zs) all more = absurd more
one_list R one [] (y ∷ ys) zs all more = absurd all
one_list R one (x ∷ xs) [] zs all more = absurd all
one_list R one (x ∷ xs) (y ∷ ys) [] all more = absurd more
one_list R one (x ∷ xs) (y ∷ ys) (z ∷ zs) all more =
    ap (λ first. first ∷ ys) (one x y z all.0 more.0) ∙ ap (λ rest. z ∷ rest) (one_list R one xs ys zs all.1 more.1)
