-- The items of an array, read one after another.
use Rattle.std.proofs.Common.{◌≡◌, ℕ, suc, ◌+◌, ◌<◌, ◌≤◌, List, [], ◌∷◌, ◌++◌, length, get_or, map, take, drop, Option, Some, sym, ap, ◌∙◌, subst, arith, add-one, drop-cons}
use Rattle.store_spec.proofs.Common.{AllZip, map-append, take_all, take_more}
use Rattle.std.proofs.Math.ListN.{get_or-map, length-map}
use Rattle.std.specs.Prelude.{IsSomeAnd}
use Rattle.serde_json.specs.Data.{Data, Items}
use Rattle.serde_json.specs.Find.{as_array}
use Rattle.serde_json.specs.View.{view, items_view, items_of}
use Rattle.serde_json.specs.declared.value.Value.{Value}
use Rattle.election_def.specs.Text.{array_items, IsArrayOf}
use Rattle.election_def.proofs.Zips.{listed-items_of, one_more, partner}

-- what is left is an item and the rest
pub next_items : (items : List Value) (i : ℕ) (x : Value) → i < length items → get_or items i x ≡ x → drop i (map view items) ≡ view x ∷ drop (i + 1) (map view items)
next_items items i x within is =
    let inside : i < length (map view items) = omega (arith, length-map items view) in
    drop-cons (map view items) i (view x) inside
    ∙ ap (λ first. first ∷ drop (suc i) (map view items)) (get_or-map view items i x ∙ ap view is)
    ∙ ap (λ n. view x ∷ drop n (map view items)) (sym (add-one i))

-- the value's items
pub listed_items : (d : Data) (vs items : List Value) → Some (items_view vs) ≡ as_array d → items ≡ vs → Some (items_of (map view items)) ≡ as_array d
listed_items d vs items is same = ap (λ vs. Some (items_of (map view vs))) same ∙ is

pub in_array : {A : Type 0} (R : Data → A → Type 0) (xs : List A) (d : Data) (vs items : List Value) → Some (items_view vs) ≡ as_array d → items ≡ vs → AllZip R (map view items) xs → IsArrayOf R xs d
in_array R xs d vs items is same all =
    let P : Option Items → Type 0 = λ found. IsSomeAnd found (λ items. AllZip R (array_items items) xs) in
    let Q : List Data → Type 0 = λ ds. AllZip R ds xs in
    subst P (listed_items d vs items is same) (subst Q (sym (listed-items_of (map view items))) all)

pub from_array : {A : Type 0} (R : Data → A → Type 0) (xs : List A) (d : Data) (vs items : List Value) → Some (items_view vs) ≡ as_array d → items ≡ vs → IsArrayOf R xs d → AllZip R (map view items) xs
from_array R xs d vs items is same all =
    let P : Option Items → Type 0 = λ found. IsSomeAnd found (λ items. AllZip R (array_items items) xs) in
    let Q : List Data → Type 0 = λ ds. AllZip R ds xs in
    subst Q (listed-items_of (map view items)) (subst P (sym (listed_items d vs items is same)) all)

pub array_more : {A : Type 0} (R : Data → A → Type 0) (items : List Value) (i : ℕ) (x : Value) (ys : List A) (y : A) → i < length items → get_or items i x ≡ x
    → AllZip R (map view (take i items)) ys → R (view x) y → AllZip R (map view (take (i + 1) items)) (ys ++ y ∷ [])
array_more R items i x ys y within is all more =
    let Q : List Data → Type 0 = λ ds. AllZip R ds (ys ++ y ∷ []) in
    let grown : map view (take (i + 1) items) ≡ map view (take i items) ++ view x ∷ [] =
    ap (map view) (take_more items i x within) ∙ map-append view (take i items) (get_or items i x ∷ []) ∙ ap (λ v. map view (take i items) ++ view v ∷ []) is in
    subst Q (sym grown) (one_more R (map view (take i items)) ys (view x) y all more)

pub array_end : {A : Type 0} (R : Data → A → Type 0) (xs : List A) (d : Data) (vs items : List Value) (i : ℕ) → Some (items_view vs) ≡ as_array d → items ≡ vs → length items ≤ i
    → AllZip R (map view (take i items)) xs → IsArrayOf R xs d
array_end R xs d vs items i is same end all =
    let Q : List Value → Type 0 = λ vs. AllZip R (map view vs) xs in
    in_array R xs d vs items is same (subst Q (take_all i items end) all)

pub array_none : {A : Type 0} (R : Data → A → Type 0) (d : Data) (vs items : List Value) (i : ℕ) (x : Value) → Some (items_view vs) ≡ as_array d → items ≡ vs → i < length items → get_or items i x ≡ x
    → ((y : A) → R (view x) y → ⊥) → (ys : List A) → IsArrayOf R ys d → ⊥
array_none R d vs items i x is same within found none ys all =
    let inside : i < length (map view items) = omega (arith, length-map items view) in
    let other = partner R (map view items) ys i (view x) (from_array R ys d vs items is same all) inside in
    let P : Data → Type 0 = λ d. R d other.0 in
    none other.0 (subst P (get_or-map view items i x ∙ ap view found) other.1)
