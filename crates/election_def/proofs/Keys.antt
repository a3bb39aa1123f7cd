-- The keys of an object, beside the keys that it may have.
use Rattle.std.proofs.Common.{◌≡◌, ℕ, zero, suc, ◌⊎◌, inl, inr, List, [], ◌∷◌, map, Option, Some, IsSome, String, Global, Bool, true, false, true≢false, bytes_eq, string_bytes, Bor, refl, sym, ap, ◌∙◌, subst, arith}
use Rattle.store_spec.proofs.Common.{bytes_eq-Decides, list_all, list_any}
use Rattle.std.specs.Prelude.{◌||◌, ◌&&◌, Contains}
use Rattle.std.specs.Map.{keys_of}
use Rattle.serde_json.specs.Data.{Data, null, boolean, number, string, array, object, Members}
use Rattle.serde_json.specs.Find.{get, get_member, as_object}
use Rattle.serde_json.specs.View.{members_view}
use Rattle.serde_json.specs.declared.value.Value.{Value}
use Rattle.serde_json.proofs.Views.{member_here, member_later}

abbrev Entry : Type 0
Entry = String Global × Value

either_true : (a b : Bool) → (a || b) ≡ true → (a ≡ true) ⊎ (b ≡ true)
either_true true b e = inl refl
either_true false b e = inr e

both_true : (a b : Bool) → (a && b) ≡ true → (a ≡ true) × (b ≡ true)
both_true true b e = (refl, e)
both_true false b e = absurd cc

first_true : (a b : Bool) → a ≡ true → (a || b) ≡ true
first_true true b e = refl
first_true false b e = absurd cc

second_true : (a b : Bool) → b ≡ true → (a || b) ≡ true
second_true true b e = refl
second_true false b e = e

join_true : (a b : Bool) → a ≡ true → b ≡ true → (a && b) ≡ true
join_true true b e f = f
join_true false b e f = absurd cc

by_test : (a b : List ℕ) (t : Bool) → bytes_eq a b ≡ t → (a ≡ b) ⊎ (a ≡ b → ⊥)
by_test a b true e = inl ((bytes_eq-Decides a b).0 e)
by_test a b false e = inr (λ (same : a ≡ b). let is : bytes_eq a b ≡ true = (bytes_eq-Decides a b).1 same in cc)

same_or_not : (a b : List ℕ) → (a ≡ b) ⊎ (a ≡ b → ⊥)
same_or_not a b = by_test a b (bytes_eq a b) refl

abbrev pub is_among : List (Bor (List ℕ)) → List ℕ → Bool
is_among names key = list_any (λ k. bytes_eq k.now key) names

among_contains : (names : List (Bor (List ℕ))) (key : List ℕ) → is_among names key ≡ true → Contains (map (λ k. k.now) names) key
among_contains [] key e = absurd cc
among_contains (name ∷ names) key e =
    elim (either_true (bytes_eq name.now key) (is_among names key) e) [
      | inl here ↦ (0, omega arith, (bytes_eq-Decides name.now key).0 here)
      | inr later ↦ let found = among_contains names key later in (suc found.0, omega (arith, found.1), found.2)
    ]

contains_among : (names : List (Bor (List ℕ))) (key : List ℕ) → Contains (map (λ k. k.now) names) key → is_among names key ≡ true
contains_among [] key found = absurd (omega (arith, found.1))
contains_among (name ∷ names) key (zero, within, is) = first_true (bytes_eq name.now key) (is_among names key) ((bytes_eq-Decides name.now key).1 is)
contains_among (name ∷ names) key (suc k, within, is) = second_true (bytes_eq name.now key) (is_among names key) (contains_among names key (k, omega arith, is))

all_keys : (names : List (Bor (List ℕ))) (es : List Entry) → list_all (λ key. is_among names (string_bytes key)) (keys_of es) ≡ true
    → (key : List ℕ) → IsSome (get_member key (members_view es)) → is_among names key ≡ true
all_keys names [] all key some = absurd (true≢false (sym some))
all_keys names (e ∷ es) all key some =
    let parts = both_true (is_among names (string_bytes e.0)) (list_all (λ key. is_among names (string_bytes key)) (keys_of es)) all in
    elim (same_or_not key (string_bytes e.0)) [
      | inl same ↦ ap (is_among names) same ∙ parts.0
      | inr other ↦ let P : Option Data → Type 0 = λ found. IsSome found in all_keys names es parts.1 key (subst P (member_later key e es other) some)
    ]

keys_all : (names : List (Bor (List ℕ))) (es : List Entry) → ((key : List ℕ) → IsSome (get_member key (members_view es)) → is_among names key ≡ true)
    → list_all (λ key. is_among names (string_bytes key)) (keys_of es) ≡ true
keys_all names [] each = refl
keys_all names (e ∷ es) each =
    let P : Option Data → Type 0 = λ found. IsSome found in
    let here : (key : List ℕ) → key ≡ string_bytes e.0 → IsSome (get_member key (members_view (e ∷ es))) = λ key same. subst P (sym (member_here key e es same)) refl in
    join_true (is_among names (string_bytes e.0)) (list_all (λ key. is_among names (string_bytes key)) (keys_of es))
    (each (string_bytes e.0) (here (string_bytes e.0) refl))
    (keys_all names es (λ key some. elim (same_or_not key (string_bytes e.0)) [
      | inl same ↦ each key (here key same)
      | inr other ↦ each key (subst P (sym (member_later key e es other)) some)
    ]))

get_in_object : (d : Data) (ms : Members) → Some ms ≡ as_object d → (key : List ℕ) → get key d ≡ get_member key ms
get_in_object null ms e key = absurd cc
get_in_object (boolean b) ms e key = absurd cc
get_in_object (number n) ms e key = absurd cc
get_in_object (string s) ms e key = absurd cc
get_in_object (array ds) ms e key = absurd cc
get_in_object (object others) ms e key = let same : others ≡ ms = cc in ap (get_member key) same

pub no_other_key : (names : List (Bor (List ℕ))) (es : List Entry) (d : Data) → Some (members_view es) ≡ as_object d → list_all (λ key. is_among names (string_bytes key)) (keys_of es) ≡ true
    → (key : List ℕ) → IsSome (get key d) → Contains (map (λ k. k.now) names) key
no_other_key names es d is all key some =
    let P : Option Data → Type 0 = λ found. IsSome found in
    among_contains names key (all_keys names es all key (subst P (get_in_object d (members_view es) is key) some))

pub all_from_no_other : (names : List (Bor (List ℕ))) (es : List Entry) (d : Data) → Some (members_view es) ≡ as_object d → ((key : List ℕ) → IsSome (get key d) → Contains (map (λ k. k.now) names) key)
    → list_all (λ key. is_among names (string_bytes key)) (keys_of es) ≡ true
all_from_no_other names es d is each =
    let P : Option Data → Type 0 = λ found. IsSome found in
    keys_all names es (λ key some. contains_among names key (each key (subst P (sym (get_in_object d (members_view es) is key)) some)))
