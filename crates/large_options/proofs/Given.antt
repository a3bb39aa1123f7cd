-- Six words are options where each two of them are one, and no two of them the same.
use Rattle.std.proofs.Common.{◌≡◌, ◌≢◌, ℕ, ◌<◌, ◌≤◌, Bool, false, List, [], ◌∷◌, map, get_or, length, Option, Some, None, refl, sym, ap, subst, ◌∙◌, arith}
use Rattle.store_spec.proofs.Common.{IsTrue, MatchOption, length-map}
use Rattle.std.specs.Prelude.{◌↔◌}
use Rattle.large_options.specs.Given.{AllDiffer, AreDifferent, IsGiven, IsNotGiven}
use Rattle.large_options.specs.Options.{AreOptions}
use Rattle.large_options.specs.declared.name.Name.{Name}
use Rattle.large_options.proofs.Orders.{one_name, options_from, ordered, taken, values}

-- what was told of two words
abbrev pub IsTold : List ℕ → List ℕ → Option Name → Type 0
IsTold word next told = MatchOption told (IsNotGiven word next) (λ name. IsGiven word next name)

-- six words in a list
pub six : {X : Type 0} (text : X → List ℕ) (xs : List X) (a b c d e f : X) → 6 ≤ length xs → length xs < 7
    → a ≡ get_or xs 0 a → b ≡ get_or xs 1 b → c ≡ get_or xs 2 c → d ≡ get_or xs 3 d → e ≡ get_or xs 4 e → f ≡ get_or xs 5 f
    → map text xs ≡ text a ∷ text b ∷ text c ∷ text d ∷ text e ∷ text f ∷ []
six text (p ∷ q ∷ r ∷ s ∷ t ∷ u ∷ []) a b c d e f some few h0 h1 h2 h3 h4 h5 = rw (h0, h1, h2, h3, h4, h5) refl
six text (p ∷ q ∷ r ∷ s ∷ t ∷ u ∷ v ∷ xs) a b c d e f some few h0 h1 h2 h3 h4 h5 = absurd (omega arith)
six text xs a b c d e f some few h0 h1 h2 h3 h4 h5 = absurd (omega arith)

-- options are six words
pub not_six : {X : Type 0} (text : X → List ℕ) (xs : List X) → length xs ≢ 6 → IsTrue false ↔ AreOptions (map text xs)
not_six text xs other = (
  λ yes. absurd (cc),
  λ are. absurd (other (sym (length-map xs text) ∙ ap length (ordered (map text xs) are.0 are.1 are.2 are.3).spelled)),
)

-- the names that stand in six words
record HasNames (s t u v w x : List ℕ) : Type 0 where
  a : Name
  b : Name
  c : Name
  different : AreDifferent a b c
  first : IsGiven s t a
  second : IsGiven u v b
  third : IsGiven w x c

names_in : (s t u v w x : List ℕ) → AreOptions (s ∷ t ∷ u ∷ v ∷ w ∷ x ∷ []) → HasNames s t u v w x
names_in s t u v w x are =
    let words = s ∷ t ∷ u ∷ v ∷ w ∷ x ∷ [] in
    let order = ordered words are.0 are.1 are.2 are.3 in
    let fits = taken words are.0 are.1 are.2 are.3 in
    let value = values are.0 are.1 are.2 in
    let spelled = order.spelled in
    record {
      a = order.first;
      b = order.second;
      c = order.third;
      different = order.different;
      first = (cc, value order.first, ((fits order.first).0, (fits order.first).1, cc));
      second = (cc, value order.second, ((fits order.second).0, (fits order.second).1, cc));
      third = (cc, value order.third, ((fits order.third).0, (fits order.third).1, cc));
    }

-- what is told of an option is its name
told_name : (word next : List ℕ) (name : Name) (told : Option Name) → IsGiven word next name → IsTold word next told → told ≡ Some name
told_name word next name None is none = absurd (none name is)
told_name word next name (Some other) is has = ap Some (one_name other name (sym has.0 ∙ is.0))

all_told : (s t u v w x : List ℕ) (k l m : Option Name) → IsTold s t k → IsTold u v l → IsTold w x m → AreOptions (s ∷ t ∷ u ∷ v ∷ w ∷ x ∷ []) → AllDiffer k l m
all_told s t u v w x k l m first second third are =
    let names = names_in s t u v w x are in
    rw (told_name s t names.a k names.first first, told_name u v names.b l names.second second, told_name w x names.c m names.third third) names.different

all_options : (s t u v w x : List ℕ) (k l m : Option Name) → IsTold s t k → IsTold u v l → IsTold w x m → AllDiffer k l m → AreOptions (s ∷ t ∷ u ∷ v ∷ w ∷ x ∷ [])
all_options s t u v w x (Some a) (Some b) (Some c) first second third each =
    let p = first.0 in
    let q = first.2.2 in
    let r = second.0 in
    let y = second.2.2 in
    let z = third.0 in
    let o = third.2.2 in
    options_from (s ∷ t ∷ u ∷ v ∷ w ∷ x ∷ []) a b c first.1 second.1 third.1 each
    (first.2.0, first.2.1, refl) (second.2.0, second.2.1, refl) (third.2.0, third.2.1, refl) (cc)
all_options s t u v w x k l m first second third each = absurd each

-- six words are options where their names are told so
pub told : (words : List (List ℕ)) (s t u v w x : List ℕ) (k l m : Option Name) (result : Bool) → words ≡ s ∷ t ∷ u ∷ v ∷ w ∷ x ∷ [] → IsTold s t k → IsTold u v l → IsTold w x m
    → (IsTrue result ↔ AllDiffer k l m) → IsTrue result ↔ AreOptions words
told words s t u v w x k l m result is first second third tells = (
  λ yes. subst AreOptions (sym is) (all_options s t u v w x k l m first second third (tells.0 yes)),
  λ are. tells.1 (all_told s t u v w x k l m first second third (subst AreOptions is are)),
)
