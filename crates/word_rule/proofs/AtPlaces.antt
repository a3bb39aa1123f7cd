-- Workers and the lists that they work off, place by place.
use Rattle.std.proofs.Common.{◌≡◌, ◌<◌, ◌∙◌, ℕ, All, List, ap, arith, get_or, length, subst, sym}
use Rattle.store_spec.proofs.Common.{get_or-zip, get_or_default, length-zip, zip}

-- what holds of all pairs of two lists holds of the two elements at one place
pub at_one_place : {A B : Type 0} (P : A × B → Type 0) (xs : List A) (ys : List B) (k : ℕ) (d : A × B) → length xs ≡ length ys → All P (zip xs ys) → k < length xs → P (get_or xs k d.0, get_or ys k d.1)
at_one_place P xs ys k d same all within =
    subst P (get_or-zip xs ys k d within (omega arith)) (all k d (omega (arith, length-zip xs ys)))

module _ {A V : Type 0} (R : A → V → A → Type 0) where
  -- what each worker makes of its list, at every place
  pub at_all_places : (before after : List A) (work : List V) → length before ≡ length work → length after ≡ length before → ((k : ℕ) (d : A) (v : V) → k < length before → R (get_or before k d) (get_or work k v) (get_or after k d)) → All (λ at. R at.0 at.1.0 at.1.1) (zip before (zip work after))
  at_all_places before after work same as_many each k d within =
      let inner = length-zip work after in
      let listed : k < length before = omega (arith, inner, length-zip before (zip work after)) in
      let at = get_or-zip before (zip work after) k d listed (omega (arith, inner)) ∙ ap (λ p. (get_or before k d.0, p)) (get_or-zip work after k d.1 (omega arith) (omega arith)) in
      subst (λ p. R p.0 p.1.0 p.1.1) (sym at)
      (subst (λ a. R a (get_or work k d.1.0) (get_or after k d.1.1)) (get_or_default before k d.1.1 d.0 listed) (each k d.1.1 d.1.0 listed))
