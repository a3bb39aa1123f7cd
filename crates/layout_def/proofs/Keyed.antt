-- Numbers by which the elements of a list are known.
use Rattle.std.proofs.Common.{◌≡◌, ◌⊎◌, ℕ, ◌<◌, List, ◌++◌, ◌∷◌, [], get_or, length, map, subst, sym, ◌∙◌, arith}
use Rattle.store_spec.proofs.Common.{Contains, Contains-append_left, Contains-permutation, Contains-push, Contains-push_cases, IsPermutation, IsPermutation-map, get_or-map, length-map, map_push}

module _ {X : Type 0} (key : X → ℕ) where
  pub among_still : (xs : List X) (x : X) (v : ℕ) → Contains (map key xs) v → Contains (map key (xs ++ x ∷ [])) v
  among_still xs x v c =
      subst (λ (vs : List ℕ). Contains vs v) (sym (map_push key xs x)) (Contains-append_left (map key xs) (key x ∷ []) v c)

  pub among_pushed : (xs : List X) (x : X) → Contains (map key (xs ++ x ∷ [])) (key x)
  among_pushed xs x =
      subst (λ (vs : List ℕ). Contains vs (key x)) (sym (map_push key xs x)) (Contains-push (map key xs) (key x))

  pub among_cases : (xs : List X) (x : X) (v : ℕ) → Contains (map key (xs ++ x ∷ [])) v
      → Contains (map key xs) v ⊎ (key x ≡ v)
  among_cases xs x v c =
      Contains-push_cases (map key xs) (key x) v (subst (λ (vs : List ℕ). Contains vs v) (map_push key xs x) c)

  pub among_moved : (xs ys : List X) (v : ℕ) → IsPermutation xs ys → Contains (map key xs) v → Contains (map key ys) v
  among_moved xs ys v p = Contains-permutation _ _ v (IsPermutation-map key xs ys p)

  pub among_at : (xs : List X) (v : ℕ) (d : X) → Contains (map key xs) v
      → (k : ℕ) × (k < length xs) × (key (get_or xs k d) ≡ v)
  among_at xs v d c =
      let within : c.0 < length xs = omega (arith, c.1, length-map xs key) in
      (c.0, within, sym (get_or-map key xs c.0 d v within) ∙ c.2)

  pub among_from : (xs : List X) (k v : ℕ) (d : X) → k < length xs → key (get_or xs k d) ≡ v → Contains (map key xs) v
  among_from xs k v d within same =
      (k, (let lt : k < length (map key xs) = omega (arith, within, length-map xs key) in lt), get_or-map key xs k d v within ∙ same)
