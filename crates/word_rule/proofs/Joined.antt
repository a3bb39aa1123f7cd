-- The lists of views of which all but one are as new.
use Rattle.std.proofs.Common.{◌≡◌, ◌≢◌, ℕ, zero, suc, ◌<◌, ⊎_elim, List, [], ◌∷◌, ◌++◌, length, get_or, Some, slice_get, refl, sym, ap, ◌∙◌, subst, append-nil, arith}
use Rattle.store_spec.proofs.Common.{All, cases_eq, flat_map, flat_map-cons, get_or_from_slice_get, slice_get_within}

module _ {V : Type 0} (list : V → List ℕ) where
  -- views with nothing in their lists have nothing in all of them
  none_listed : (views : List V) → ((k : ℕ) (d : V) → k < length views → list (get_or views k d) ≡ []) → flat_map list views ≡ []
  none_listed [] empty = refl
  none_listed (view ∷ views) empty =
      flat_map-cons list view views
      ∙ ap (λ (l : List ℕ). l ++ flat_map list views) (empty 0 view (omega arith))
      ∙ none_listed views (λ k d lt. empty (suc k) d (omega arith))

  -- where one view has all, its list is that of all
  pub one_has_all : (views : List V) (id : ℕ) (view : V) → slice_get views id ≡ Some view → ((k : ℕ) (d : V) → k < length views → k ≢ id → list (get_or views k d) ≡ []) → flat_map list views ≡ list view
  one_has_all [] id view stands empty = absurd (let lt = slice_get_within {A = V} [] id view stands in omega arith)
  one_has_all (first ∷ views) zero view stands empty =
      flat_map-cons list first views
      ∙ ap (λ (l : List ℕ). list first ++ l) (none_listed views (λ k d lt. empty (suc k) d (omega arith) (λ e. omega arith)))
      ∙ append-nil (list first)
      ∙ ap list (get_or_from_slice_get (first ∷ views) 0 view view stands)
  one_has_all (first ∷ views) (suc id) view stands empty =
      flat_map-cons list first views
      ∙ ap (λ (l : List ℕ). l ++ flat_map list views) (empty 0 first (omega arith) (λ e. omega arith))
      ∙ one_has_all views id view stands (λ k d lt other. empty (suc k) d (omega arith) (λ e. other (omega arith)))

-- where one view is such, and all others are as new, all are such
pub all_such : {V : Type 0} (IsSuch : V → Type 0) (fresh : V) (views : List V) (id : ℕ) (view : V) → slice_get views id ≡ Some view → ((k : ℕ) (d : V) → k < length views → k ≢ id → get_or views k d ≡ fresh) → IsSuch view → IsSuch fresh → All IsSuch views
all_such IsSuch fresh views id view stands others such new k d lt = ⊎_elim
    (λ (same : k ≡ id). subst IsSuch (sym (ap (λ n. get_or views n d) same ∙ get_or_from_slice_get views id view d stands)) such)
    (λ (other : k ≢ id). subst IsSuch (sym (others k d lt other)) new)
    (cases_eq k id)
