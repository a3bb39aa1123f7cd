-- Two lists, row by row.
use Rattle.std.proofs.Common.{◌≡◌, ℕ, zero, suc, ◌<◌, List, [], ◌∷◌, length, get_or, map, refl, sym, ap, ◌∙◌, arith}
use Rattle.store_spec.proofs.Common.{get_or-map, length-map}

-- one row of each of two lists with the same rows
pub rows_alike : {X Y Z : Type 0} (f : X → Z) (g : Y → Z) (xs : List X) (ys : List Y) (i : ℕ) (c : X) (d : Y)
    → map f xs ≡ map g ys → i < length ys → f (get_or xs i c) ≡ g (get_or ys i d)
rows_alike f g xs ys i c d same within =
    sym (get_or-map f xs i c (f c) (omega (arith, ap length same, length-map xs f, length-map ys g)))
    ∙ ap (λ l. get_or l i (f c)) same
    ∙ get_or-map g ys i d (f c) within

-- two lists whose rows are the same, each with each
pub same_rows : {X Y Z : Type 0} (f : X → Z) (g : Y → Z) (xs : List X) (ys : List Y) → length xs ≡ length ys
    → ((i : ℕ) (c : X) (d : Y) → i < length xs → f (get_or xs i c) ≡ g (get_or ys i d)) → map f xs ≡ map g ys
same_rows f g [] [] many each = refl
same_rows f g [] (y ∷ ys) many each = absurd (omega arith)
same_rows f g (x ∷ xs) [] many each = absurd (omega arith)
same_rows f g (x ∷ xs) (y ∷ ys) many each =
    let first : f x ≡ g y = each zero x y (omega arith) in
    let rest : map f xs ≡ map g ys =
    same_rows f g xs ys (omega arith) (λ i c d within. each (suc i) c d (omega arith)) in
    cc
