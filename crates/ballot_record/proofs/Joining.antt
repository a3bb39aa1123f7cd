-- Parts that are put one after the other, with a byte between them.
use Rattle.std.proofs.Common.{◌≡◌, ℕ, Bool, true, false, cond, List, [], ◌∷◌, ◌++◌, refl, sym, ap, ◌∙◌, append_assoc, append-nil}
use Rattle.store_spec.proofs.Common.{join_with_byte}

-- the parts with the byte before each
unfoldable pub behind : ℕ → List (List ℕ) → List ℕ
behind between [] = []
behind between (x ∷ xs) = (between ∷ x) ++ behind between xs

-- what is still to be put of the parts that are left, at the first of all or behind others
unfoldable pub joined_after : Bool → ℕ → List (List ℕ) → List ℕ
joined_after true between parts = join_with_byte between parts
joined_after false between parts = behind between parts

join-cons : (between : ℕ) (x : List ℕ) (xs : List (List ℕ)) → join_with_byte between (x ∷ xs) ≡ x ++ behind between xs
unfolding behind
join-cons between x [] = sym (append-nil x)
join-cons between x (y ∷ ys) = ap (λ rest. x ++ (between ∷ rest)) (join-cons between y ys)

joined_after-cons : (first : Bool) (between : ℕ) (x : List ℕ) (xs : List (List ℕ))
    → joined_after first between (x ∷ xs) ≡ (cond first [] (between ∷ []) ++ x) ++ behind between xs
unfolding joined_after behind
joined_after-cons true between x xs = join-cons between x xs
joined_after-cons false between x xs = refl

-- one more part was put
pub part_put : (first : Bool) (between : ℕ) (x : List ℕ) (xs : List (List ℕ)) (before apart now whole : List ℕ)
    → before ++ joined_after first between (x ∷ xs) ≡ whole
    → apart ≡ before ++ cond first [] (between ∷ []) → now ≡ apart ++ x
    → now ++ joined_after false between xs ≡ whole
unfolding joined_after
part_put first between x xs before apart now whole so_far put_apart put =
    let gap = cond first [] (between ∷ []) in
    ap (λ text. text ++ behind between xs) (put ∙ ap (λ text. text ++ x) put_apart ∙ append_assoc before gap x)
    ∙ append_assoc before (gap ++ x) (behind between xs)
    ∙ ap (λ text. before ++ text) (sym (joined_after-cons first between x xs))
    ∙ so_far

-- nothing is left
pub all_put : (first : Bool) (between : ℕ) (before whole : List ℕ) → before ++ joined_after first between [] ≡ whole
    → before ≡ whole
unfolding joined_after behind
all_put true between before whole so_far = sym (append-nil before) ∙ so_far
all_put false between before whole so_far = sym (append-nil before) ∙ so_far
