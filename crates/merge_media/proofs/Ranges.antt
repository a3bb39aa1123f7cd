-- Parts of a list.
use Rattle.std.proofs.Common.{◌≡◌, ℕ, ◌+◌, ◌-◌, ◌<◌, ◌≤◌, List, [], ◌∷◌, ◌++◌, length, get_or, take, drop, sym, ap, ◌∙◌, arith}
use Rattle.store_spec.proofs.Common.{append-nil, drop-drop, drop_all, get_or-drop, length-drop, slice_range, take-append-drop, take_more}

pub range_none : {X : Type 0} (xs : List X) (from : ℕ) → slice_range xs from from ≡ []
range_none xs from = ap (λ n. take n (drop from xs)) (let e : from - from ≡ 0 = omega arith in e)

pub range_more : {X : Type 0} (xs : List X) (from at : ℕ) (d : X) → from ≤ at → at < length xs
    → slice_range xs from (at + 1) ≡ slice_range xs from at ++ get_or xs at d ∷ []
range_more xs from at d le lt =
    ap (λ n. take n (drop from xs)) (let e : at + 1 - from ≡ (at - from) + 1 = omega arith in e)
    ∙ take_more (drop from xs) (at - from) d (omega (arith, length-drop from xs))
    ∙ ap (λ b. take (at - from) (drop from xs) ++ b ∷ [])
    (get_or-drop from xs (at - from) d ∙ ap (λ n. get_or xs n d) (let e : from + (at - from) ≡ at = omega arith in e))

-- a part, and what stands behind it
pub range_rest : {X : Type 0} (xs : List X) (from end : ℕ) → from ≤ end → slice_range xs from end ++ drop end xs ≡ drop from xs
range_rest xs from end le =
    ap (λ n. take (end - from) (drop from xs) ++ drop n xs) (let e : end ≡ from + (end - from) = omega arith in e)
    ∙ ap (λ ys. take (end - from) (drop from xs) ++ ys) (sym (drop-drop (end - from) from xs))
    ∙ take-append-drop (end - from) (drop from xs)

pub range_end : {X : Type 0} (xs : List X) (from : ℕ) → from ≤ length xs → slice_range xs from (length xs) ≡ drop from xs
range_end xs from le =
    sym (append-nil (slice_range xs from (length xs)))
    ∙ ap (λ ys. slice_range xs from (length xs) ++ ys) (sym (drop_all (length xs) xs (omega arith)))
    ∙ range_rest xs from (length xs) le
