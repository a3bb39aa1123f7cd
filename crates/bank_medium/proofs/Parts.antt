-- Parts of a bank, as parts of the medium.
use Rattle.std.proofs.Common.{◌≡◌, ℕ, ◌+◌, ◌-◌, ◌≤◌, List, take, drop, sym, ◌∙◌, ap, arith}
use Rattle.store_spec.proofs.Common.{drop-drop, drop-take, slice_range, take-take}

-- a range within a range
pub within_range : (p n at k : ℕ) (xs : List ℕ) → at + k ≤ n → slice_range xs (p + at) (p + at + k) ≡ slice_range (slice_range xs p (p + n)) at (at + k)
within_range p n at k xs within =
    let whole : p + n - p ≡ at + (n - at) = omega arith in
    let long : p + at + k - (p + at) ≡ k = omega arith in
    let short : at + k - at ≡ k = omega arith in
    let few : k ≤ n - at = omega arith in
    ap (λ j. take j (drop (p + at) xs)) long
    ∙ ap (take k) (sym (drop-drop at p xs))
    ∙ sym (take-take k (n - at) (drop at (drop p xs)) few)
    ∙ ap (take k) (sym (drop-take at (n - at) (drop p xs)))
    ∙ ap (λ j. take k (drop at (take j (drop p xs)))) (sym whole)
    ∙ ap (λ j. take j (drop at (take (p + n - p) (drop p xs)))) (sym short)
