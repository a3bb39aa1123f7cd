-- Cells, and the places of the numbers in them.
use Rattle.std.proofs.Common.{◌≡◌, ◌≢◌, ℕ, ◌<◌, ◌≤◌, ⊎_elim, List, get_or, sym, ◌∙◌, arith}
use Rattle.store_spec.proofs.Common.{IsOrdered, cases_order}
use Rattle.layout_def.proofs.OrderedCells.{above_before}

-- ---- ordered cells

-- no number stands after itself
not_later : (home : ℕ → ℕ) (cells : List ℕ) (i j : ℕ) → IsOrdered home cells → get_or cells i 0 ≢ 0
    → get_or cells i 0 ≡ get_or cells j 0 → i < j → ⊥
not_later home cells i j ordered some same before =
    let v = get_or cells i 0 in
    let from : home v ≤ i = ordered.from_home i some in
    let less : v < get_or cells i 0 = above_before home cells v j i ordered some (sym same) from before in
    omega arith

pub stands_once : (home : ℕ → ℕ) (cells : List ℕ) (i j : ℕ) → IsOrdered home cells → get_or cells i 0 ≢ 0
    → get_or cells i 0 ≡ get_or cells j 0 → i ≡ j
stands_once home cells i j ordered some same = ⊎_elim
    (λ (equal : i ≡ j). equal)
    (λ other. ⊎_elim
    (λ (before : i < j). absurd (not_later home cells i j ordered some same before))
    (λ (after : j < i). absurd (not_later home cells j i ordered (λ z. some (same ∙ z)) (sym same) after))
    other)
    (cases_order i j)

-- ---- numbers in the order of their cells
