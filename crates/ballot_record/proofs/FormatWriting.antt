-- What stands in a cell after its number, its style and its mark sets are written, one after another.
use Rattle.std.proofs.Common.{◌≡◌, ℕ, ◌-◌, ◌≤◌, List, [], ◌∷◌, ◌++◌, length, get_or, drop, ap, sym, ◌∙◌, arith, append_assoc, length-append, length-drop}
use Rattle.std.proofs.lemmas.List.{drop_more, set_at, take_at, drop_at, drop_all, append-nil}
use Rattle.std.proofs.Math.ListN.{set}
use borrow.Rule.Slice.PartMut.{put_mid}

numbered : (number out : List ℕ) (style : ℕ) → length number ≡ 8 → 9 ≤ length out → set (number ++ drop 8 out) 8 style ≡ (number ++ style ∷ []) ++ drop 9 out
numbered number out style eight room =
    ap (λ rest. set (number ++ rest) 8 style) (drop_more out 8 0 (omega arith)) ∙ set_at number (get_or out 8 0) (drop 9 out) style 8 eight
    ∙ sym (append_assoc number (style ∷ []) (drop 9 out))

marked : (front rest marks : List ℕ) → length front ≡ 9 → put_mid 9 (length rest) (front ++ rest) marks ≡ front ++ marks
marked front rest marks nine =
    ap (λ before. before ++ (marks ++ drop (length rest) (drop 9 (front ++ rest)))) (take_at front rest 9 nine)
    ∙ ap (λ after. front ++ (marks ++ after)) (ap (λ xs. drop (length rest) xs) (drop_at front rest 9 nine) ∙ drop_all (length rest) rest (omega arith))
    ∙ ap (λ after. front ++ after) (append-nil marks)

pub cell_written : (number out marks : List ℕ) (style n : ℕ) → length number ≡ 8 → 9 ≤ length out → n ≡ length out - 9 → put_mid 9 n (set (number ++ drop 8 out) 8 style) marks ≡ (number ++ style ∷ []) ++ marks
cell_written number out marks style n eight room size =
    let rest : n ≡ length (drop 9 out) = size ∙ sym (length-drop 9 out) in
    let nine : length (number ++ style ∷ []) ≡ 9 = omega (arith, length-append number (style ∷ []), eight) in
    ap (λ cell. put_mid 9 n cell marks) (numbered number out style eight room) ∙ ap (λ k. put_mid 9 k ((number ++ style ∷ []) ++ drop 9 out) marks) rest
    ∙ marked (number ++ style ∷ []) (drop 9 out) marks nine
