-- The cells of an image, of which a sink takes one page after another.
use Rattle.std.proofs.Common.{◌≡◌, ℕ, zero, suc, ◌+◌, ◌*◌, ◌<◌, ◌≤◌, List, [], ◌∷◌, ◌++◌, take, drop, get_or, length, replicate, Option, refl, sym, ap, ap₂, subst, ◌∙◌, arith}
use Rattle.store_spec.proofs.Common.{drop-drop, flat_map, flat_map-append, get_or-drop, length-drop, take-append-drop, take_more}
use Rattle.std.proofs.lemmas.List.{replicate_more}
use Rattle.body_store.proofs.Images.{pieces_of_one}
use Rattle.outside_io.proofs.Written.{IsWritten, more_gathered}

-- the bytes of the next cells and of those behind them
next_cells : (f : ℕ → List ℕ) (cells : List ℕ) (at count : ℕ)
    → flat_map f (drop at cells) ≡ flat_map f (take count (drop at cells)) ++ flat_map f (drop (at + count) cells)
next_cells f cells at count =
    let rest = drop at cells in
    ap (flat_map f) (sym (take-append-drop count rest))
    ∙ flat_map-append f (take count rest) (drop count rest)
    ∙ ap (λ (left : List ℕ). flat_map f (take count rest) ++ flat_map f left) (drop-drop count at cells)

-- the next cells were gathered
pub cells_gathered : (f : ℕ → List ℕ) (cells : List ℕ) (at count : ℕ) (before now : Option (List ℕ)) (gathered more whole : List ℕ)
    → IsWritten before now gathered (flat_map f (drop at cells)) whole
    → more ≡ gathered ++ flat_map f (take count (drop at cells))
    → IsWritten before now more (flat_map f (drop (at + count) cells)) whole
cells_gathered f cells at count before now gathered more whole written is =
    more_gathered before now gathered more (flat_map f (take count (drop at cells))) (flat_map f (drop (at + count) cells)) whole
    (subst (λ left. IsWritten before now gathered left whole) (next_cells f cells at count) written) is

zeros_from : (cells : List ℕ) (at count : ℕ) → at + count ≤ length cells
    → ((k : ℕ) → at ≤ k → k < at + count → get_or cells k 0 ≡ 0) → take count (drop at cells) ≡ replicate count 0
zeros_from cells at zero within empty = refl
zeros_from cells at (suc count) within empty =
    let rest = drop at cells in
    let last : get_or rest count 0 ≡ 0 = get_or-drop at cells count 0 ∙ empty (at + count) (omega arith) (omega arith) in
    let next : suc count ≡ count + 1 = omega arith in
    ap (λ n. take n rest) next
    ∙ take_more rest count 0 (omega (arith, length-drop at cells))
    ∙ ap₂ (λ (front : List ℕ) x. front ++ x ∷ []) (zeros_from cells at count (omega arith) (λ k from below. empty k from (omega arith))) last
    ∙ replicate_more count 0
    ∙ ap (λ n. replicate n 0) (sym next)

-- the bytes of so many empty cells
pub empty_cells : (f : ℕ → List ℕ) (size : ℕ) (cells : List ℕ) (at count : ℕ) → f 0 ≡ replicate size 0 → at + count ≤ length cells
    → ((k : ℕ) → at ≤ k → k < at + count → get_or cells k 0 ≡ 0)
    → flat_map f (take count (drop at cells)) ≡ replicate (count * size) 0
empty_cells f size cells at count blank within empty =
    ap (flat_map f) (zeros_from cells at count within empty) ∙ pieces_of_one f size 0 count blank
