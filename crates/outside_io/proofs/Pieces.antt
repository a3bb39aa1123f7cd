-- What a read of a piece leaves.
use Rattle.std.proofs.Common.{◌≡◌, ℕ, ◌+◌, ◌-◌, ◌≤◌, List, ◌++◌, length, take, drop, ap, sym, ◌∙◌, arith, take-append-drop}
use Rattle.store_spec.proofs.Common.{drop-drop, length-drop, length-take-le, take_at}

-- the bytes from a place on are those of a piece and those behind it
pub piece_given : (bytes buf piece : List ℕ) (at count : ℕ) → at + count ≤ length bytes → piece ≡ take (at + count - at) (drop at bytes) → drop at bytes ≡ take count (piece ++ drop count buf) ++ drop (at + count) bytes
piece_given bytes buf piece at count within is =
    let counted : at + count - at ≡ count = omega arith in
    let copied : piece ≡ take count (drop at bytes) = is ∙ ap (λ n. take n (drop at bytes)) counted in
    let whole : length piece ≡ count = ap length copied ∙ length-take-le count (drop at bytes) (omega (arith, length-drop at bytes)) in
    sym (ap (λ front. front ++ drop (at + count) bytes) (take_at piece (drop count buf) count whole ∙ copied)
    ∙ ap (λ rest. take count (drop at bytes) ++ rest) (sym (drop-drop count at bytes)) ∙ take-append-drop count (drop at bytes))
