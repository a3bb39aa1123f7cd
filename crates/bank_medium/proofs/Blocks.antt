-- Bytes that are the same up to a place, and from there on.
use Rattle.std.proofs.Common.{◌≡◌, ℕ, ◌+◌, ◌-◌, ◌++◌, List, length, take, drop, sym, ap, ◌∙◌, arith}
use Rattle.store_spec.proofs.Common.{length-drop, take-add, take-append-drop, take_all}

-- one block more
pub block_more : (at n j : ℕ) (one two : List ℕ) → j ≡ n → take at one ≡ take at two → take j (drop at one) ≡ take j (drop at two) → take (at + n) one ≡ take (at + n) two
block_more at n j one two is before block =
    ap (λ i. take (at + i) one) (sym is)
    ∙ take-add at j one
    ∙ ap (λ xs. xs ++ take j (drop at one)) before
    ∙ ap (λ xs. take at two ++ xs) block
    ∙ sym (take-add at j two)
    ∙ ap (λ i. take (at + i) two) is

-- all bytes from a place on
pub rest_of : (at : ℕ) (bytes : List ℕ) → take (length bytes - at) (drop at bytes) ≡ drop at bytes
rest_of at bytes = take_all (length bytes - at) (drop at bytes) (omega (arith, length-drop at bytes))

-- the rest
pub rest_too : (at : ℕ) (one two : List ℕ) → take at one ≡ take at two → take (length one - at) (drop at one) ≡ take (length two - at) (drop at two) → one ≡ two
rest_too at one two before rest =
    sym (take-append-drop at one)
    ∙ ap (λ xs. xs ++ drop at one) before
    ∙ ap (λ xs. take at two ++ xs) (sym (rest_of at one) ∙ rest ∙ rest_of at two)
    ∙ take-append-drop at two
