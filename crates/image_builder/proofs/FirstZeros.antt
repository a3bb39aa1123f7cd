-- Zeros at the front of bytes.
use Rattle.std.proofs.Common.{◌≡◌, ℕ, ◌+◌, ◌-◌, ◌<◌, ◌≤◌, ⊎_elim, List, length, get_or, take, drop, replicate, sym, ap, ◌∙◌, arith}
use Rattle.store_spec.proofs.Common.{cases_lt, ext_get_or, get_or-drop, get_or-replicate, get_or-take, length-drop, length-replicate, length-take, length-take-le}

-- each of the first bytes is 0
pub zeros_front : (bytes : List ℕ) (n : ℕ) → n ≤ length bytes → ((k : ℕ) → k < n → get_or bytes k 0 ≡ 0) → take n bytes ≡ replicate n 0
zeros_front bytes n within zeros =
    let long : length (take n bytes) ≡ n = length-take-le n bytes within in
    ext_get_or 0 (take n bytes) (replicate n 0) (long ∙ sym (length-replicate n 0))
    (λ k lt. let less : k < n = omega (arith, long) in get_or-take n bytes k 0 less ∙ zeros k less ∙ sym (get_or-replicate n k 0 0 less))

-- bytes of a part that are 0, where the part begins among those known to be 0, or at their end
pub zeros_on : (bytes : List ℕ) (zeros start end : ℕ) → start ≤ zeros → end ≤ length bytes → ((k : ℕ) → k < zeros → get_or bytes k 0 ≡ 0)
    → ((k : ℕ) → k < length (take (end - start) (drop start bytes)) → get_or (take (end - start) (drop start bytes)) k 0 ≡ 0) → (k : ℕ) → k < end → get_or bytes k 0 ≡ 0
zeros_on bytes zeros start end begins within before part k lt = ⊎_elim
    (λ (known : k < zeros). before k known)
    (λ (behind : zeros ≤ k).
    let i = k - start in
    let less : i < end - start = omega arith in
    let long : length (take (end - start) (drop start bytes)) ≡ end - start = length-take-le (end - start) (drop start bytes) (omega (arith, length-drop start bytes)) in
    let at : start + i ≡ k = omega arith in
    ap (λ k. get_or bytes k 0) (sym at) ∙ sym (get_or-drop start bytes i 0) ∙ sym (get_or-take (end - start) (drop start bytes) i 0 less) ∙ part i (omega (arith, long)))
    (cases_lt k zeros)

-- a part of bytes that are all 0
pub zeros_within : (bytes : List ℕ) (start end : ℕ) → end ≤ length bytes → bytes ≡ replicate (length bytes) 0
    → (k : ℕ) → k < length (take (end - start) (drop start bytes)) → get_or (take (end - start) (drop start bytes)) k 0 ≡ 0
zeros_within bytes start end within zeros k less =
    let long : length (take (end - start) (drop start bytes)) ≤ end - start = omega (arith, length-take (end - start) (drop start bytes)) in
    get_or-take (end - start) (drop start bytes) k 0 (omega (arith, long))
    ∙ get_or-drop start bytes k 0
    ∙ ap (λ bytes. get_or bytes (start + k) 0) zeros
    ∙ get_or-replicate (length bytes) (start + k) 0 0 (omega (arith, long))
