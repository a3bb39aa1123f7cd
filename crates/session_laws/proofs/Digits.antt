-- The bytes of a decimal.
use Rattle.std.proofs.Common.{ℕ, zero, suc, ◌+◌, ◌<◌, ◌≤◌, ◌/◌, ◌%◌, false, ltb, List, [], ◌∷◌, sym, subst, arith}
use Rattle.store_spec.proofs.Common.{AllByRecursion, cond-true, cond_both, decimal, lt-ltb}
use Rattle.std.specs.Prelude.{◌==◌}
use Rattle.std.specs.Fmt.{digit_glyph, digits, digits_onto}

-- a byte that is a digit
abbrev pub IsDigit : ℕ → Type 0
IsDigit byte = (48 ≤ byte) × (byte ≤ 57)

-- bytes that are digits, one at least
abbrev pub AreDigits : List ℕ → Type 0
AreDigits [] = ⊥
AreDigits (byte ∷ bytes) = IsDigit byte × AllByRecursion IsDigit bytes

-- the digit of a number below ten
glyph_digit : (d : ℕ) → d < 10 → IsDigit (digit_glyph false d)
glyph_digit d small = subst IsDigit (sym (cond-true (ltb d 10) (48 + d) (87 + d) (lt-ltb d 10 small))) (omega arith, omega arith)

-- digits are put before others, one at least
put_digits : (k n : ℕ) (bytes : List ℕ) → AreDigits bytes → AreDigits (digits_onto k 10 false n bytes)
put_digits zero n bytes are = are
put_digits (suc k) n [] are = absurd are
put_digits (suc k) n (byte ∷ bytes) are =
    let last : IsDigit (digit_glyph false (n % 10)) = glyph_digit (n % 10) (omega arith) in
    cond_both (n / 10 == 0) (digit_glyph false (n % 10) ∷ byte ∷ bytes) (digits_onto k 10 false (n / 10) (digit_glyph false (n % 10) ∷ byte ∷ bytes)) AreDigits
    (λ done. (last, are)) (λ more. put_digits k (n / 10) (digit_glyph false (n % 10) ∷ byte ∷ bytes) (last, are))

-- a decimal is digits
pub decimal_digits : (n : ℕ) → AreDigits (decimal n)
unfolding digits
decimal_digits n =
    let last : IsDigit (digit_glyph false (n % 10)) = glyph_digit (n % 10) (omega arith) in
    cond_both (n / 10 == 0) (digit_glyph false (n % 10) ∷ []) (digits_onto 63 10 false (n / 10) (digit_glyph false (n % 10) ∷ [])) AreDigits
    (λ done. (last, tt)) (λ more. put_digits 63 (n / 10) (digit_glyph false (n % 10) ∷ []) (last, tt))
