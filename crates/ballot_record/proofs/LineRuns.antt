-- A number goes on with a run of digits as with one after another.
use Rattle.std.proofs.Common.{◌≡◌, ◌≢◌, ℕ, ◌+◌, ◌-◌, ◌*◌, ◌<◌, ◌≤◌, cond, ◌⊎◌, inl, inr, Bool, true, ◌&&◌, List, [], ◌∷◌, length, get_or, drop, Option, Some, None, refl, sym, ap, subst₂, ◌∙◌, arith}
use Rattle.store_spec.proofs.Common.{and_parts, eq-eqb, none-some, option_and_then_some, some_pair_parts}
use Rattle.std.specs.Char.{is_ascii_digit}
use Rattle.ballot_record.specs.LineReading.{digits_at, four_at, eight_at}
use Rattle.ballot_record.proofs.LineGroups.{option_map_some}
use Rattle.ballot_record.proofs.LineNumbers.{chosen, digit_again, digit_bounds}
use Rattle.ballot_record.proofs.LineSets.{rest_past}

-- a digit, as a number
record IsDigit (byte : ℕ) : Type 0 where
  low : 48 ≤ byte
  high : byte ≤ 57

digit_on : (limit value byte : ℕ) (bytes : List ℕ) → IsDigit byte → 1 ≤ value * 10 + (byte - 48) → value * 10 + 9 ≤ limit → digits_at limit value (byte ∷ bytes) ≡ digits_at limit (value * 10 + (byte - 48)) bytes
digit_on limit value byte bytes is some within =
    let same : 48 + (byte - 48) ≡ byte = omega (arith, is.low) in
    ap (λ byte. digits_at limit value (byte ∷ bytes)) (sym same)
    ∙ digit_again limit value (byte - 48) bytes (omega (arith, is.low, is.high)) some (omega (arith, is.high))

-- a digit stands first, and what comes behind it is something
digit_first : {A : Type 0} (byte : ℕ) (o : Option A) (x : A) → cond (is_ascii_digit byte) o None ≡ Some x → IsDigit byte × (o ≡ Some x)
digit_first byte o x e =
    elim (chosen (is_ascii_digit byte) o None (Some x) e) [
      | inl is ↦ let bounds = digit_bounds byte is.0 in (record { low = bounds.0; high = bounds.1 }, is.1)
      | inr none ↦ absurd (none-some x none.1)
    ]

not_zero : (byte : ℕ) (bytes : List ℕ) → None ≡ rest_past 48 (byte ∷ bytes) → byte ≢ 48
not_zero byte bytes none zero =
    let some : rest_past 48 (byte ∷ bytes) ≡ Some bytes = rw (eq-eqb byte 48 zero) refl in
    none-some bytes (none ∙ some)

-- there is a number, with the digit that stands first
starts : (value byte : ℕ) (bytes : List ℕ) → IsDigit byte → (None ≡ rest_past 48 (byte ∷ bytes)) ⊎ (1 ≤ value) → 1 ≤ value * 10 + (byte - 48)
starts value byte bytes is (inl none) = let other = not_zero byte bytes none in omega (arith, is.low, other)
starts value byte bytes is (inr some) = omega (arith, some)

-- a run of digits was read, which is below this power of 10
pub record GoesOn (power limit value : ℕ) (bytes : List ℕ) (number : ℕ) (rest : List ℕ) : Type 0 where
  pub small : number < power
  pub some : 1 ≤ value * power + number
  pub goes_on : digits_at limit (value * power + number) rest ≡ digits_at limit value bytes

pub four_on : (limit value : ℕ) (bytes : List ℕ) (four : ℕ) (rest : List ℕ) → four_at bytes ≡ Some (four, rest) → (None ≡ rest_past 48 bytes) ⊎ (1 ≤ value) → value * 10000 + 9999 ≤ limit → GoesOn 10000 limit value bytes four rest
unfolding four_at
four_on limit value [] four rest e some within = absurd (none-some (four, rest) e)
four_on limit value (a ∷ []) four rest e some within = absurd (none-some (four, rest) e)
four_on limit value (a ∷ b ∷ []) four rest e some within = absurd (none-some (four, rest) e)
four_on limit value (a ∷ b ∷ c ∷ []) four rest e some within = absurd (none-some (four, rest) e)
four_on limit value (a ∷ b ∷ c ∷ d ∷ bytes) four rest e some within =
    let first = digit_first a _ (four, rest) e in
    let second = digit_first b _ (four, rest) first.1 in
    let third = digit_first c _ (four, rest) second.1 in
    let fourth = digit_first d _ (four, rest) third.1 in
    let sum : ℕ = ((a - 48) * 10 + (b - 48)) * 100 + ((c - 48) * 10 + (d - 48)) in
    let parts = some_pair_parts sum four bytes rest fourth.1 in
    let begun = starts value a (b ∷ c ∷ d ∷ bytes) first.0 some in
    let v1 : ℕ = value * 10 + (a - 48) in
    let v2 : ℕ = v1 * 10 + (b - 48) in
    let v3 : ℕ = v2 * 10 + (c - 48) in
    let all : value * 10000 + sum ≡ v3 * 10 + (d - 48) = omega arith in
    let P : ℕ → List ℕ → Type 0 = λ four rest. GoesOn 10000 limit value (a ∷ b ∷ c ∷ d ∷ bytes) four rest in
    subst₂ P parts.0 parts.1 (record {
      small = omega (arith, first.0.high, second.0.high, third.0.high, fourth.0.high);
      some = omega (arith, begun);
      goes_on = sym (
          digit_on limit value a (b ∷ c ∷ d ∷ bytes) first.0 begun (omega arith)
          ∙ digit_on limit v1 b (c ∷ d ∷ bytes) second.0 (omega (arith, begun)) (omega (arith, first.0.high))
          ∙ digit_on limit v2 c (d ∷ bytes) third.0 (omega (arith, begun)) (omega (arith, first.0.high, second.0.high))
          ∙ digit_on limit v3 d bytes fourth.0 (omega (arith, begun)) (omega (arith, first.0.high, second.0.high, third.0.high))
          ∙ ap (λ value. digits_at limit value bytes) (sym all));
    })

pub eight_on : (limit value : ℕ) (bytes : List ℕ) (eight : ℕ) (rest : List ℕ) → eight_at bytes ≡ Some (eight, rest) → (None ≡ rest_past 48 bytes) ⊎ (1 ≤ value) → value * 100000000 + 99999999 ≤ limit → GoesOn 100000000 limit value bytes eight rest
unfolding eight_at
eight_on limit value bytes eight rest e some within =
    option_and_then_some _ (four_at bytes) (eight, rest) e (λ high high_is goes_on.
    let low = option_map_some (λ (low : ℕ × List ℕ). (high.0 * 10000 + low.0, low.1)) (four_at high.1) (eight, rest) goes_on in
    let begun = four_on limit value bytes high.0 high.1 high_is some (omega (arith, within)) in
    let ended = four_on limit (value * 10000 + high.0) high.1 low.0.0 low.0.1 low.1 (inr begun.some) (omega (arith, within, begun.small)) in
    let parts = some_pair_parts (high.0 * 10000 + low.0.0) eight low.0.1 rest (ap (λ (x : ℕ × List ℕ). Some x) low.2) in
    let sum : value * 100000000 + (high.0 * 10000 + low.0.0) ≡ (value * 10000 + high.0) * 10000 + low.0.0 = omega arith in
    let P : ℕ → List ℕ → Type 0 = λ eight rest. GoesOn 100000000 limit value bytes eight rest in
    subst₂ P parts.0 parts.1 (record {
      small = omega (arith, begun.small, ended.small);
      some = omega (arith, ended.some);
      goes_on = ap (λ n. digits_at limit n low.0.1) sum ∙ ended.goes_on ∙ begun.goes_on;
    }))

-- ---- what eight bytes count, each as its code

codes_of_four : (a b c d : ℕ) → 48 ≤ a → 48 ≤ b → 48 ≤ c → 48 ≤ d → (a * 10 + b) * 100 + (c * 10 + d) ≡ ((a - 48) * 10 + (b - 48)) * 100 + ((c - 48) * 10 + (d - 48)) + 53328
codes_of_four a b c d of_a of_b of_c of_d = omega (arith, of_a, of_b, of_c, of_d)

eight_codes : (high low high_number low_number : ℕ) → high ≡ high_number + 53328 → low ≡ low_number + 53328 → high * 10000 + low ≡ high_number * 10000 + low_number + 533333328
eight_codes high low high_number low_number h l = omega (arith, h, l)

taken_back : (codes number less : ℕ) → codes ≡ number + less → number ≡ codes - less
taken_back codes number less e = omega (arith, e)

high_enough : (codes number less : ℕ) → codes ≡ number + less → less ≤ codes
high_enough codes number less e = omega (arith, e)

abbrev pub codes_of_eight : List ℕ → ℕ
codes_of_eight bytes =
    ((get_or bytes 0 0 * 10 + get_or bytes 1 0) * 100 + (get_or bytes 2 0 * 10 + get_or bytes 3 0)) * 10000 + ((get_or bytes 4 0 * 10 + get_or bytes 5 0) * 100 + (get_or bytes 6 0 * 10 + get_or bytes 7 0))

abbrev pub are_eight : List ℕ → Bool
are_eight bytes =
    is_ascii_digit (get_or bytes 0 0) && is_ascii_digit (get_or bytes 1 0) && is_ascii_digit (get_or bytes 2 0) && is_ascii_digit (get_or bytes 3 0) && is_ascii_digit (get_or bytes 4 0) && is_ascii_digit (get_or bytes 5 0) && is_ascii_digit (get_or bytes 6 0) && is_ascii_digit (get_or bytes 7 0)

-- eight digits stand first
pub record EightHere (bytes : List ℕ) : Type 0 where
  pub high_enough : 533333328 ≤ codes_of_eight bytes
  pub number : eight_at bytes ≡ Some (codes_of_eight bytes - 533333328, drop 8 bytes)

pub eight_here : (bytes : List ℕ) → 8 ≤ length bytes → are_eight bytes ≡ true → EightHere bytes
unfolding eight_at four_at
eight_here [] long all = absurd (omega (arith, long))
eight_here (a ∷ []) long all = absurd (omega (arith, long))
eight_here (a ∷ b ∷ []) long all = absurd (omega (arith, long))
eight_here (a ∷ b ∷ c ∷ []) long all = absurd (omega (arith, long))
eight_here (a ∷ b ∷ c ∷ d ∷ []) long all = absurd (omega (arith, long))
eight_here (a ∷ b ∷ c ∷ d ∷ e ∷ []) long all = absurd (omega (arith, long))
eight_here (a ∷ b ∷ c ∷ d ∷ e ∷ f ∷ []) long all = absurd (omega (arith, long))
eight_here (a ∷ b ∷ c ∷ d ∷ e ∷ f ∷ g ∷ []) long all = absurd (omega (arith, long))
eight_here (a ∷ b ∷ c ∷ d ∷ e ∷ f ∷ g ∷ h ∷ bytes) long all =
    let to_h = and_parts (is_ascii_digit a && is_ascii_digit b && is_ascii_digit c && is_ascii_digit d && is_ascii_digit e && is_ascii_digit f && is_ascii_digit g) (is_ascii_digit h) all in
    let to_g = and_parts (is_ascii_digit a && is_ascii_digit b && is_ascii_digit c && is_ascii_digit d && is_ascii_digit e && is_ascii_digit f) (is_ascii_digit g) to_h.0 in
    let to_f = and_parts (is_ascii_digit a && is_ascii_digit b && is_ascii_digit c && is_ascii_digit d && is_ascii_digit e) (is_ascii_digit f) to_g.0 in
    let to_e = and_parts (is_ascii_digit a && is_ascii_digit b && is_ascii_digit c && is_ascii_digit d) (is_ascii_digit e) to_f.0 in
    let to_d = and_parts (is_ascii_digit a && is_ascii_digit b && is_ascii_digit c) (is_ascii_digit d) to_e.0 in
    let to_c = and_parts (is_ascii_digit a && is_ascii_digit b) (is_ascii_digit c) to_d.0 in
    let to_b = and_parts (is_ascii_digit a) (is_ascii_digit b) to_c.0 in
    let high = codes_of_four a b c d (digit_bounds a to_b.0).0 (digit_bounds b to_b.1).0 (digit_bounds c to_c.1).0 (digit_bounds d to_d.1).0 in
    let low = codes_of_four e f g h (digit_bounds e to_e.1).0 (digit_bounds f to_f.1).0 (digit_bounds g to_g.1).0 (digit_bounds h to_h.1).0 in
    let codes : codes_of_eight (a ∷ b ∷ c ∷ d ∷ e ∷ f ∷ g ∷ h ∷ bytes) ≡ (((a - 48) * 10 + (b - 48)) * 100 + ((c - 48) * 10 + (d - 48))) * 10000 + (((e - 48) * 10 + (f - 48)) * 100 + ((g - 48) * 10 + (h - 48))) + 533333328 = eight_codes _ _ _ _ high low in
    record {
      high_enough = high_enough _ _ _ codes;
      number = rw (to_b.0, to_b.1, to_c.1, to_d.1, to_e.1, to_f.1, to_g.1, to_h.1) (ap (λ n. Some (n, bytes)) (taken_back _ _ _ codes));
    }
