-- Parts of lines, which hold no line end.
use Rattle.std.proofs.Common.{◌≡◌, ◌==◌, ◌||◌, ℕ, zero, suc, ◌+◌, ◌<◌, ◌/◌, ◌%◌, Bool, true, false, List, [], ◌∷◌, ◌++◌, map, cond, refl, ap, ◌∙◌, arith}
use Rattle.store_spec.proofs.Common.{decimal, join_with_byte, list_any, list_any-append}
use Rattle.std.specs.Fmt.{digit_glyph, digits, digits_onto}
use Rattle.phase_gate.specs.Writing.{HasNoEnd}

-- two parts are one
pub no_end_both : (front rest : List ℕ) → HasNoEnd front → HasNoEnd rest → HasNoEnd (front ++ rest)
no_end_both front rest a b = list_any-append (λ byte. byte == 10) front rest ∙ rw (a, b) refl

-- the first byte is no line end, nor one of the rest
pub no_end_parts : (byte : ℕ) (rest : List ℕ) → HasNoEnd (byte ∷ rest) → ((byte == 10) ≡ false) × HasNoEnd rest
no_end_parts byte rest none = both (byte == 10) (list_any (λ byte. byte == 10) rest) none
  where
    both : (a b : Bool) → (a || b) ≡ false → (a ≡ false) × (b ≡ false)
    both true b is = absurd (cc)
    both false b is = (refl, is)

-- parts with a byte between each two
pub no_end_joined : {X : Type 0} (byte : ℕ) → (byte == 10) ≡ false → (f : X → List ℕ) → ((x : X) → HasNoEnd (f x))
    → (xs : List X) → HasNoEnd (join_with_byte byte (map f xs))
no_end_joined byte is f part [] = refl
no_end_joined byte is f part (x ∷ []) = part x
no_end_joined byte is f part (x ∷ y ∷ xs) =
    no_end_both (f x) (byte ∷ join_with_byte byte (map f (y ∷ xs))) (part x)
    (ap (λ test. test || list_any (λ b. b == 10) (join_with_byte byte (map f (y ∷ xs)))) is ∙ no_end_joined byte is f
    part (y ∷ xs))

-- a first digit, and bytes behind it
pub record IsNumeral (text : List ℕ) : Type 0 where
  pub digit : ℕ
  pub rest : List ℕ
  pub small : digit < 10
  pub no_end : HasNoEnd rest
  pub is : text ≡ (48 + digit) ∷ rest

digit_no_end : (d : ℕ) → d < 10 → ((48 + d) == 10) ≡ false
digit_no_end d small = grind arith

pub numeral_no_end : (text : List ℕ) → IsNumeral text → HasNoEnd text
numeral_no_end text n =
    ap (list_any (λ byte. byte == 10)) n.is ∙ ap (λ test. test || list_any (λ byte. byte == 10) n.rest)
    (digit_no_end n.digit n.small) ∙ n.no_end

glyph : (d : ℕ) → d < 10 → digit_glyph false d ≡ 48 + d
glyph d small = grind arith

digits_numeral : (k n : ℕ) (more : List ℕ) → IsNumeral more → IsNumeral (digits_onto k 10 false n more)
digits_numeral zero n more is = is
digits_numeral (suc k) n more is =
    let next : IsNumeral (digit_glyph false (n % 10) ∷ more) = record {
      digit = n % 10;
      rest = more;
      small = omega arith;
      no_end = numeral_no_end more is;
      is = ap (λ d. d ∷ more) (glyph (n % 10) (omega arith));
    } in
    at (n / 10 == 0) next (digits_numeral k (n / 10) (digit_glyph false (n % 10) ∷ more) next)
  where
    at : (last : Bool) {a b : List ℕ} → IsNumeral a → IsNumeral b → IsNumeral (cond last a b)
    at true a b = a
    at false a b = b

-- a decimal is a numeral
pub decimal_numeral : (n : ℕ) → IsNumeral (decimal n)
unfolding digits
decimal_numeral n = at (n / 10 == 0) first (digits_numeral 63 (n / 10) (digit_glyph false (n % 10) ∷ []) first)
  where
    first : IsNumeral (digit_glyph false (n % 10) ∷ [])
    first = record {
      digit = n % 10;
      rest = [];
      small = omega arith;
      no_end = refl;
      is = ap (λ d. d ∷ []) (glyph (n % 10) (omega arith));
    }

    at : (last : Bool) {a b : List ℕ} → IsNumeral a → IsNumeral b → IsNumeral (cond last a b)
    at true a b = a
    at false a b = b

pub decimal_no_end : (n : ℕ) → HasNoEnd (decimal n)
decimal_no_end n = numeral_no_end (decimal n) (decimal_numeral n)
