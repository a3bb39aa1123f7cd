-- What is read as a number is spelled so, and what is spelled so is read.
use Rattle.std.proofs.Common.{◌≡◌, ℕ, ◌+◌, ◌-◌, ◌*◌, ◌/◌, ◌%◌, ◌^◌, ◌<◌, ◌≤◌, Bool, true, false, cond, eqb, ltb, leb, ◌⊎◌, inl, inr, List, [], ◌∷◌, ◌++◌, Option, Some, None, refl, sym, ap, subst₂, ◌∙◌, append_assoc, arith}
use Rattle.store_spec.proofs.Common.{and_from, and_parts, decimal, eqb-false, le-leb, le-ltb, leb-true, ne_eqb, none-some, some_pair_parts}
use Rattle.std.specs.Char.{is_ascii_digit}
use Rattle.std.proofs.lemmas.Bool.{ltb-false}
use Rattle.std.proofs.lemmas.Fmt.{decimal_digit, decimal_step, decimal_by_steps}
use Rattle.ballot_record.specs.LineReading.{digits_at}

-- which way a test went
pub chosen : {A : Type 0} (b : Bool) (x y z : A) → cond b x y ≡ z → ((b ≡ true) × (x ≡ z)) ⊎ ((b ≡ false) × (y ≡ z))
chosen true x y z e = inl (refl, e)
chosen false x y z e = inr (refl, e)

-- no digit stands first
abbrev pub StopsDigits : List ℕ → Type 0
StopsDigits [] = Unit {0}
StopsDigits (byte ∷ bytes) = is_ascii_digit byte ≡ false

pub digit_bounds : (byte : ℕ) → is_ascii_digit byte ≡ true → (48 ≤ byte) × (byte ≤ 57)
digit_bounds byte is = let both = and_parts (leb 48 byte) (leb byte 57) is in (leb-true 48 byte both.0, leb-true byte 57 both.1)

decimal_longer : (n digit : ℕ) → 1 ≤ n → digit < 10 → n * 10 + digit < 2 ^ 64 → decimal (n * 10 + digit) ≡ decimal n ++ (48 + digit) ∷ []
decimal_longer n digit some small fits =
    let high : (n * 10 + digit) / 10 ≡ n = omega arith in
    let low : (n * 10 + digit) % 10 ≡ digit = omega arith in
    decimal_step (n * 10 + digit) (omega arith) fits ∙ rw (high, low) refl

-- a number at the front, which goes on as far as it can
pub record IsNumberAt (limit : ℕ) (bytes : List ℕ) (n : ℕ) (rest : List ℕ) : Type 0 where
  pub spelled : bytes ≡ decimal n ++ rest
  pub some : 1 ≤ n
  pub within : n ≤ limit

-- one more digit was read
record Grows (limit value byte : ℕ) (bytes : List ℕ) (n : ℕ) (rest : List ℕ) : Type 0 where
  low : 48 ≤ byte
  high : byte ≤ 57
  some : 1 ≤ value * 10 + (byte - 48)
  within : value * 10 + (byte - 48) ≤ limit
  goes_on : digits_at limit (value * 10 + (byte - 48)) bytes ≡ Some (n, rest)

digit_grows : (limit value byte : ℕ) (bytes : List ℕ) (n : ℕ) (rest : List ℕ) → is_ascii_digit byte ≡ true
    → cond (eqb (value * 10 + (byte - 48)) 0) None (cond (ltb limit (value * 10 + (byte - 48))) None (digits_at limit (value * 10 + (byte - 48)) bytes)) ≡ Some (n, rest)
    → Grows limit value byte bytes n rest
digit_grows limit value byte bytes n rest is e =
    let m = value * 10 + (byte - 48) in
    elim (chosen (eqb m 0) None (cond (ltb limit m) None (digits_at limit m bytes)) (Some (n, rest)) e) [
      | inl none ↦ absurd (none-some (n, rest) none.1)
      | inr some ↦
          elim (chosen (ltb limit m) None (digits_at limit m bytes) (Some (n, rest)) some.1) [
            | inl much ↦ absurd (none-some (n, rest) much.1)
            | inr goes_on ↦ record {
              low = (digit_bounds byte is).0;
              high = (digit_bounds byte is).1;
              some = omega (arith, eqb-false m 0 some.0);
              within = ltb-false limit m goes_on.0;
              goes_on = goes_on.1;
            }
          ]
    ]

abbrev number_or_none : ℕ → List ℕ → Option (ℕ × List ℕ)
number_or_none value bytes = cond (eqb value 0) None (Some (value, bytes))

number_ends : (limit value : ℕ) (bytes : List ℕ) (n : ℕ) (rest : List ℕ) → 1 ≤ value → value ≤ limit → StopsDigits bytes
    → number_or_none value bytes ≡ Some (n, rest) → IsNumberAt limit (decimal value ++ bytes) n rest
number_ends limit value bytes n rest some within stops e =
    elim (chosen (eqb value 0) None (Some (value, bytes)) (Some (n, rest)) e) [
      | inl none ↦ absurd (none-some (n, rest) none.1)
      | inr same ↦
          let parts = some_pair_parts value n bytes rest same.1 in
          let P : ℕ → List ℕ → Type 0 = λ n rest. IsNumberAt limit (decimal value ++ bytes) n rest in
          subst₂ P parts.0 parts.1 (record { spelled = refl; some = some; within = within })
    ]

number_goes_on : (limit : ℕ) → limit < 2 ^ 64 → (value : ℕ) (bytes : List ℕ) (n : ℕ) (rest : List ℕ) → 1 ≤ value → value ≤ limit → digits_at limit value bytes ≡ Some (n, rest) → IsNumberAt limit (decimal value ++ bytes) n rest
unfolding digits_at
number_goes_on limit short value [] n rest some within e = number_ends limit value [] n rest some within tt e
number_goes_on limit short value (byte ∷ bytes) n rest some within e =
    let m = value * 10 + (byte - 48) in
    elim (chosen (is_ascii_digit byte) _ _ (Some (n, rest)) e) [
      | inl digit ↦
          let grown = digit_grows limit value byte bytes n rest digit.0 digit.1 in
          let at = number_goes_on limit short m bytes n rest grown.some grown.within grown.goes_on in
          let same : 48 + (byte - 48) ≡ byte = omega (arith, grown.low) in
          let front : decimal value ++ byte ∷ bytes ≡ decimal m ++ bytes =
          sym (ap (λ text. text ++ bytes) (decimal_longer value (byte - 48) some (omega (arith, grown.high)) (omega (arith, grown.within))) ∙ append_assoc (decimal value) ((48 + (byte - 48)) ∷ []) bytes ∙ ap (λ b. decimal value ++ b ∷ bytes) same) in
          record { spelled = front ∙ at.spelled; some = at.some; within = at.within }
      | inr stops ↦ number_ends limit value (byte ∷ bytes) n rest some within stops.0 stops.1
    ]

-- what is read as a number is one
pub number_takes : (limit : ℕ) → limit < 2 ^ 64 → (bytes : List ℕ) (n : ℕ) (rest : List ℕ) → digits_at limit 0 bytes ≡ Some (n, rest) → IsNumberAt limit bytes n rest
unfolding digits_at
number_takes limit short [] n rest e = absurd (none-some (n, rest) e)
number_takes limit short (byte ∷ bytes) n rest e =
    let m = 0 * 10 + (byte - 48) in
    elim (chosen (is_ascii_digit byte) _ _ (Some (n, rest)) e) [
      | inl digit ↦
          let grown = digit_grows limit 0 byte bytes n rest digit.0 digit.1 in
          let at = number_goes_on limit short m bytes n rest grown.some grown.within grown.goes_on in
          let same : 48 + m ≡ byte = omega (arith, grown.low) in
          let front : byte ∷ bytes ≡ decimal m ++ bytes =
          sym (ap (λ text. text ++ bytes) (decimal_digit m (omega (arith, grown.high))) ∙ ap (λ b. b ∷ bytes) same) in
          record { spelled = front ∙ at.spelled; some = at.some; within = at.within }
      | inr stops ↦ absurd (none-some (n, rest) stops.1)
    ]

-- ---- and back

pub digit_again : (limit value digit : ℕ) (bytes : List ℕ) → digit < 10 → 1 ≤ value * 10 + digit → value * 10 + digit ≤ limit → digits_at limit value ((48 + digit) ∷ bytes) ≡ digits_at limit (value * 10 + digit) bytes
unfolding digits_at
digit_again limit value digit bytes small some within =
    let is : is_ascii_digit (48 + digit) ≡ true = and_from (leb 48 (48 + digit)) (leb (48 + digit) 57) (le-leb 48 (48 + digit) (omega arith)) (le-leb (48 + digit) 57 (omega arith)) in
    let back : 48 + digit - 48 ≡ digit = omega arith in
    let nonzero : eqb (value * 10 + digit) 0 ≡ false = ne_eqb (value * 10 + digit) 0 (λ zero. omega arith) in
    let few : ltb limit (value * 10 + digit) ≡ false = le-ltb limit (value * 10 + digit) within in
    rw (is, back, nonzero, few) refl

stops_again : (limit n : ℕ) (rest : List ℕ) → 1 ≤ n → StopsDigits rest → digits_at limit n rest ≡ Some (n, rest)
unfolding digits_at
stops_again limit n [] some stops = rw (ne_eqb n 0 (λ zero. omega arith)) refl
stops_again limit n (byte ∷ bytes) some stops = rw (stops, ne_eqb n 0 (λ zero. omega arith)) refl

-- what is spelled as a number is read, where nothing goes on with it
pub number_again : (limit n : ℕ) (rest : List ℕ) → limit < 2 ^ 64 → 1 ≤ n → n ≤ limit → StopsDigits rest → digits_at limit 0 (decimal n ++ rest) ≡ Some (n, rest)
number_again limit n rest short some within stops =
    let Reads : ℕ → List ℕ → Type 0 = λ n text. 1 ≤ n → n ≤ limit → (rest : List ℕ) → digits_at limit 0 (text ++ rest) ≡ digits_at limit n rest in
    let one : (n : ℕ) → n < 10 → Reads n ((48 + n) ∷ []) = λ n small some within rest. digit_again limit 0 n rest small (omega arith) (omega arith) ∙ ap (λ k. digits_at limit k rest) (let same : 0 * 10 + n ≡ n = omega arith in same) in
    let more : (n : ℕ) (text : List ℕ) → 10 ≤ n → Reads (n / 10) text → Reads n (text ++ ((48 + n % 10) ∷ [])) = λ n text long shorter some within rest.
    let whole : n / 10 * 10 + n % 10 ≡ n = omega arith in
    ap (digits_at limit 0) (append_assoc text ((48 + n % 10) ∷ []) rest)
    ∙ shorter (omega arith) (omega arith) ((48 + n % 10) ∷ rest)
    ∙ digit_again limit (n / 10) (n % 10) rest (omega arith) (omega arith) (omega arith)
    ∙ ap (λ k. digits_at limit k rest) whole in
    decimal_by_steps Reads one more n (omega arith) some within rest ∙ stops_again limit n rest some stops
