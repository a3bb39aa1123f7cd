-- The number of a salt's digits, digit by digit.
use Rattle.std.proofs.Common.{◌≡◌, ℕ, zero, suc, ◌+◌, ◌-◌, ◌*◌, ◌/◌, ◌%◌, ◌^◌, ◌<◌, ◌≤◌, List, [], ◌∷◌, length, get_or, take, refl, sym, ap, ◌∙◌, subst, arith, lit<, pow_mono, pow-add}
use Rattle.store_spec.proofs.Common.{All, get_or_default, nat_tests, take_all, take_more}
use Rattle.std.proofs.Math.Nat.{div-div-eq-div-mul, div-eq_of_lt, div-lt_iff_lt-mul, div-one, mod-add-div}
use Rattle.std.specs.Prelude.{fold}
use Rattle.std.proofs.lemmas.List.Sums.{fold-append}
use Rattle.election_def.specs.Text.{IsSaltDigit, IsSaltText, salt_digit}

abbrev pub grown : ℕ → ℕ → ℕ
grown n c = n * 16 + salt_digit c

pub number_grows : (text : List ℕ) (i salt : ℕ) → i < length text → salt ≡ fold grown 0 (take i text) → salt * 16 + salt_digit (get_or text i 0) ≡ fold grown 0 (take (i + 1) text)
number_grows text i salt within is =
    ap (λ n. grown n (get_or text i 0)) is ∙ sym (ap (fold grown 0) (take_more text i 0 within) ∙ fold-append grown 0 (take i text) (get_or text i 0 ∷ []))

pub small_grows : (salt i digit : ℕ) → salt < 2 ^ (4 * i) → digit < 16 → salt * 16 + digit < 2 ^ (4 * (i + 1))
small_grows salt i digit small below =
    let same : 4 * (i + 1) ≡ 4 + 4 * i = omega arith in
    let next : 2 ^ (4 * (i + 1)) ≡ 16 * 2 ^ (4 * i) = ap (λ n. 2 ^ n) same ∙ pow-add 2 4 (4 * i) in
    omega (arith, next)

pub fits : (salt i digit : ℕ) → salt < 2 ^ (4 * i) → i < 16 → digit < 16 → salt * 16 + digit < 2 ^ 64
fits salt i digit small within below =
    let le : 2 ^ (4 * i) ≤ 2 ^ 60 = pow_mono {i = 4 * i} {j = 60} (omega arith) in
    let most : salt < 2 ^ 60 = omega (arith, le) in
    omega arith

pub salt_digit-lt : (c : ℕ) → IsSaltDigit c → salt_digit c < 16
salt_digit-lt c digit = grind (arith, nat_tests)

-- ---- a number and its digits

-- one digit more is cut off
cut : (salt j : ℕ) → salt / 16 ^ (j + 1) ≡ salt / 16 ^ j / 16
cut salt j = ap (λ n. salt / n) (pow-add 16 j 1) ∙ sym (div-div-eq-div-mul salt (16 ^ j) 16)

last_off : (n d : ℕ) → d < 16 → ((n * 16 + d) / 16 ≡ n) × ((n * 16 + d) % 16 ≡ d)
last_off n d small = (omega arith, omega arith)

digit_at : (text : List ℕ) (i : ℕ) → i < length text → All IsSaltDigit text → salt_digit (get_or text i 0) < 16
digit_at text i within digits = salt_digit-lt (get_or text i 0) (digits i 0 within)

-- the number of the first digits is what is left where the others are cut off
front_of : (text : List ℕ) (j : ℕ) → j ≤ 16 → length text ≡ 16 → All IsSaltDigit text → fold grown 0 text / 16 ^ j ≡ fold grown 0 (take (16 - j) text)
front_of text zero le size digits = div-one (fold grown 0 text) ∙ sym (ap (fold grown 0) (take_all 16 text (omega arith)))
front_of text (suc j) le size digits =
    let number = fold grown 0 text in
    let i = 16 - suc j in
    let here = fold grown 0 (take i text) in
    let d = salt_digit (get_or text i 0) in
    let next : suc j ≡ j + 1 = omega arith in
    let place : 16 - j ≡ i + 1 = omega arith in
    let before = front_of text j (omega arith) size digits in
    let grows = number_grows text i here (omega arith) refl in
    ap (λ n. number / 16 ^ n) next
    ∙ cut number j
    ∙ ap (λ n. n / 16) (before ∙ ap (λ n. fold grown 0 (take n text)) place ∙ sym grows)
    ∙ (last_off here d (digit_at text i (omega arith) digits)).0

digit_of : (text : List ℕ) (place : ℕ) → place < 16 → length text ≡ 16 → All IsSaltDigit text → fold grown 0 text / 16 ^ (15 - place) % 16 ≡ salt_digit (get_or text place 0)
digit_of text place lt size digits =
    let here = fold grown 0 (take place text) in
    let d = salt_digit (get_or text place 0) in
    let next : 16 - (15 - place) ≡ place + 1 = omega arith in
    ap (λ n. n % 16) (front_of text (15 - place) (omega arith) size digits ∙ ap (λ n. fold grown 0 (take n text)) next ∙ sym (number_grows text place here (omega arith) refl))
    ∙ (last_off here d (digit_at text place (omega arith) digits)).1

-- a number is that of its digits
number_from : (text : List ℕ) (salt i : ℕ) → i ≤ 16 → IsSaltText text salt → fold grown 0 (take i text) ≡ salt / 16 ^ (16 - i)
number_from text salt zero le is = sym (div-eq_of_lt is.short)
number_from text salt (suc i) le is =
    let j = 15 - i in
    let rest = salt / 16 ^ j in
    let next : suc i ≡ i + 1 = omega arith in
    let more : 16 - i ≡ j + 1 = omega arith in
    let less : j ≡ 16 - suc i = omega arith in
    let before : fold grown 0 (take i text) ≡ rest / 16 = number_from text salt i (omega arith) is ∙ ap (λ n. salt / 16 ^ n) more ∙ cut salt j in
    let size = is.size in
    let grows = number_grows text i (fold grown 0 (take i text)) (omega arith) refl in
    let parts = mod-add-div rest 16 in
    let whole : fold grown 0 (take i text) * 16 + salt_digit (get_or text i 0) ≡ rest = omega (arith, before, is.each i (omega arith)) in
    ap (λ n. fold grown 0 (take n text)) next ∙ sym grows ∙ whole ∙ ap (λ n. salt / 16 ^ n) less

salt_number : (text : List ℕ) (salt : ℕ) → IsSaltText text salt → salt ≡ fold grown 0 text
salt_number text salt is =
    let size = is.size in
    sym (div-one salt) ∙ sym (number_from text salt 16 (omega arith) is) ∙ ap (fold grown 0) (take_all 16 text (omega arith))

-- no text is that of two numbers
pub one_salt : (text : List ℕ) (a b : ℕ) → IsSaltText text a → IsSaltText text b → a ≡ b
one_salt text a b x y = salt_number text a x ∙ sym (salt_number text b y)

salt_short : (text : List ℕ) → length text ≡ 16 → All IsSaltDigit text → fold grown 0 text < 2 ^ 64
salt_short text size digits =
    let none : fold grown 0 text / 16 ^ 16 < 1 = omega (arith, front_of text 16 (omega arith) size digits) in
    (div-lt_iff_lt-mul {k = 16 ^ 16} {x = fold grown 0 text} {y = 1} (lit< tt)).0 none

-- all digits of a text were read
pub text_of_digits : (text digits : List ℕ) (i salt : ℕ) → digits ≡ text → length text ≡ 16 → length digits ≤ i → salt ≡ fold grown 0 (take i digits) → ((k : ℕ) → k < i → IsSaltDigit (get_or digits k 0)) → IsSaltText text salt
text_of_digits text digits i salt same size all is each =
    let P : List ℕ → Type 0 = λ text. IsSaltText text salt in
    let number : salt ≡ fold grown 0 digits = is ∙ ap (fold grown 0) (take_all i digits all) in
    let long : length digits ≡ 16 = ap length same ∙ size in
    let are : All IsSaltDigit digits = λ k d within. subst IsSaltDigit (get_or_default digits k 0 d within) (each k (omega arith)) in
    subst P same (record {
      size = long;
      digits = are;
      short = subst (λ (n : ℕ). n < 2 ^ 64) (sym number) (salt_short digits long are);
      each = λ place lt. ap (λ n. n / 16 ^ (15 - place) % 16) number ∙ digit_of digits place lt long are;
    })
