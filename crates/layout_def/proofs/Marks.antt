-- Marks: the bits of a word of 64.
use Rattle.std.proofs.Common.{◌≡◌, ◌≢◌, ◌⊎◌, ℕ, ◌*◌, ◌%◌, ◌^◌, ◌<◌, ◌≤◌, List, ap, ◌∙◌, arith, bit_and, bit_or, bit_xor, eqb, get_or, inl, inr, length, subst, sym, ⊎_elim, w64}
use Rattle.store_spec.proofs.Common.{bit_at, bit_at-trailing_zeros, cases_eq, cases_lt, eq-eqb, get_or_past, ne_eqb, not, pow_below, trailing_zeros}
use Rattle.std.proofs.lemmas.Nat.{and_le_l, xor_lt}
use Rattle.std.proofs.lemmas.Nat.Bits.{bit_at-lt, bit_at-pow_other, bit_at-pow_same, bit_at-zero, bit_at_above, bit_at_clear_other, bit_at_clear_same, bit_at_or, bit_at_set_other, bit_at_set_same, bit_at_xor, same_from_bits_below}
use Rattle.std.specs.Int.{bit_not, from_bool}

-- the mark that says whether two numbers are others
pub marks_same : (a b : ℕ) → a ≡ b → from_bool (not (eqb a b)) ≡ 0
marks_same a b same = ap (λ same. from_bool (not same)) (eq-eqb a b same)

pub marks_other : (a b : ℕ) → a ≢ b → from_bool (not (eqb a b)) ≡ 1
marks_other a b other = ap (λ same. from_bool (not same)) (ne_eqb a b other)

pub is_mark : (a b : ℕ) → (from_bool (not (eqb a b)) ≡ 0) ⊎ (from_bool (not (eqb a b)) ≡ 1)
is_mark a b = ⊎_elim (λ same. inl (marks_same a b same)) (λ other. inr (marks_other a b other)) (cases_eq a b)

-- behind two lists that are as long there is nothing to tell apart
pub marks_past : (xs ys : List ℕ) (k : ℕ) → length xs ≡ length ys → length xs ≤ k → from_bool (not (eqb (get_or xs k 0) (get_or ys k 0))) ≡ 0
marks_past xs ys k as_many past =
    marks_same (get_or xs k 0) (get_or ys k 0) (get_or_past xs k 0 past ∙ sym (get_or_past ys k 0 (omega (arith, past, as_many))))

-- one more mark, or none
abbrev pub with_mark : ℕ → ℕ → ℕ → ℕ
with_mark marks place bit = bit_or marks (bit * 2 ^ place % 2 ^ 64)

no_mark : (n : ℕ) → 0 * n % 2 ^ 64 ≡ 0
no_mark n = omega arith

pub marked_here : (marks place bit : ℕ) → place < 64 → (bit ≡ 0) ⊎ (bit ≡ 1) → bit_at marks place ≡ 0
    → bit_at (with_mark marks place bit) place ≡ bit
marked_here marks place bit within is fresh =
    ⊎_elim
    (λ none.
    let same : bit_at (with_mark marks place bit) place ≡ bit_at (bit_or marks 0) place =
    ap (λ n. bit_at (bit_or marks n) place) (ap (λ bit. bit * 2 ^ place % 2 ^ 64) none ∙ no_mark (2 ^ place)) in
    omega (arith, same, bit_at_or marks 0 place, bit_at-zero place, fresh, none))
    (λ one. ap (λ bit. bit_at (with_mark marks place bit) place) one ∙ bit_at_set_same w64 marks place within ∙ sym one)
    is

pub marked_elsewhere : (marks place bit k : ℕ) → place < 64 → (bit ≡ 0) ⊎ (bit ≡ 1) → k ≢ place
    → bit_at (with_mark marks place bit) k ≡ bit_at marks k
marked_elsewhere marks place bit k within is apart =
    ⊎_elim
    (λ none.
    let same : bit_at (with_mark marks place bit) k ≡ bit_at (bit_or marks 0) k =
    ap (λ n. bit_at (bit_or marks n) k) (ap (λ bit. bit * 2 ^ place % 2 ^ 64) none ∙ no_mark (2 ^ place)) in
    omega (arith, same, bit_at_or marks 0 k, bit_at-zero k))
    (λ one. ap (λ bit. bit_at (with_mark marks place bit) k) one ∙ bit_at_set_other w64 marks place within k apart)
    is

-- the marks behind the first
abbrev pub without_first : ℕ → ℕ
without_first marks = bit_and marks (bit_not w64 (1 * 2 ^ trailing_zeros w64 marks % 2 ^ 64))

pub fewer_marks : (marks : ℕ) → 0 < marks → marks < 2 ^ 64 → without_first marks < marks
fewer_marks marks some fits =
    let first = bit_at-trailing_zeros w64 marks some fits in
    let place = trailing_zeros w64 marks in
    let gone : bit_at (without_first marks) place ≡ 0 = bit_at_clear_same w64 marks place first.0 in
    let other : without_first marks ≢ marks = λ same. let still = ap (λ n. bit_at n place) same in omega (arith, gone, first.1, still) in
    let most : without_first marks ≤ marks = and_le_l marks (bit_not w64 (1 * 2 ^ place % 2 ^ 64)) in
    omega (arith, most, other)

-- they were marks before, and not the first
pub still_marked : (marks k : ℕ) → 0 < marks → marks < 2 ^ 64 → bit_at (without_first marks) k ≡ 1 → bit_at marks k ≡ 1
still_marked marks k some fits is =
    let first = bit_at-trailing_zeros w64 marks some fits in
    let place = trailing_zeros w64 marks in
    let rest = without_first marks in
    ⊎_elim
    (λ (small : k < 64).
    ⊎_elim
    (λ (here : k ≡ place). absurd (omega (arith, is, ap (bit_at rest) here, bit_at_clear_same w64 marks place first.0)))
    (λ other. omega (arith, is, bit_at_clear_other w64 marks place first.0 k small other))
    (cases_eq k place))
    (λ (large : 64 ≤ k).
    absurd (omega (arith, is, bit_at_above rest 64 k (omega (arith, fits, fewer_marks marks some fits)) large)))
    (cases_lt k 64)

-- turned over, the first is gone
pub first_turned : (marks : ℕ) → 0 < marks → marks < 2 ^ 64
    → bit_xor marks (1 * 2 ^ trailing_zeros w64 marks % 2 ^ 64) ≡ without_first marks
first_turned marks some fits =
    let first = bit_at-trailing_zeros w64 marks some fits in
    let place = trailing_zeros w64 marks in
    let bit = 2 ^ place in
    let small : bit < 2 ^ 64 = pow_below place 64 first.0 in
    let is : 1 * bit % 2 ^ 64 ≡ bit = omega (arith, small) in
    let rest = without_first marks in
    ap (bit_xor marks) is
    ∙ same_from_bits_below 64 (bit_xor marks bit) rest (xor_lt 64 marks bit fits small) (omega (arith, fits, fewer_marks marks some fits))
    (λ k within.
    ⊎_elim
    (λ (here : k ≡ place).
    subst (λ k. bit_at (bit_xor marks bit) k ≡ bit_at rest k) (sym here)
    (omega (arith, bit_at_xor marks bit place, first.1, bit_at-pow_same place, bit_at_clear_same w64 marks place first.0)))
    (λ other.
    omega (arith, bit_at_xor marks bit k, bit_at-pow_other place k other, bit_at-lt marks k, bit_at_clear_other w64 marks place first.0 k within other))
    (cases_eq k place))
