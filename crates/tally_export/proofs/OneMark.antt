-- A mark set with no mark behind its first.
use Rattle.std.proofs.Common.{◌≡◌, ℕ, ◌+◌, ◌-◌, ◌*◌, ◌/◌, ◌%◌, ◌^◌, ◌<◌, ◌≤◌, false, inl, inr, bit_and, ltb, min, sym, ap, ◌∙◌, arith}
use Rattle.store_spec.proofs.Common.{bit_at, cases_eq, cases_lt, count_ones, le-ltb, pow_pos, trailing_zeros}
use Rattle.std.proofs.lemmas.Nat.{div-add-mod', ones_cat, ones_le_self, zero_from_ones}
use Rattle.std.proofs.Math.Nat.{mod-lt}
use Rattle.std.proofs.lemmas.Nat.Bits.{bit_at-pow_other, bit_at-pow_same, bit_at-trailing_zeros, bit_at-zero, bit_at_and, bit_at_cat_high, bit_at_cat_low, same_from_bits}
use Rattle.ballot_record.specs.Record.{set_word}

ones_of_nothing : count_ones 0 ≡ 0
ones_of_nothing = omega (arith, ones_le_self 0)

ones_of_first : count_ones 1 ≡ 1
ones_of_first =
    elim (cases_lt 0 (count_ones 1)) [
      | inl some ↦ omega (arith, ones_le_self 1)
      | inr none ↦
          let zero : 1 ≡ 0 = zero_from_ones 1 (omega arith) in
          absurd (omega (arith, zero))
    ]

pub ones_of_one : (k : ℕ) → count_ones (2 ^ k) ≡ 1
ones_of_one k =
    let same : 2 ^ k ≡ 1 * 2 ^ k + 0 = omega arith in
    let parts : count_ones (1 * 2 ^ k + 0) ≡ count_ones 1 + count_ones 0 = ones_cat k 1 0 (pow_pos k) in
    ap count_ones same ∙ omega (arith, parts, ones_of_first, ones_of_nothing)

-- one mark is never too many
pub no_overvote : (allowed k : ℕ) → 1 ≤ allowed → ltb allowed (count_ones (2 ^ k)) ≡ false
no_overvote allowed k some = ap (ltb allowed) (ones_of_one k) ∙ le-ltb allowed 1 some

-- a number and the one in front of it have the same bits behind the lowest that is set
same_behind : (set k i : ℕ) → bit_at set k ≡ 1 → k < i → bit_at (set - 1) i ≡ bit_at set i
same_behind set k i marked behind =
    let w : ℕ = 2 ^ (k + 1) in
    let high = set / w in
    let low = set % w in
    let parted : high * w + low ≡ set = div-add-mod' set w in
    let small : low < w = mod-lt set (pow_pos (k + 1)) in
    let some : 0 < low =
    elim (cases_lt 0 low) [
      | inl some ↦ some
      | inr none ↦
          let zero : low ≡ 0 = omega arith in
          let here = bit_at_cat_low high (k + 1) low k (let next : k < k + 1 = omega arith in next) in
          let unmarked : bit_at set k ≡ 0 = ap (λ n. bit_at n k) (sym parted) ∙ here ∙ ap (λ n. bit_at n k) zero ∙ bit_at-zero k in
          absurd (omega (arith, marked, unmarked))
    ] in
    let less : set - 1 ≡ high * w + (low - 1) = omega (arith, parted, some) in
    let past : k + 1 ≤ i = omega arith in
    ap (λ n. bit_at n i) less
    ∙ bit_at_cat_high high (k + 1) (low - 1) i (let lower : low - 1 < w = omega (arith, small) in lower) past
    ∙ sym (bit_at_cat_high high (k + 1) low i small past)
    ∙ ap (λ n. bit_at n i) parted

-- a mark set that shares no mark with the number in front of it has one
pub one_mark : (set : ℕ) → 0 < set → set < 2 ^ 64 → bit_and set (set - 1) ≡ 0 → set ≡ 2 ^ trailing_zeros set_word set
one_mark set some fits none =
    let first = bit_at-trailing_zeros set_word set some fits in
    let k = trailing_zeros set_word set in
    same_from_bits set (2 ^ k) (λ i.
    elim (cases_eq i k) [
      | inl here ↦ ap (bit_at set) here ∙ first.1 ∙ sym (ap (bit_at (2 ^ k)) here ∙ bit_at-pow_same k)
      | inr other ↦
          elim (cases_lt i k) [
            | inl before ↦ first.2 i before ∙ sym (bit_at-pow_other k i other)
            | inr after ↦
                let same = same_behind set k i first.1 (omega arith) in
                let both : min (bit_at set i) (bit_at (set - 1) i) ≡ 0 =
                sym (bit_at_and set (set - 1) i) ∙ ap (λ n. bit_at n i) none ∙ bit_at-zero i in
                let zero : bit_at set i ≡ 0 = omega (arith, same, both) in
                zero ∙ sym (bit_at-pow_other k i other)
          ]
    ])
