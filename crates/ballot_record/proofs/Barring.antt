-- A cell has no barred choice where its mark sets have none but choices of their contests.
use Rattle.std.proofs.Common.{◌≡◌, ◌↔◌, ℕ, zero, suc, ◌+◌, ◌-◌, ◌*◌, ◌/◌, ◌%◌, ◌^◌, ◌<◌, ◌≤◌, min, inl, inr, List, [], ◌∷◌, ◌++◌, Some, drop, get_or, length, slice_get, slice_index, take, get_or-take, refl, sym, ap, subst, subst₂, ◌∙◌, arith, pow-add, pow_mono, pow_pos, zero-mul, zero-add, mod-lt}
use Rattle.store_spec.proofs.Common.{Election, cases_lt, choices_on, drop-drop, get_or-drop, get_or-set_other, get_or-set_same, mul-suc, set_width, slice_get-get_or}
use Rattle.std.proofs.Math.Nat.{div-eq_of_lt, div-lt_iff_lt-mul, mul-le-mul_left, mul-pos, mul_comm}
use Rattle.std.proofs.lemmas.List.Edits.{length-between}
use Rattle.std.proofs.lemmas.Nat.{div-add-mod', shr_high}
use Rattle.std.proofs.lemmas.Nat.Bits.{and_high_mask}
use Rattle.std.specs.List.{between}
use Rattle.std.specs.Prelude.{bit_and, slice_set}
use Rattle.byteorder.specs.Endian.{big_from, big_number}
use Rattle.byteorder.specs.Numbers.{big_from-lt}
use Rattle.ballot_record.proofs.FormatReading.{AreBytes, AreBytes-drop}
use Rattle.ballot_record.proofs.Versions.{known_width}
use Rattle.ballot_record.specs.Barred.{AreBarred, BarsBehind, HaveNone, IsBarredOn, barred_byte}
use Rattle.ballot_record.specs.declared.barred.Barred.{Barred}
use Rattle.ballot_record.specs.Format.{HaveChoices, largest_cell}
use Rattle.store_spec.specs.Election.{cell_size, front_size}

no_factor : (q p : ℕ) → 0 < p → q * p ≡ 0 → q ≡ 0
no_factor q p some none = elim (cases_lt 0 q) [
  | inl more ↦ absurd (omega (arith, mul-pos more some, none))
  | inr nothing ↦ omega arith
]

-- ---- one byte

at_most : (byte offered : ℕ) → byte < 2 ^ 8 → offered ≤ 8 → (bit_and byte (2 ^ 8 - 2 ^ offered) ≡ 0) ↔ (byte < 2 ^ offered)
at_most byte offered short few =
    let high : bit_and byte (2 ^ 8 - 2 ^ offered) ≡ byte / 2 ^ offered * 2 ^ offered = and_high_mask 8 offered few byte short in
    let below : (byte / 2 ^ offered < 1) ↔ (byte < 1 * 2 ^ offered) = div-lt_iff_lt-mul (pow_pos offered) in (
      λ none. omega (arith, below.0 (omega (arith, no_factor (byte / 2 ^ offered) (2 ^ offered) (pow_pos offered) (sym high ∙ none)))),
      λ less. high ∙ ap (λ q. q * 2 ^ offered) (div-eq_of_lt less) ∙ zero-mul (2 ^ offered),
    )

-- ---- one mark set

-- the first byte of a number, and the number of the others
high_and_low : (x low n choices : ℕ) → x < 2 ^ 8 → low < 2 ^ (8 * n)
    → ((x < 2 ^ min 8 (choices - 8 * n)) × (low < 2 ^ choices)) ↔ (x * 2 ^ (8 * n) + low < 2 ^ choices)
high_and_low x low n choices byte short =
    let p = 2 ^ (8 * n) in
    let high : (x * p + low) / p ≡ x = shr_high x (8 * n) low short in
    elim (cases_lt choices (8 * n)) [
      | inl none ↦
          let zero : choices - 8 * n ≡ 0 = omega arith in
          let one : 2 ^ min 8 (choices - 8 * n) ≡ 1 = ap (λ d. 2 ^ min 8 d) zero in
          let less : 2 ^ choices ≤ p = pow_mono (omega arith) in (
            λ both.
                let nothing : x ≡ 0 = omega (arith, both.0, one) in
                omega (arith, both.1, ap (λ x. x * p) nothing, zero-mul p),
            λ whole.
                let nothing : x ≡ 0 = sym high ∙ div-eq_of_lt (omega (arith, whole, less)) in
                (omega (arith, nothing, one), omega (arith, whole)),
          )
      | inr some ↦
          let d = choices - 8 * n in
          let parts : choices ≡ d + 8 * n = omega arith in
          let split : 2 ^ choices ≡ 2 ^ d * p = ap (λ k. 2 ^ k) parts ∙ pow-add 2 d (8 * n) in
          let below : ((x * p + low) / p < 2 ^ d) ↔ (x * p + low < 2 ^ d * p) = div-lt_iff_lt-mul (pow_pos (8 * n)) in
          let wide : p ≤ 2 ^ choices = pow_mono some in
          elim (cases_lt d 8) [
            | inl few ↦
                let least : min 8 d ≡ d = omega arith in (
                  λ both. omega (arith, below.0 (omega (arith, high, both.0, ap (λ k. 2 ^ k) least)), split),
                  λ whole. (omega (arith, below.1 (omega (arith, whole, split)), high, ap (λ k. 2 ^ k) least), omega (arith, short, wide)),
                )
            | inr all ↦
                let least : min 8 d ≡ 8 = omega arith in
                let byte_too : 2 ^ 8 ≤ 2 ^ d = pow_mono all in (
                  λ both. omega (arith, below.0 (omega (arith, high, byte, byte_too)), split),
                  λ whole. (omega (arith, byte, ap (λ k. 2 ^ k) least), omega (arith, short, wide)),
                )
          ]
    ]

-- no byte of a mark set is barred, of so many bytes from a place on
abbrev AreFree : List ℕ → ℕ → ℕ → ℕ → Type 0
AreFree bytes from width choices =
    (byte : ℕ) → byte < width → bit_and (slice_index bytes (from + byte)) (barred_byte choices (width - 1 - byte)) ≡ 0

bytes_pow : (n : ℕ) → 256 ^ n ≡ 2 ^ (8 * n)
bytes_pow zero = refl
bytes_pow (suc n) =
    let more : 8 * suc n ≡ 8 + 8 * n = omega arith in
    let next : 256 ^ suc n ≡ 256 * 256 ^ n = omega arith in
    next ∙ ap (λ p. 256 * p) (bytes_pow n) ∙ sym (ap (λ k. 2 ^ k) more ∙ pow-add 2 8 (8 * n))

set_free : (width choices from : ℕ) (bytes : List ℕ) → AreBytes bytes → AreFree bytes from width choices ↔ (big_from from width bytes < 2 ^ choices)
set_free zero choices from bytes fits = (λ _. pow_pos choices, λ _ byte before. absurd (omega arith))
set_free (suc n) choices from bytes fits =
    let x = slice_index bytes from in
    let low = big_from (suc from) n bytes in
    let one = at_most x (min 8 (choices - 8 * n)) (fits from) (omega arith) in
    let more = set_free n choices (suc from) bytes fits in
    let short : low < 2 ^ (8 * n) = omega (arith, big_from-lt (suc from) n bytes fits, bytes_pow n) in
    let joined = high_and_low x low n choices (fits from) short in
    let value : big_from from (suc n) bytes ≡ x * 2 ^ (8 * n) + low = ap (λ p. x * p + low) (bytes_pow n) in
    let Free : ℕ → ℕ → Type 0 = λ at behind. bit_and (slice_index bytes at) (barred_byte choices behind) ≡ 0 in (
      λ free.
          let first : Free from n = subst₂ Free (omega arith) (omega arith) (free 0 (omega arith)) in
          let others : AreFree bytes (suc from) n choices = λ byte before. subst₂ Free (omega arith) (omega arith) (free (suc byte) (omega arith)) in
          omega (arith, joined.0 (one.0 first, more.0 others), value),
      λ less.
          let both = joined.1 (omega (arith, less, value)) in
          λ byte before. elim (cases_lt 0 byte) [
            | inl later ↦ subst₂ Free (omega arith) (omega arith) (more.1 both.1 (byte - 1) (omega arith))
            | inr first ↦ subst₂ Free (omega arith) (omega arith) (one.1 both.0)
          ],
    )

-- ---- a cell

-- a byte behind the front stands in the mark set of a contest
placed : (width count at : ℕ) → 0 < width → at < width * count → (at / width < count) × (at % width < width) × (width * (at / width) + at % width ≡ at)
placed width count at some within = (
  (div-lt_iff_lt-mul {k = width} {x = at} {y = count} some).1 (omega (arith, within, mul_comm width count)),
  mod-lt at some,
  ap (λ n. n + at % width) (mul_comm width (at / width)) ∙ div-add-mod' at width,
)

some_width : (e : Election) → 0 < set_width e
some_width e = elim (known_width e) [ inl is ↦ omega arith | inr is ↦ omega arith ]

pub judged : (e : Election) (style : ℕ) (row cell : List ℕ) → IsBarredOn e style row → AreBytes cell → length cell ≡ cell_size e
    → HaveNone cell (take (length cell) row) ↔ HaveChoices e style (set_width e) (drop 9 cell)
unfolding cell_size
judged e style row cell barred fits long =
    let w = set_width e in
    let count = length e.contests in
    let start : ℕ → ℕ = λ k. 9 + w * k in
    let sets : ℕ → List ℕ = λ k. drop (start k) cell in
    let choices : ℕ → ℕ = λ k. choices_on e style (k + 1) in
    let free : (k : ℕ) → AreFree (sets k) 0 w (choices k) ↔ (big_from 0 w (sets k) < 2 ^ choices k) =
    λ k. set_free w (choices k) 0 (sets k) (AreBytes-drop (start k) cell fits) in
    let number : (k : ℕ) → big_number w (drop (w * k) (drop 9 cell)) ≡ big_from 0 w (sets k) =
    λ k. ap (big_number w) (drop-drop (w * k) 9 cell ∙ ap (λ n. drop n cell) (omega arith)) in
    let there : (k byte : ℕ) → slice_index (sets k) (0 + byte) ≡ slice_index cell (start k + byte) =
    λ k byte. ap (slice_index (sets k)) (zero-add byte) ∙ get_or-drop (start k) cell byte 0 in
    let within : (k byte : ℕ) → k < count → byte < w → start k + byte < length cell =
    λ k byte few less. omega (arith, long, less, mul-le-mul_left w (let next : k + 1 ≤ count = omega arith in next), mul-suc w k) in
    let read : (at : ℕ) → at < length cell → slice_index (take (length cell) row) at ≡ slice_index row at =
    λ at inside. get_or-take (length cell) row at 0 inside in
    let bars : (k byte : ℕ) → k < count → byte < w → slice_index (take (length cell) row) (start k + byte) ≡ barred_byte (choices k) (w - 1 - byte) =
    λ k byte few less. read (start k + byte) (within k byte few less) ∙ barred.sets k few byte less in
    let Free : ℕ → ℕ → Type 0 = λ byte barred. bit_and byte barred ≡ 0 in (
      λ none k few.
          subst (λ n. n < 2 ^ choices k) (sym (number k)) ((free k).0 (λ byte less.
          subst₂ Free (sym (there k byte)) (bars k byte few less) (none (start k + byte) (within k byte few less)))),
      λ have at inside.
          elim (cases_lt at 9) [
            | inl early ↦ ap (bit_and (slice_index cell at)) (read at inside ∙ barred.front at early) ∙ (at_most (slice_index cell at) 8 (fits at) (omega arith)).1 (fits at)
            | inr late ↦
                let k = (at - 9) / w in
                let byte = (at - 9) % w in
                let stands = placed w count (at - 9) (some_width e) (omega (arith, inside, long, late)) in
                let here : start k + byte ≡ at = omega (arith, stands.2, late) in
                let one = (free k).1 (subst (λ n. n < 2 ^ choices k) (number k) (have k stands.0)) byte stands.1 in
                subst (λ at. bit_and (slice_index cell at) (slice_index (take (length cell) row) at) ≡ 0) here
                (subst₂ Free (there k byte) (sym (bars k byte stands.0 stands.1)) one)
          ],
    )

-- ---- steps over a cell

-- no byte before one is barred
abbrev pub HaveNoneBefore : List ℕ → List ℕ → ℕ → Type 0
HaveNoneBefore bytes barred end = (k : ℕ) → k < end → bit_and (slice_index bytes k) (slice_index barred k) ≡ 0

pub none_in_front : (bytes barred : List ℕ) → AreBytes bytes → ((k : ℕ) → k < 9 → slice_index barred k ≡ 0) → HaveNoneBefore bytes barred 9
none_in_front bytes barred fits front k early =
    ap (bit_and (slice_index bytes k)) (front k early) ∙ (at_most (slice_index bytes k) 8 (fits k) (omega arith)).1 (fits k)

in_part : (xs : List ℕ) (from end k : ℕ) → from + k < end → slice_index (between from end xs) k ≡ slice_index xs (from + k)
in_part xs from end k within = get_or-take (end - from) (drop from xs) k 0 (omega arith) ∙ get_or-drop from xs k 0

pub none_within : (bytes barred : List ℕ) (from end : ℕ) → end ≤ length bytes → HaveNone bytes barred → HaveNone (between from end bytes) (between from end barred)
none_within bytes barred from end inside none k within =
    let long : length (between from end bytes) ≡ end - from = length-between bytes from end inside in
    let less : from + k < end = omega (arith, within, long) in
    subst₂ (λ a b. bit_and a b ≡ 0) (sym (in_part bytes from end k less)) (sym (in_part barred from end k less)) (none (from + k) (omega (arith, less, inside)))

pub none_on : (bytes barred : List ℕ) (from start end : ℕ) → start ≤ from → end ≤ length bytes → HaveNoneBefore bytes barred from
    → HaveNone (between start end bytes) (between start end barred) → HaveNoneBefore bytes barred end
none_on bytes barred from start end reached inside before more k within =
    elim (cases_lt k from) [
      | inl early ↦ before k early
      | inr late ↦
          let long : length (between start end bytes) ≡ end - start = length-between bytes start end inside in
          let back : start + (k - start) ≡ k = omega arith in
          let less : start + (k - start) < end = omega arith in
          let is = more (k - start) (omega (arith, long, late, reached, within)) in
          subst (λ k. bit_and (slice_index bytes k) (slice_index barred k) ≡ 0) back
          (subst₂ (λ a b. bit_and a b ≡ 0) (in_part bytes start end (k - start) less) (in_part barred start end (k - start) less) is)
    ]

-- ---- a row, mark set by mark set

-- the same as `BarsBehind` in the first so many bytes of the mark set
abbrev pub BarsSoFar : ℕ → ℕ → ℕ → List ℕ → ℕ → Type 0
BarsSoFar choices width from row end = (byte : ℕ) → byte < end → slice_index row (from + byte) ≡ barred_byte choices (width - 1 - byte)

pub bars_more : (choices width from byte x : ℕ) (row : List ℕ) → from + byte < length row → x ≡ barred_byte choices (width - 1 - byte)
    → BarsSoFar choices width from row byte → BarsSoFar choices width from (slice_set row (from + byte) x) (byte + 1)
bars_more choices width from byte x row inside is bars k before =
    elim (cases_lt k byte) [
      | inl earlier ↦ get_or-set_other row (from + byte) (from + k) x 0 (λ same. omega arith) ∙ bars k earlier
      | inr this ↦
          let same : byte ≡ k = omega arith in
          subst (λ k. slice_index (slice_set row (from + byte) x) (from + k) ≡ barred_byte choices (width - 1 - k)) same (get_or-set_same row (from + byte) x 0 inside ∙ is)
    ]

-- the mark sets of the first so many contests
abbrev pub SetsSoFar : Election → ℕ → List ℕ → ℕ → Type 0
SetsSoFar e style row end =
    (place : ℕ) → place < end → BarsBehind (choices_on e style (place + 1)) (set_width e) (front_size + set_width e * place) row

-- those of one contest more, where nothing in front of its mark set changes
pub sets_more : (e : Election) (style place : ℕ) (row new : List ℕ) → ((k : ℕ) → k < 9 + set_width e * place → slice_index new k ≡ slice_index row k)
    → BarsBehind (choices_on e style (place + 1)) (set_width e) (9 + set_width e * place) new → SetsSoFar e style row place → SetsSoFar e style new (place + 1)
sets_more e style place row new kept bars sets k before byte less =
    let w = set_width e in
    elim (cases_lt k place) [
      | inl earlier ↦
          let next : k + 1 ≤ place = omega arith in
          let inside : 9 + w * k + byte < 9 + w * place = omega (arith, less, mul-le-mul_left w next, mul-suc w k) in
          kept (9 + w * k + byte) inside ∙ sets k earlier byte less
      | inr this ↦
          let same : place ≡ k = omega arith in
          let Bars : ℕ → Type 0 = λ k. slice_index new (9 + w * k + byte) ≡ barred_byte (choices_on e style (k + 1)) (w - 1 - byte) in
          subst Bars same (bars byte less)
    ]

-- ---- rows one after another

pub rows_pushed : {X : Type 0} (P : ℕ → X → Type 0) (xs : List X) (y : X) → ((k : ℕ) (x : X) → slice_get xs k ≡ Some x → P k x) → P (length xs) y
    → (k : ℕ) (x : X) → slice_get (xs ++ y ∷ []) k ≡ Some x → P k x
rows_pushed P [] y each last zero x is = let same : y ≡ x = cc in subst (P 0) same last
rows_pushed P [] y each last (suc k) x is = absurd cc
rows_pushed P (z ∷ xs) y each last zero x is = each zero x is
rows_pushed P (z ∷ xs) y each last (suc k) x is = rows_pushed (λ k x. P (suc k) x) xs y (λ k x is. each (suc k) x is) last k x is

-- the one that stands at a place bars what its style bars
pub row_there : (e : Election) (barred : Barred) (place : ℕ) (row : List ℕ) → AreBarred e barred → place < length e.styles → row ≡ get_or barred.rows.items place row
    → (length row ≡ largest_cell) × IsBarredOn e (place + 1) row
row_there e barred place row are within is =
    let there : slice_get barred.rows.items place ≡ Some row = slice_get-get_or barred.rows.items place row (omega (arith, are.count)) ∙ ap (λ row. Some row) (sym is) in
    are.each place row there
