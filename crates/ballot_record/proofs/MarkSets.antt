-- A group and its mark set determine each other.
use Rattle.std.proofs.Common.{◌≡◌, ℕ, zero, suc, ◌+◌, ◌-◌, ◌*◌, ◌/◌, ◌%◌, ◌^◌, ◌<◌, ◌≤◌, cond, eqb, inl, inr, List, [], ◌∷◌, refl, sym, ap, ap₂, subst, ◌∙◌, arith, pow-suc, add-one, pow-add, pow_pos, zero-mul, mul-one, mul-div_cancel}
use Rattle.store_spec.proofs.Common.{Election, IsGroup, bit_at, cases_eq, cases_lt, eq-eqb, filter, mark_set, most_choices, ne_eqb, range_with_len, sum_by-cons}
use Rattle.store_spec.specs.BallotLine.{choices_in}
use Rattle.std.proofs.Math.Nat.{div-div-eq-div-mul, div-one}
use Rattle.std.proofs.lemmas.Nat.Bits.{bit_at-suc, bit_at_above, bit_at_lowest}
use Rattle.std.specs.Prelude.{◌==◌}
use Rattle.ballot_record.proofs.Versions.{few_choices}
use Rattle.ballot_record.proofs.LineGroups.{RisesFrom, IsGroup-from_rises, rises_from_IsGroup}

-- the choices of a set, from choice k + 1 on, where bit 0 stands for it
unfoldable pub choices_from : ℕ → ℕ → ℕ → List ℕ
choices_from zero k set = []
choices_from (suc more) k set = cond (eqb (set % 2) 1) ((k + 1) ∷ choices_from more (k + 1) (set / 2)) (choices_from more (k + 1) (set / 2))

twice : (k : ℕ) → 2 ^ (k + 1) ≡ 2 * 2 ^ k
twice k = ap (λ n. 2 ^ n) (add-one k) ∙ pow-suc 2 k ∙ omega arith

pub mark_set-cons : (choice : ℕ) (choices : List ℕ) → mark_set (choice ∷ choices) ≡ 2 ^ (choice - 1) + mark_set choices
mark_set-cons choice choices = sum_by-cons (λ (c : ℕ). 2 ^ (c - 1)) choice choices

pub doubled : (choice : ℕ) → 1 ≤ choice → 2 ^ choice ≡ 2 * 2 ^ (choice - 1)
doubled choice some = let same : choice ≡ suc (choice - 1) = omega arith in ap (λ n. 2 ^ n) same ∙ pow-suc 2 (choice - 1) ∙ omega arith

first_bit : (k : ℕ) → 2 ^ (k + 1 - 1) ≡ 2 ^ k
first_bit k = let same : k + 1 - 1 ≡ k = omega arith in ap (λ n. 2 ^ n) same

even_halves : (set half power : ℕ) → set ≡ half * 2 → half * (2 * power) ≡ set * power
even_halves set half power is = rw is (omega arith)

odd_halves : (set half power : ℕ) → set ≡ half * 2 + 1 → power + half * (2 * power) ≡ set * power
odd_halves set half power is = rw is (omega arith)

pub mark_set-choices_from : (more k set : ℕ) → set < 2 ^ more → mark_set (choices_from more k set) ≡ set * 2 ^ k
unfolding choices_from
mark_set-choices_from zero k set small = let none : set ≡ 0 = omega arith in rw none (sym (zero-mul (2 ^ k)))
mark_set-choices_from (suc more) k set small =
    let half : set / 2 < 2 ^ more = omega (arith, pow-suc 2 more) in
    let rest : mark_set (choices_from more (k + 1) (set / 2)) ≡ set / 2 * (2 * 2 ^ k) = mark_set-choices_from more (k + 1) (set / 2) half ∙ ap (λ n. set / 2 * n) (twice k) in
    elim (cases_eq (set % 2) 1) [
      | inl odd ↦
          rw (eq-eqb (set % 2) 1 odd)
          (mark_set-cons (k + 1) (choices_from more (k + 1) (set / 2)) ∙ ap (λ n. n + mark_set (choices_from more (k + 1) (set / 2))) (first_bit k)
          ∙ ap (λ n. 2 ^ k + n) rest ∙ odd_halves set (set / 2) (2 ^ k) (omega arith))
      | inr even ↦ rw (ne_eqb (set % 2) 1 even) (rest ∙ even_halves set (set / 2) (2 ^ k) (omega arith))
    ]

pub rises-choices_from : (most more k last set : ℕ) → last ≤ k → k + more ≤ most → RisesFrom most last (choices_from more k set)
unfolding choices_from
rises-choices_from most zero k last set low few = tt
rises-choices_from most (suc more) k last set low few =
    elim (cases_eq (set % 2) 1) [
      | inl odd ↦ rw (eq-eqb (set % 2) 1 odd) (omega arith, omega arith, rises-choices_from most more (k + 1) (k + 1) (set / 2) (omega arith) (omega arith))
      | inr even ↦ rw (ne_eqb (set % 2) 1 even) (rises-choices_from most more (k + 1) last (set / 2) (omega arith) (omega arith))
    ]

-- ---- and back

factored : (bit high above power : ℕ) → bit * power + high * (above * power) ≡ (bit + high * above) * power
factored bit high above power = omega arith

cancelled : (a b power : ℕ) → 0 < power → a * power ≡ b * power → a ≡ b
cancelled a b power some same = sym (mul-div_cancel a some) ∙ ap (λ n. n / power) same ∙ mul-div_cancel b some

-- no bit below the choices that may follow
divisible : (most k : ℕ) (choices : List ℕ) → RisesFrom most k choices → (high : ℕ) × (mark_set choices ≡ high * 2 ^ k)
divisible most k [] rises = (0, sym (zero-mul (2 ^ k)))
divisible most k (choice ∷ choices) rises =
    let rest = divisible most choice choices rises.2 in
    let bit : 2 ^ (choice - 1) ≡ 2 ^ (choice - 1 - k) * 2 ^ k = let same : choice - 1 ≡ choice - 1 - k + k = omega arith in ap (λ n. 2 ^ n) same ∙ pow-add 2 (choice - 1 - k) k in
    let above : 2 ^ choice ≡ 2 ^ (choice - k) * 2 ^ k = let same : choice ≡ choice - k + k = omega arith in ap (λ n. 2 ^ n) same ∙ pow-add 2 (choice - k) k in (
      2 ^ (choice - 1 - k) + rest.0 * 2 ^ (choice - k),
      mark_set-cons choice choices ∙ rw (rest.1, bit, above) (factored (2 ^ (choice - 1 - k)) rest.0 (2 ^ (choice - k)) (2 ^ k)),
    )

pub choices_from-mark_set : (most more k set : ℕ) (choices : List ℕ) → most ≤ k + more → RisesFrom most k choices → mark_set choices ≡ set * 2 ^ k → choices_from more k set ≡ choices
unfolding choices_from
choices_from-mark_set most zero k set [] room rises is = refl
choices_from-mark_set most zero k set (choice ∷ choices) room rises is = absurd (omega (arith, rises.0, rises.1))
choices_from-mark_set most (suc more) k set [] room rises is =
    let none : set ≡ 0 = cancelled set 0 (2 ^ k) (pow_pos k) (sym is ∙ sym (zero-mul (2 ^ k))) in
    rw none (choices_from-mark_set most more (k + 1) 0 [] (omega arith) tt (sym (zero-mul (2 ^ (k + 1)))))
choices_from-mark_set most (suc more) k set (choice ∷ choices) room rises is =
    elim (cases_lt (k + 1) choice) [
      | inl later ↦
          let high = divisible most (k + 1) (choice ∷ choices) (later, rises.1, rises.2) in
          let even : set ≡ high.0 * 2 = cancelled set (high.0 * 2) (2 ^ k) (pow_pos k) (sym is ∙ high.1 ∙ rw (twice k) (omega arith)) in
          let none : set % 2 ≡ 0 = omega arith in
          let half : set / 2 ≡ high.0 = omega arith in
          rw (none, half) (choices_from-mark_set most more (k + 1) high.0 (choice ∷ choices) (omega arith) (later, rises.1, rises.2) high.1)
      | inr now ↦
          let this : choice ≡ k + 1 = omega (arith, rises.0) in
          let rises_on : RisesFrom most (k + 1) choices = subst (λ c. RisesFrom most c choices) this rises.2 in
          let high = divisible most (k + 1) choices rises_on in
          let sum : mark_set (choice ∷ choices) ≡ (high.0 * 2 + 1) * 2 ^ k =
          mark_set-cons choice choices ∙ ap (λ c. 2 ^ (c - 1) + mark_set choices) this ∙ rw (first_bit k, high.1, twice k) (omega arith) in
          let odd : set ≡ high.0 * 2 + 1 = cancelled set (high.0 * 2 + 1) (2 ^ k) (pow_pos k) (sym is ∙ sum) in
          let one : set % 2 ≡ 1 = omega arith in
          let half : set / 2 ≡ high.0 = omega arith in
          rw (one, half) (ap (λ rest. (k + 1) ∷ rest) (choices_from-mark_set most more (k + 1) high.0 choices (omega arith) rises_on high.1) ∙ ap (λ c. c ∷ choices) (sym this))
    ]

-- ---- choice by choice, from the lowest on

taken : (more k set : ℕ) → set % 2 ≡ 1 → choices_from (suc more) k set ≡ (k + 1) ∷ choices_from more (k + 1) (set / 2)
unfolding choices_from
taken more k set odd =
    let left = choices_from more (k + 1) (set / 2) in
    ap (λ bit. cond bit ((k + 1) ∷ left) left) (eq-eqb (set % 2) 1 odd)

passed : (more k set : ℕ) → (set % 2 ≡ 1 → ⊥) → choices_from (suc more) k set ≡ choices_from more (k + 1) (set / 2)
unfolding choices_from
passed more k set even =
    let left = choices_from more (k + 1) (set / 2) in
    ap (λ bit. cond bit ((k + 1) ∷ left) left) (ne_eqb (set % 2) 1 even)

pub lowest_choice : (more k set place : ℕ) → place < more → bit_at set place ≡ 1 → ((i : ℕ) → i < place → bit_at set i ≡ 0)
    → choices_from more k set ≡ (k + place + 1) ∷ choices_from more k (set - 2 ^ place)
lowest_choice zero k set place within marked before = absurd (omega arith)
lowest_choice (suc more) k set zero within marked before =
    let odd : set % 2 ≡ 1 = sym (bit_at_lowest set) ∙ marked in
    let even : (set - 1) % 2 ≡ 1 → ⊥ = λ odd_too. omega (arith, odd, odd_too) in
    let half : (set - 1) / 2 ≡ set / 2 = omega (arith, odd) in
    taken more k set odd
    ∙ ap₂ (λ choice left. choice ∷ left) (let same : k + 1 ≡ k + 0 + 1 = omega arith in same)
    (ap (choices_from more (k + 1)) (sym half) ∙ sym (passed more k (set - 1) even))
lowest_choice (suc more) k set (suc place) within marked before =
    let none : bit_at set 0 ≡ 0 = before 0 (omega arith) in
    let even : set % 2 ≡ 0 = sym (bit_at_lowest set) ∙ none in
    let left : ℕ = set - 2 ^ suc place in
    let still : left % 2 ≡ 0 = omega (arith, even, pow-suc 2 place) in
    let half : left / 2 ≡ set / 2 - 2 ^ place = omega (arith, even, pow-suc 2 place) in
    passed more k set (λ odd. omega (arith, even, odd))
    ∙ lowest_choice more (k + 1) (set / 2) place (omega arith) (sym (bit_at-suc set place) ∙ marked)
    (λ i less. sym (bit_at-suc set i) ∙ before (suc i) (omega (arith, less)))
    ∙ ap₂ (λ choice left. choice ∷ left) (let same : k + 1 + place + 1 ≡ k + suc place + 1 = omega arith in same)
    (ap (choices_from more (k + 1)) (sym half) ∙ sym (passed more k left (λ odd. omega (arith, still, odd))))

-- the lowest choice is no more than the set
pub lowest_fits : (set place : ℕ) → bit_at set place ≡ 1 → 2 ^ place ≤ set
lowest_fits set place marked = elim (cases_lt set (2 ^ place)) [
  | inl less ↦
      let none = bit_at_above set place place less (let same : place ≤ place = omega arith in same) in
      absurd (omega (arith, none, marked))
  | inr within ↦ within
]

-- ---- the choices in a set

next_bit : (set k : ℕ) → set / 2 ^ (k + 1) ≡ set / 2 ^ k / 2
next_bit set k = ap (λ n. set / n) (pow-add 2 k 1) ∙ sym (div-div-eq-div-mul set (2 ^ k) 2)

by_bits : (more k set : ℕ) → filter (λ choice. bit_at set (choice - 1) == 1) (range_with_len (k + 1) more) ≡ choices_from more k (set / 2 ^ k)
unfolding choices_from
by_bits zero k set = refl
by_bits (suc more) k set =
    let back : k + 1 - 1 ≡ k = omega arith in
    let rest : filter (λ choice. bit_at set (choice - 1) == 1) (range_with_len (k + 1 + 1) more) ≡ choices_from more (k + 1) (set / 2 ^ k / 2) =
    by_bits more (k + 1) set ∙ ap (choices_from more (k + 1)) (next_bit set k) in
    rw (back, rest) refl

pub choices_in-is : (e : Election) (set : ℕ) → choices_in e set ≡ choices_from (most_choices e) 0 set
unfolding choices_in
choices_in-is e set = by_bits (most_choices e) 0 set ∙ ap (choices_from (most_choices e) 0) (div-one set)

-- of a set with no choice above the last that there may be, a search through all bits of a word finds the same
pub choices_of_word : (e : Election) (set : ℕ) → set < 2 ^ most_choices e → choices_from 64 0 set ≡ choices_in e set
choices_of_word e set small =
    let most = most_choices e in
    choices_from-mark_set 64 64 0 set (choices_from most 0 set) (omega arith)
    (rises-choices_from 64 most 0 0 set (omega arith) (omega (arith, few_choices e)))
    (mark_set-choices_from most 0 set small) ∙ sym (choices_in-is e set)

pub IsGroup-choices_in : (e : Election) (set : ℕ) → IsGroup e (choices_in e set)
IsGroup-choices_in e set =
    subst (IsGroup e) (sym (choices_in-is e set)) (IsGroup-from_rises e 0 (choices_from (most_choices e) 0 set) (rises-choices_from (most_choices e) (most_choices e) 0 0 set (omega arith) (omega arith)))

pub mark_set-choices_in : (e : Election) (set : ℕ) → set < 2 ^ most_choices e → mark_set (choices_in e set) ≡ set
mark_set-choices_in e set small = ap mark_set (choices_in-is e set) ∙ mark_set-choices_from (most_choices e) 0 set small ∙ mul-one set

pub choices_in-mark_set : (e : Election) (choices : List ℕ) → IsGroup e choices → choices_in e (mark_set choices) ≡ choices
choices_in-mark_set e choices group =
    choices_in-is e (mark_set choices) ∙ choices_from-mark_set (most_choices e) (most_choices e) 0 (mark_set choices) choices (omega arith) (rises_from_IsGroup e choices group) (sym (mul-one (mark_set choices)))
