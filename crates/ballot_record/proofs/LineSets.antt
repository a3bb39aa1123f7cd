-- Mark sets that grow choice by choice.
use Rattle.std.proofs.Common.{◌≡◌, ℕ, zero, suc, ◌+◌, ◌-◌, ◌*◌, ◌%◌, ◌^◌, ◌<◌, ◌≤◌, Bool, true, false, cond, eqb, List, [], ◌∷◌, Option, Some, None, refl, sym, ap, ◌∙◌, arith, bit_or, mod-eq_of_lt, zero-add}
use Rattle.store_spec.proofs.Common.{le-leb, lt-leb, mark_set, option_map, sum_by-cons}
use Rattle.std.proofs.lemmas.Nat.{or_comm, or_shifted, pow_below}
use Rattle.std.proofs.Common.{pow_mono, pow-suc}
use Rattle.ballot_record.specs.LineReading.{digits_at, past_byte, with_first, choices_at}
use Rattle.ballot_record.proofs.LineNumbers.{number_takes}
use Rattle.ballot_record.specs.Line.{set_seen}

-- a set and the choices that follow, as one set
abbrev pub after_set : ℕ → List ℕ × List ℕ → ℕ × List ℕ
after_set set found = (set + mark_set found.0, found.1)

pub after_no_set : (o : Option (List ℕ × List ℕ)) → option_map (after_set 0) o ≡ option_map set_seen o
after_no_set None = refl
after_no_set (Some found) = ap (λ n. Some (n, found.1)) (zero-add (mark_set found.0))

-- ---- what follows a byte, or not

abbrev pub rest_past : ℕ → List ℕ → Option (List ℕ)
rest_past wanted bytes = past_byte wanted bytes (λ rest. Some rest) None

by_test : {A : Type 0} (b : Bool) (bytes rest : List ℕ) (goes_on : List ℕ → A) (otherwise : A) → Some rest ≡ cond b (Some bytes) None → cond b (goes_on bytes) otherwise ≡ goes_on rest
by_test true bytes rest goes_on otherwise e = let same : bytes ≡ rest = cc in ap goes_on same
by_test false bytes rest goes_on otherwise e = absurd cc

pub when_past : {A : Type 0} (wanted : ℕ) (bytes rest : List ℕ) (goes_on : List ℕ → A) (otherwise : A) → Some rest ≡ rest_past wanted bytes → past_byte wanted bytes goes_on otherwise ≡ goes_on rest
when_past wanted [] rest goes_on otherwise e = absurd cc
when_past wanted (byte ∷ bytes) rest goes_on otherwise e = by_test (eqb byte wanted) bytes rest goes_on otherwise e

by_no_test : {A : Type 0} (b : Bool) (bytes : List ℕ) (goes_on : List ℕ → A) (otherwise : A) → None ≡ cond b (Some bytes) None → cond b (goes_on bytes) otherwise ≡ otherwise
by_no_test true bytes goes_on otherwise e = absurd cc
by_no_test false bytes goes_on otherwise e = refl

pub when_not_past : {A : Type 0} (wanted : ℕ) (bytes : List ℕ) (goes_on : List ℕ → A) (otherwise : A) → None ≡ rest_past wanted bytes → past_byte wanted bytes goes_on otherwise ≡ otherwise
when_not_past wanted [] goes_on otherwise e = refl
when_not_past wanted (byte ∷ bytes) goes_on otherwise e = by_no_test (eqb byte wanted) bytes goes_on otherwise e

-- ---- one choice more

pub no_choices : (most more last : ℕ) (rest : List ℕ) → None ≡ digits_at most 0 rest → choices_at most more last rest ≡ None
unfolding choices_at
no_choices most zero last rest none = refl
no_choices most (suc more) last rest none = rw (sym none) refl

pub falls_to_none : (most more last : ℕ) (rest : List ℕ) (choice : ℕ) (after : List ℕ) → Some (choice, after) ≡ digits_at most 0 rest → choice ≤ last → choices_at most more last rest ≡ None
unfolding choices_at
falls_to_none most zero last rest choice after found low = refl
falls_to_none most (suc more) last rest choice after found low = rw (sym found, le-leb choice last low) refl

pub within_most : (most : ℕ) → most ≤ 64 → (rest : List ℕ) (choice : ℕ) (after : List ℕ) → Some (choice, after) ≡ digits_at most 0 rest → (1 ≤ choice) × (choice ≤ most)
within_most most few rest choice after found = let at = number_takes most (omega arith) rest choice after (sym found) in (at.some, at.within)

set_below : (set last next : ℕ) → set < 2 ^ last → last ≤ next → set < 2 ^ next
set_below set last next small le = omega (arith, pow_mono le)

doubled : (choice : ℕ) → 1 ≤ choice → 2 ^ choice ≡ 2 * 2 ^ (choice - 1)
doubled choice some = let same : choice ≡ suc (choice - 1) = omega arith in
    ap (λ n. 2 ^ n) same ∙ pow-suc 2 (choice - 1) ∙ omega arith

pub set_grows : (set last choice : ℕ) → set < 2 ^ last → last < choice → choice ≤ 64 → (bit_or set (1 * 2 ^ (choice - 1) % 2 ^ 64) ≡ set + 2 ^ (choice - 1)) × (set + 2 ^ (choice - 1) < 2 ^ choice)
set_grows set last choice small above few =
    let below : set < 2 ^ (choice - 1) = set_below set last (choice - 1) small (omega arith) in
    let fits : 2 ^ (choice - 1) < 2 ^ 64 = pow_below (choice - 1) 64 (omega arith) in
    let bit : 1 * 2 ^ (choice - 1) % 2 ^ 64 ≡ 1 * 2 ^ (choice - 1) = mod-eq_of_lt (omega arith) in
    let twice : 2 ^ choice ≡ 2 * 2 ^ (choice - 1) = doubled choice (omega arith) in
    (ap (bit_or set) bit ∙ or_comm set (1 * 2 ^ (choice - 1)) ∙ or_shifted 1 (choice - 1) set below ∙ omega arith, omega arith)

abbrev comes_of : ℕ → ℕ → ℕ → List ℕ → Option (List ℕ × List ℕ)
comes_of most more choice after = past_byte 44 after (λ rest. option_map (with_first choice) (choices_at most more choice rest)) (Some (choice ∷ [], after))

one_choice : (most more last : ℕ) (rest : List ℕ) (choice : ℕ) (after : List ℕ) → Some (choice, after) ≡ digits_at most 0 rest → last < choice → choices_at most (suc more) last rest ≡ comes_of most more choice after
unfolding choices_at
one_choice most more last rest choice after found above = rw (sym found, lt-leb choice last above) refl

with_choice : (set choice : ℕ) (o : Option (List ℕ × List ℕ)) → option_map (after_set (set + 2 ^ (choice - 1))) o ≡ option_map (after_set set) (option_map (with_first choice) o)
with_choice set choice None = refl
with_choice set choice (Some found) =
    let sum : set + 2 ^ (choice - 1) + mark_set found.0 ≡ set + mark_set (choice ∷ found.0) = omega (arith, sum_by-cons (λ (c : ℕ). 2 ^ (c - 1)) choice found.0) in
    ap (λ n. Some (n, found.1)) sum

pub choice_goes_on : (most : ℕ) → most ≤ 64 → (set more last : ℕ) (rest : List ℕ) (choice : ℕ) (after next : List ℕ) → Some (choice, after) ≡ digits_at most 0 rest → last < choice → most ≤ more + last → Some next ≡ rest_past 44 after
    → (m : ℕ) × (most ≤ m + choice) × (option_map (after_set (set + 2 ^ (choice - 1))) (choices_at most m choice next) ≡ option_map (after_set set) (choices_at most more last rest))
choice_goes_on most few set zero last rest choice after next found above room comma = absurd (omega (arith, (within_most most few rest choice after found).1))
choice_goes_on most few set (suc more) last rest choice after next found above room comma = (
  more,
  omega arith,
  with_choice set choice (choices_at most more choice next)
      ∙ ap (option_map (after_set set)) (sym (one_choice most more last rest choice after found above ∙ when_past 44 after next _ (Some (choice ∷ [], after)) comma)),
)

pub choice_ends : (most : ℕ) → most ≤ 64 → (set more last : ℕ) (rest : List ℕ) (choice : ℕ) (after : List ℕ) → Some (choice, after) ≡ digits_at most 0 rest → last < choice → most ≤ more + last → None ≡ rest_past 44 after
    → Some (set + 2 ^ (choice - 1), after) ≡ option_map (after_set set) (choices_at most more last rest)
choice_ends most few set zero last rest choice after found above room none = absurd (omega (arith, (within_most most few rest choice after found).1))
choice_ends most few set (suc more) last rest choice after found above room none =
    let alone : Option (List ℕ × List ℕ) = Some (choice ∷ [], after) in
    let sum : set + 2 ^ (choice - 1) ≡ set + mark_set (choice ∷ []) = omega (arith, sum_by-cons (λ (c : ℕ). 2 ^ (c - 1)) choice []) in
    ap (λ n. Some (n, after)) sum
    ∙ ap (option_map (after_set set)) (sym (one_choice most more last rest choice after found above ∙ when_not_past 44 after (λ rest. option_map (with_first choice) (choices_at most more choice rest)) alone none))
