-- The ballots of the generated script are valid ballots with distinct numbers.
use Rattle.std.proofs.Common.{◌≡◌, ◌≢◌, ℕ, ◌+◌, ◌-◌, ◌*◌, ◌/◌, ◌%◌, ◌^◌, ◌<◌, ◌≤◌, Bool, true, false, cond, eqb, inl, inr, length, get_or, refl, sym, ap, subst, ◌∙◌, arith, mod-lt}
use Rattle.store_spec.proofs.Common.{Ballot, Contest, Election, IsElection, IsValid, MARK_SETS, Some, cases_lt, choices_of, choices_on, get_or-map, get_or-map-range_with_len, is_on_style, length-map, length-map-range_with_len, ne_eqb, numbers_of, pow_below, pow_pos, slice_get, slice_get-get_or}
use Rattle.std.specs.Prelude.{All, AllPairs, Contains}
use Rattle.ballot_record.proofs.OnStyle.{past_contests}
use Rattle.script_lines.proofs.Numbers.{apart, some}
use Rattle.script_lines.specs.Generated.{ballot_count, cast_ballots, generated_ballot, generated_number, marks_at, style_at, withdrawn_numbers}

-- ---- the marks

-- a contest on a style has a choice
pub some_choice : (e : Election) (s k : ℕ) → IsElection e → 1 ≤ s → s ≤ length e.styles → 1 ≤ k → is_on_style e s k ≡ true → 1 ≤ choices_of e k
some_choice e s k election some_style known positive on =
    elim (cases_lt (length e.contests) k) [
      | inl past ↦ absurd (let off : true ≡ false = sym on ∙ past_contests e s k election (λ zero. omega arith) known past in cc)
      | inr within ↦
          let none : Contest = record { choices = 0; allowed = 0 } in
          let contest = get_or e.contests (k - 1) none in
          let found : slice_get e.contests (k - 1) ≡ Some contest = slice_get-get_or e.contests (k - 1) none (omega arith) in
          rw (ne_eqb k 0 (λ zero. omega arith), found) ((election.each_contest (k - 1) none (omega arith)).some_choice)
    ]

marks_fit : (e : Election) (i k : ℕ) → IsElection e → 1 ≤ k → marks_at e i k < 2 ^ choices_on e (style_at e i) k
marks_fit e i k election positive =
    let s = style_at e i in
    let styles : i % length e.styles < length e.styles = mod-lt i election.some_style in
    let chosen : (seventh : Bool) → 1 ≤ choices_of e k → cond seventh 0 (2 ^ ((i + k) % choices_of e k)) < 2 ^ choices_of e k = elim [
      | true ↦ λ offered. pow_pos (choices_of e k)
      | false ↦ λ offered. pow_below ((i + k) % choices_of e k) (choices_of e k) (mod-lt (i + k) offered)
    ] in
    let both : (on : Bool) → (on ≡ true → 1 ≤ choices_of e k) → cond on (cond (eqb (i % 7) 0) 0 (2 ^ ((i + k) % choices_of e k))) 0 < 2 ^ cond on (choices_of e k) 0 = elim [
      | true ↦ λ offered. chosen (eqb (i % 7) 0) (offered refl)
      | false ↦ λ offered. pow_pos 0
    ] in
    both (is_on_style e s k) (some_choice e s k election (omega arith) (omega arith) positive)

-- ---- the ballots

pub valid_ballot : (e : Election) (seed i : ℕ) → IsElection e → seed < 2 ^ 32 → 1 ≤ i → i < 2 ^ 32 → IsValid e (generated_ballot e seed i)
valid_ballot e seed i election small positive few =
    let styles : i % length e.styles < length e.styles = mod-lt i election.some_style in
    record {
      some_number = some seed i (omega arith) positive;
      short_number = mod-lt ((seed + i) * 0xD1342543DE82EF95) (omega arith);
      some_style = omega arith;
      known_style = omega arith;
      every_set = length-map-range_with_len (marks_at e i) 1 MARK_SETS;
      marked = λ k first last.
          let set : get_or (generated_ballot e seed i).marks (k - 1) 0 ≡ marks_at e i k = get_or-map-range_with_len (marks_at e i) 1 MARK_SETS (k - 1) k 0 (omega arith) (omega arith) in
          subst (λ n. n < 2 ^ choices_on e (style_at e i) k) (sym set) (marks_fit e i k election first);
    }

-- the ballot at a place
pub cast_at : (e : Election) (seed count place : ℕ) (other : Ballot) → place < length (cast_ballots e seed count) → get_or (cast_ballots e seed count) place other ≡ generated_ballot e seed (1 + place)
cast_at e seed count place other within =
    get_or-map-range_with_len (generated_ballot e seed) 1 (ballot_count e count) place (1 + place) other (omega (arith, length-map-range_with_len (generated_ballot e seed) 1 (ballot_count e count))) refl

pub cast_count : (e : Election) (seed count : ℕ) → length (cast_ballots e seed count) ≡ ballot_count e count
cast_count e seed count = length-map-range_with_len (generated_ballot e seed) 1 (ballot_count e count)

pub all_valid : (e : Election) (seed count : ℕ) → IsElection e → seed < 2 ^ 32 → All (IsValid e) (cast_ballots e seed count)
all_valid e seed count election small place other within =
    let few = election.few_ballots in
    subst (IsValid e) (sym (cast_at e seed count place other within)) (valid_ballot e seed (1 + place) election small (omega arith) (omega (arith, cast_count e seed count)))

pub all_apart : (e : Election) (seed count : ℕ) → IsElection e → seed < 2 ^ 32 → AllPairs (λ a b. a.number ≢ b.number) (cast_ballots e seed count)
all_apart e seed count election small i j other less within =
    let few = election.few_ballots in
    let total = cast_count e seed count in
    let number : Ballot → ℕ = λ b. b.number in
    λ same.
    let places = apart seed (1 + i) (1 + j) (omega arith) (omega arith)
    (sym (ap number (cast_at e seed count i other (omega arith))) ∙ same ∙ ap number (cast_at e seed count j other within)) in
    omega (arith, places)

-- each number that is withdrawn is that of a ballot
pub withdrawn_among : (e : Election) (seed count : ℕ) → All (Contains (numbers_of (cast_ballots e seed count))) (withdrawn_numbers e seed count)
withdrawn_among e seed count place other within =
    let n = ballot_count e count in
    let tenths = length-map-range_with_len (λ j. generated_number seed (10 * j)) 1 (n / 10) in
    let ballots = cast_ballots e seed count in
    let number : Ballot → ℕ = λ b. b.number in
    let at = 10 * (1 + place) - 1 in
    let first = generated_ballot e seed 1 in
    let x = get_or (withdrawn_numbers e seed count) place other in
    let is : x ≡ generated_number seed (10 * (1 + place)) = get_or-map-range_with_len (λ j. generated_number seed (10 * j)) 1 (n / 10) place (1 + place) other (omega arith) refl in
    let inside : at < length ballots = omega (arith, cast_count e seed count) in
    let of_ballot : get_or (numbers_of ballots) at x ≡ generated_number seed (1 + at) =
    get_or-map number ballots at first x inside ∙ ap number (cast_at e seed count at first inside) in
    let same : 1 + at ≡ 10 * (1 + place) = omega arith in
    (at, omega (arith, length-map ballots number), of_ballot ∙ ap (generated_number seed) same ∙ sym is)
