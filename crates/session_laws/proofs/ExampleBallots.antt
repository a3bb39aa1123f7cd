-- Ballots of the example election, and the lines that spell them.
use Rattle.std.proofs.Common.{◌≡◌, ℕ, zero, suc, ◌+◌, ◌-◌, ◌^◌, ◌<◌, ◌≤◌, List, [], ◌∷◌, Some, codes, length, replicate, refl, sym, subst, arith, ap, get_or}
use Rattle.store_spec.proofs.Common.{Ballot, IsValid, MARK_SETS, RecordLine, Spells, ballot_of_line, choices_on, eqb-false, example, example_ballot, get_or-replicate, pow_pos, slice_index}
use Rattle.store_spec.specs.Election.{in_version}
use Rattle.ballot_record.proofs.LineWhole.{line_takes}
use Rattle.ballot_record.specs.LineReading.{digits_at, choices_at, group_at, groups_of, parsed_line}
use Rattle.session_laws.specs.SessionFigures.{one_way, other_way}

-- sets of these sizes fit the two contests
marks_at : (first second : ℕ) → first < 2 ^ 4 → second < 2 ^ 3 → (k j : ℕ) → k ≡ j + 1 → j < MARK_SETS → slice_index (first ∷ second ∷ replicate 22 0) j < 2 ^ choices_on example 1 k
marks_at first second low lower k zero is within = subst (λ (k : ℕ). first < 2 ^ choices_on example 1 k) (sym is) low
marks_at first second low lower k (suc zero) is within = subst (λ (k : ℕ). second < 2 ^ choices_on example 1 k) (sym is) lower
marks_at first second low lower k (suc (suc j)) is within =
    subst (λ (n : ℕ). n < 2 ^ choices_on example 1 k) (sym (get_or-replicate 22 j 0 0 (omega arith))) (pow_pos (choices_on example 1 k))

-- ballots of the example with these numbers and sets are valid
pub valid : (number first second : ℕ) → 1 ≤ number → number < 2 ^ 64 → first < 2 ^ 4 → second < 2 ^ 3 → IsValid example (example_ballot number first second)
valid number first second some short low lower = record {
  some_number = some;
  short_number = short;
  some_style = omega arith;
  known_style = omega arith;
  every_set = refl;
  marked = λ k one last. marks_at first second low lower k (k - 1) (omega arith) (omega arith);
}

-- a line that is read spells its ballot
pub spells : (rest : List ℕ) (line : RecordLine) → parsed_line example rest ≡ Some line → length line.groups ≡ 2 → IsValid example (ballot_of_line line) → Spells example rest (ballot_of_line line)
spells rest line read two valid = record { line = line; reads = line_takes example rest line read; a_group_each = two; is = refl; valid = valid }

-- the lines of the figures spell their ballots
pub spells_1 : Spells example (codes "1 1 2/1,3") (example_ballot 1 2 5)
unfolding parsed_line groups_of group_at choices_at digits_at in_version
spells_1 = spells (codes "1 1 2/1,3") (record { number = 1; style = 1; groups = (2 ∷ []) ∷ (1 ∷ 3 ∷ []) ∷ [] }) refl refl (valid 1 2 5 (omega arith) (omega arith) (omega arith) (omega arith))

pub spells_9 : Spells example (codes "9 1 1/-") (example_ballot 9 1 0)
unfolding parsed_line groups_of group_at choices_at digits_at in_version
spells_9 = spells (codes "9 1 1/-") (record { number = 9; style = 1; groups = (1 ∷ []) ∷ [] ∷ [] }) refl refl (valid 9 1 0 (omega arith) (omega arith) (omega arith) (omega arith))

pub spells_14 : Spells example (codes "14 1 -/2") (example_ballot 14 0 2)
unfolding parsed_line groups_of group_at choices_at digits_at in_version
spells_14 = spells (codes "14 1 -/2") (record { number = 14; style = 1; groups = [] ∷ (2 ∷ []) ∷ [] }) refl refl (valid 14 0 2 (omega arith) (omega arith) (omega arith) (omega arith))

pub spells_22 : Spells example (codes "22 1 -/-") (example_ballot 22 0 0)
unfolding parsed_line groups_of group_at choices_at digits_at in_version
spells_22 = spells (codes "22 1 -/-") (record { number = 22; style = 1; groups = [] ∷ [] ∷ [] }) refl refl (valid 22 0 0 (omega arith) (omega arith) (omega arith) (omega arith))

pub spells_one_way : Spells example (codes "6 1 1/-") one_way
unfolding parsed_line groups_of group_at choices_at digits_at in_version
spells_one_way = spells (codes "6 1 1/-") (record { number = 6; style = 1; groups = (1 ∷ []) ∷ [] ∷ [] }) refl refl (valid 6 1 0 (omega arith) (omega arith) (omega arith) (omega arith))

pub spells_other_way : Spells example (codes "6 1 2/-") other_way
unfolding parsed_line groups_of group_at choices_at digits_at in_version
spells_other_way = spells (codes "6 1 2/-") (record { number = 6; style = 1; groups = (2 ∷ []) ∷ [] ∷ [] }) refl refl (valid 6 2 0 (omega arith) (omega arith) (omega arith) (omega arith))

pub spells_5_unmarked : Spells example (codes "5 1 -/-") (example_ballot 5 0 0)
unfolding parsed_line groups_of group_at choices_at digits_at in_version
spells_5_unmarked = spells (codes "5 1 -/-") (record { number = 5; style = 1; groups = [] ∷ [] ∷ [] }) refl refl (valid 5 0 0 (omega arith) (omega arith) (omega arith) (omega arith))

pub spells_9_unmarked : Spells example (codes "9 1 -/-") (example_ballot 9 0 0)
unfolding parsed_line groups_of group_at choices_at digits_at in_version
spells_9_unmarked = spells (codes "9 1 -/-") (record { number = 9; style = 1; groups = [] ∷ [] ∷ [] }) refl refl (valid 9 0 0 (omega arith) (omega arith) (omega arith) (omega arith))

-- the two ballots differ
pub apart : one_way ≡ other_way → ⊥
apart same = eqb-false 1 2 refl (ap (λ (b : Ballot). get_or b.marks 0 0) same)
