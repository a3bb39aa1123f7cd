-- The laws of record lines.
use Rattle.std.proofs.Common.{◌≡◌, ℕ, suc, ◌+◌, ◌-◌, ◌*◌, ◌^◌, ◌<◌, ◌≤◌, inl, inr, List, [], ◌∷◌, ◌++◌, length, get_or, take, map, replicate, None, refl, sym, ap, subst, ◌∙◌, arith, length-append, length-take, take_at, get_or-take, pow_mono}
use Rattle.store_spec.proofs.Common.{All-from_recursion, AllByRecursion, Ballot, Election, IsElection, IsGroup, IsRecordLine, IsValid, MARK_SETS, RecordLine, Spells, cases_lt, choices_in, decimal, group_text, length-decimal-le, length-map, mark_set, most_choices, mul-suc, none-some, record_line, recursion_from_All, same_Some}
use Rattle.std.specs.Prelude.{All, ◌↔◌}
use Rattle.store_spec.specs.BallotLine.{ReadsAs, line_text, longest_line, ballot_of_line, line_of_ballot}
use Rattle.std.proofs.Math.Nat.{mul-le-mul_left, mul-one}
use Rattle.ballot_record.proofs.Versions.{contests_fit, few_choices, longest, some_choices}
use Rattle.ballot_record.proofs.LineGroups.{RisesFrom, choices_text, rises_from_IsGroup}
use Rattle.ballot_record.specs.LineReading.{parsed_line}
use Rattle.ballot_record.proofs.LineWhole.{groups_text, line_again}
use Rattle.ballot_record.proofs.ValidMarks.{small_set, marks_kept}
use Rattle.ballot_record.proofs.MarkSets.{mark_set-cons, doubled, IsGroup-choices_in, mark_set-choices_in, choices_in-mark_set}

pub one_reading : (e : Election) (bytes : List ℕ) (x y : RecordLine) → ReadsAs e bytes x → ReadsAs e bytes y → x ≡ y
one_reading e bytes x y first second = same_Some x y (sym (line_again e bytes x first) ∙ line_again e bytes y second)

-- ---- how long a line is

choice_length : (choice : ℕ) → choice ≤ 64 → (length (decimal choice) ≤ 2) × (choice < 10 → length (decimal choice) ≤ 1)
choice_length choice few = (length-decimal-le 2 choice (omega arith) (omega arith) (omega arith), λ one. length-decimal-le 1 choice (omega arith) (omega arith) (omega arith))

-- nine choices have one digit each, the others two, and all but one have a comma
choices_length : (most : ℕ) → 9 ≤ most → most ≤ 64 → (last choice : ℕ) (choices : List ℕ) → RisesFrom most last (choice ∷ choices) → length (choices_text (choice ∷ choices)) + 1 + (9 - last) ≤ 3 * (most - last)
choices_length most some few last choice [] rises =
    let digits = choice_length choice (omega (arith, rises.1)) in
    elim (cases_lt choice 10) [
      | inl one ↦ omega (arith, digits.1 one, rises.0, rises.1)
      | inr two ↦ omega (arith, digits.0, rises.0, rises.1)
    ]
choices_length most some few last choice (next ∷ choices) rises =
    let digits = choice_length choice (omega (arith, rises.1)) in
    let rest = choices_length most some few choice next choices rises.2 in
    let whole = length-append (decimal choice) (44 ∷ choices_text (next ∷ choices)) in
    elim (cases_lt choice 10) [
      | inl one ↦ omega (arith, digits.1 one, rest, whole, rises.0, rises.1)
      | inr two ↦ omega (arith, digits.0, rest, whole, rises.0, rises.1)
    ]

group_length : (e : Election) (choices : List ℕ) → IsGroup e choices → length (group_text choices) + 10 ≤ 3 * most_choices e
group_length e [] group = omega (arith, some_choices e)
group_length e (choice ∷ choices) group = omega (arith, choices_length (most_choices e) (some_choices e) (few_choices e) 0 choice choices (rises_from_IsGroup e (choice ∷ choices) group))

groups_length : (e : Election) (group : List ℕ) (groups : List (List ℕ)) → AllByRecursion (IsGroup e) (group ∷ groups) → length (groups_text (group ∷ groups)) + 1 ≤ (3 * most_choices e - 9) * length (group ∷ groups)
groups_length e group [] each = omega (arith, group_length e group each.0, mul-one (3 * most_choices e - 9))
groups_length e group (next ∷ groups) each =
    omega (arith, group_length e group each.0, groups_length e next groups each.1, length-append (group_text group) (47 ∷ groups_text (next ∷ groups)), mul-suc (3 * most_choices e - 9) (length (next ∷ groups)))

all_groups_length : (e : Election) (groups : List (List ℕ)) → All (IsGroup e) groups → 1 ≤ length groups → length (groups_text groups) + 1 ≤ (3 * most_choices e - 9) * length groups
all_groups_length e [] each some = absurd (omega arith)
all_groups_length e (group ∷ groups) each some = groups_length e group groups (recursion_from_All (IsGroup e) (group ∷ groups) each)

pub short_lines : (e : Election) (bytes : List ℕ) → IsRecordLine e bytes → length bytes ≤ longest_line e
short_lines e bytes is =
    let line = is.0 in
    let reads = is.1 in
    let p = reads.parts in
    let number = length-decimal-le 20 line.number (omega arith) (omega (arith, p.short_number)) p.short_number in
    let style = length-decimal-le 3 line.style (omega arith) (omega (arith, p.short_style)) (omega (arith, p.short_style)) in
    let front = length-append (decimal line.number) (32 ∷ decimal line.style) in
    let whole = length-append (decimal line.number ++ (32 ∷ decimal line.style)) (32 ∷ groups_text line.groups) in
    omega (arith, ap length reads.spelled, number, style, front, whole, all_groups_length e line.groups p.each_group p.some_group, mul-le-mul_left (3 * most_choices e - 9) p.few_groups, longest e)

-- ---- a line and its ballot

pub one_ballot : (e : Election) (bytes : List ℕ) (x y : Ballot) → Spells e bytes x → Spells e bytes y → x ≡ y
one_ballot e bytes x y first second =
    first.is ∙ ap ballot_of_line (one_reading e bytes first.line second.line first.reads second.reads) ∙ sym second.is

same_groups : (e : Election) (xs ys : List (List ℕ)) → AllByRecursion (IsGroup e) xs → AllByRecursion (IsGroup e) ys → map mark_set xs ≡ map mark_set ys → xs ≡ ys
same_groups e [] [] first second same = refl
same_groups e [] (y ∷ ys) first second same = absurd cc
same_groups e (x ∷ xs) [] first second same = absurd cc
same_groups e (x ∷ xs) (y ∷ ys) first second same =
    let set : mark_set x ≡ mark_set y = cc in
    let sets : map mark_set xs ≡ map mark_set ys = cc in
    let group : x ≡ y = sym (choices_in-mark_set e x first.0) ∙ ap (choices_in e) set ∙ choices_in-mark_set e y second.0 in
    let groups = same_groups e xs ys first.1 second.1 sets in
    cc

same_front : (xs ys vs ws : List ℕ) → length xs ≡ length ys → xs ++ vs ≡ ys ++ ws → xs ≡ ys
same_front xs ys vs ws long same = sym (take_at xs vs (length xs) refl) ∙ ap (take (length xs)) same ∙ take_at ys ws (length xs) (sym long)

same_line : (x y : RecordLine) → x.number ≡ y.number → x.style ≡ y.style → x.groups ≡ y.groups → x ≡ y
same_line x y number style groups =
    let made : ℕ → ℕ → List (List ℕ) → RecordLine = λ n s gs. record { number = n; style = s; groups = gs } in
    ap (λ n. made n x.style x.groups) number ∙ ap (λ s. made y.number s x.groups) style ∙ ap (made y.number y.style) groups

pub one_spelling : (e : Election) (a b : List ℕ) (x : Ballot) → Spells e a x → Spells e b x → a ≡ b
one_spelling e a b x first second =
    let same : ballot_of_line first.line ≡ ballot_of_line second.line = sym first.is ∙ second.is in
    let count : length first.line.groups ≡ length second.line.groups = first.a_group_each ∙ sym second.a_group_each in
    let sets : map mark_set first.line.groups ≡ map mark_set second.line.groups =
    same_front (map mark_set first.line.groups) (map mark_set second.line.groups) _ _ (length-map first.line.groups mark_set ∙ count ∙ sym (length-map second.line.groups mark_set)) (ap (λ (b : Ballot). b.marks) same) in
    let groups = same_groups e first.line.groups second.line.groups (recursion_from_All (IsGroup e) first.line.groups first.reads.parts.each_group) (recursion_from_All (IsGroup e) second.line.groups second.reads.parts.each_group) sets in
    first.reads.spelled
    ∙ ap line_text (same_line first.line second.line (ap (λ (b : Ballot). b.number) same) (ap (λ (b : Ballot). b.style) same) groups)
    ∙ sym second.reads.spelled

-- ---- a line for each ballot

sets_again : (e : Election) (sets : List ℕ) → ((i : ℕ) → i < length sets → get_or sets i 0 < 2 ^ most_choices e) → map mark_set (map (choices_in e) sets) ≡ sets
sets_again e [] small = refl
sets_again e (set ∷ sets) small =
    let first : mark_set (choices_in e set) ≡ set = mark_set-choices_in e set (small 0 (omega arith)) in
    let rest = sets_again e sets (λ i within. small (suc i) (omega arith)) in
    cc

groups_valid : (e : Election) (sets : List ℕ) → AllByRecursion (IsGroup e) (map (choices_in e) sets)
groups_valid e [] = tt
groups_valid e (set ∷ sets) = (IsGroup-choices_in e set, groups_valid e sets)

ballot_again : (e : Election) (x : Ballot) → IsElection e → IsValid e x → x ≡ ballot_of_line (line_of_ballot e x)
ballot_again e x election valid =
    let n = length e.contests in
    let front = take n x.marks in
    let groups = map (choices_in e) front in
    let front_length : length front ≡ n = omega (arith, length-take n x.marks, valid.every_set, contests_fit e election) in
    let sets : map mark_set groups ≡ front = sets_again e front (λ i within.
    subst (λ set. set < 2 ^ most_choices e) (sym (get_or-take n x.marks i 0 (omega (arith, front_length)))) (small_set e x election valid i)) in
    let count : MARK_SETS - n ≡ MARK_SETS - length groups = omega (arith, length-map front (choices_in e), front_length) in
    let marks : x.marks ≡ map mark_set groups ++ replicate (MARK_SETS - length groups) 0 =
    marks_kept e x election valid ∙ ap (λ k. front ++ replicate k 0) count ∙ ap (λ sets. sets ++ replicate (MARK_SETS - length groups) 0) (sym sets) in
    let made : List ℕ → Ballot = λ marks. record { number = x.number; style = x.style; marks = marks } in
    ap made marks

pub spells_its_ballot : (e : Election) (x : Ballot) → IsElection e → IsValid e x → Spells e (record_line e x) x
spells_its_ballot e x election valid =
    let n = length e.contests in
    let sets = take n x.marks in
    let count : length (map (choices_in e) sets) ≡ n = omega (arith, length-map sets (choices_in e), length-take n x.marks, valid.every_set, contests_fit e election) in
    record {
      line = line_of_ballot e x;
      reads = record {
        parts = record {
          some_number = valid.some_number;
          short_number = valid.short_number;
          some_style = valid.some_style;
          short_style = omega (arith, valid.known_style, election.few_styles);
          some_group = omega (arith, count, election.some_contest);
          few_groups = omega (arith, count, election.few_contests);
          each_group = All-from_recursion (IsGroup e) (map (choices_in e) sets) (groups_valid e sets);
        };
        spelled = refl;
      };
      a_group_each = count;
      is = ballot_again e x election valid;
      valid = valid;
    }

pub line_of_its_ballot : (e : Election) (bytes : List ℕ) (x : Ballot) → IsElection e → Spells e bytes x → bytes ≡ record_line e x
line_of_its_ballot e bytes x election is = one_spelling e bytes (record_line e x) x is (spells_its_ballot e x election is.valid)

-- ---- mark sets

choice_counts : (most : ℕ) (choices : List ℕ) (last n : ℕ) → RisesFrom most last choices → mark_set choices < 2 ^ n → AllByRecursion (λ choice. choice ≤ n) choices
choice_counts most [] last n rises small = tt
choice_counts most (choice ∷ choices) last n rises small =
    let sum = mark_set-cons choice choices in
    elim (cases_lt n choice) [
      | inl past ↦ let large : 2 ^ n ≤ 2 ^ (choice - 1) = pow_mono (omega arith) in absurd (omega arith)
      | inr within ↦ (within, choice_counts most choices choice n rises.2 (omega arith))
    ]

set_counts : (most : ℕ) (choices : List ℕ) (last n : ℕ) → RisesFrom most last choices → last ≤ n → AllByRecursion (λ choice. choice ≤ n) choices → mark_set choices + 2 ^ last ≤ 2 ^ n
set_counts most [] last n rises low offered = let power : 2 ^ last ≤ 2 ^ n = pow_mono low in omega arith
set_counts most (choice ∷ choices) last n rises low offered =
    let sum = mark_set-cons choice choices in
    let rest = set_counts most choices choice n rises.2 offered.0 offered.1 in
    let power : 2 ^ last ≤ 2 ^ (choice - 1) = pow_mono (omega (arith, rises.0)) in
    let twice : 2 ^ choice ≡ 2 * 2 ^ (choice - 1) = doubled choice (omega (arith, rises.0)) in
    omega arith

pub one_group : (e : Election) (a b : List ℕ) → IsGroup e a → IsGroup e b → mark_set a ≡ mark_set b → a ≡ b
one_group e a b first second same = sym (choices_in-mark_set e a first) ∙ ap (choices_in e) same ∙ choices_in-mark_set e b second

pub set_within : (e : Election) (choices : List ℕ) (n : ℕ) → IsGroup e choices → (mark_set choices < 2 ^ n) ↔ All (λ choice. choice ≤ n) choices
set_within e choices n group = (
  λ small. All-from_recursion (λ choice. choice ≤ n) choices (choice_counts (most_choices e) choices 0 n (rises_from_IsGroup e choices group) small),
  λ offered. omega (arith, set_counts (most_choices e) choices 0 n (rises_from_IsGroup e choices group) (omega arith) (recursion_from_All (λ choice. choice ≤ n) choices offered)),
)

-- ---- what is no line

pub not_read : (e : Election) (bytes : List ℕ) → parsed_line e bytes ≡ None → ¬ IsRecordLine e bytes
not_read e bytes none is = none-some is.0 (sym none ∙ line_again e bytes is.0 is.1)
