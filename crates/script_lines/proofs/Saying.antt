-- What each line of the generated script says.
use Rattle.std.proofs.Common.{◌≡◌, ℕ, zero, suc, ◌+◌, ◌*◌, ◌/◌, ◌%◌, ◌^◌, ◌<◌, ◌≤◌, List, [], ◌∷◌, ◌++◌, length, map, refl, ap, ◌∙◌, arith, mod-lt}
use Rattle.store_spec.proofs.Common.{AllZip, Casting, Checkpoint, Close, Election, IsElection, IsTab, Open, Says, Some, Tally, Withdrawing, codes, lines_of, open_text, range_with_len, record_line, script_limit, taken_lines, taken_within}
use Rattle.ballot_record.proofs.LineLaws.{spells_its_ballot}
use Rattle.outside_io.proofs.FirstLine.{all_within}
use Rattle.script_lines.proofs.Brief.{all_brief}
use Rattle.script_lines.proofs.GeneratedBallots.{valid_ballot}
use Rattle.script_lines.proofs.Left.{length_generated}
use Rattle.script_lines.proofs.LineEnds.{lines_again, lines_taken, text_length}
use Rattle.script_lines.proofs.Numbers.{some}
use Rattle.script_lines.specs.Generated.{ballot_count, cast_line, cast_said, generated, generated_ballot, generated_script, generated_text, withdraw_line, withdraw_said}

-- ---- lists that say something, one behind the other

each_of_range : {A B : Type 0} (R : A → B → Type 0) (f : ℕ → A) (g : ℕ → B) (a n : ℕ) → ((i : ℕ) → a ≤ i → i < a + n → R (f i) (g i)) → AllZip R (map f (range_with_len a n)) (map g (range_with_len a n))
each_of_range R f g a zero each = tt
each_of_range R f g a (suc n) each = (each a (omega arith) (omega arith), each_of_range R f g (a + 1) n (λ i low high. each i (omega arith) (omega arith)))

one_behind : {A B : Type 0} (R : A → B → Type 0) (xs us : List A) (ys vs : List B) → AllZip R xs ys → AllZip R us vs → AllZip R (xs ++ us) (ys ++ vs)
one_behind R [] us [] vs first second = second
one_behind R [] us (y ∷ ys) vs first second = absurd first
one_behind R (x ∷ xs) us [] vs first second = absurd first
one_behind R (x ∷ xs) us (y ∷ ys) vs first second = (first.0, one_behind R xs us ys vs first.1 second)

-- ---- the lines

a_tab : (i tabs : ℕ) → IsTab tabs → IsTab (1 + i % tabs)
a_tab i tabs is = (omega arith, omega (arith, mod-lt i is.0, is.1))

casts : (e : Election) (seed tabs i : ℕ) → IsElection e → seed < 2 ^ 32 → IsTab tabs → 1 ≤ i → i < 2 ^ 32 → Says e (cast_line e seed tabs i) (cast_said e seed tabs i)
casts e seed tabs i election small is positive few = (
  a_tab i tabs is,
  record_line e (generated_ballot e seed i),
  refl,
  spells_its_ballot e (generated_ballot e seed i) election (valid_ballot e seed i election small positive few),
)

withdraws : (e : Election) (seed tabs j : ℕ) → seed < 2 ^ 32 → IsTab tabs → 1 ≤ j → j < 2 ^ 32 → Says e (withdraw_line seed tabs j) (withdraw_said seed tabs j)
withdraws e seed tabs j small is positive few = (
  a_tab j tabs is,
  (some seed (10 * j) (omega arith) (omega arith), mod-lt ((seed + 10 * j) * 0xD1342543DE82EF95) (omega arith)),
  refl,
)

pub all_say : (e : Election) (seed count tabs : ℕ) → IsElection e → seed < 2 ^ 32 → IsTab tabs → AllZip (Says e) (generated e seed count tabs) (generated_script e seed count tabs)
all_say e seed count tabs election small is =
    let n = ballot_count e count in
    let few = election.few_ballots in
    let cast_part = each_of_range (Says e) (cast_line e seed tabs) (cast_said e seed tabs) 1 n (λ i low high. casts e seed tabs i election small is low (omega arith)) in
    let withdraw_part = each_of_range (Says e) (withdraw_line seed tabs) (withdraw_said seed tabs) 1 (n / 10) (λ j low high. withdraws e seed tabs j small is low (omega arith)) in
    let cast_lines = open_text Casting tabs ∷ map (cast_line e seed tabs) (range_with_len 1 n) in
    let casts_said = Open Casting tabs ∷ map (cast_said e seed tabs) (range_with_len 1 n) in
    let withdraw_lines = codes "close" ∷ open_text Withdrawing tabs ∷ map (withdraw_line seed tabs) (range_with_len 1 (n / 10)) in
    let withdraws_said = Close ∷ Open Withdrawing tabs ∷ map (withdraw_said seed tabs) (range_with_len 1 (n / 10)) in
    let closing = codes "close" ∷ codes "checkpoint" ∷ codes "tally" ∷ [] in
    let first : AllZip (Says e) cast_lines casts_said = ((is, refl), cast_part) in
    let second : AllZip (Says e) withdraw_lines withdraws_said = (refl, ((is, refl), withdraw_part)) in
    let third : AllZip (Says e) closing (Close ∷ Checkpoint ∷ Tally ∷ []) = (refl, (refl, (refl, tt))) in
    one_behind (Says e) (cast_lines ++ withdraw_lines) closing (casts_said ++ withdraws_said) (Close ∷ Checkpoint ∷ Tally ∷ [])
    (one_behind (Says e) cast_lines withdraw_lines casts_said withdraws_said first second) third

-- ---- their text

pub read_again : (e : Election) (seed count tabs : ℕ) → IsElection e → seed < 2 ^ 32 → IsTab tabs → lines_of (generated_text e seed count tabs) ≡ generated e seed count tabs
read_again e seed count tabs election small is = lines_again e (generated e seed count tabs) (generated_script e seed count tabs) (all_say e seed count tabs election small is)

pub within_limit : (e : Election) (seed count tabs : ℕ) → IsElection e → seed < 2 ^ 32 → IsTab tabs → length (generated_text e seed count tabs) ≤ script_limit
within_limit e seed count tabs election small is =
    let few = election.few_ballots in
    omega (arith, length_generated e seed count tabs, text_length (generated e seed count tabs) (all_brief e seed count tabs election is))

pub all_taken : (e : Election) (seed count tabs : ℕ) → IsElection e → seed < 2 ^ 32 → IsTab tabs → taken_within script_limit (generated_text e seed count tabs) ≡ map (λ line. Some line) (generated e seed count tabs)
all_taken e seed count tabs election small is =
    ap taken_lines (all_within script_limit (generated_text e seed count tabs) (within_limit e seed count tabs election small is) ∙ read_again e seed count tabs election small is)
    ∙ lines_taken e (generated e seed count tabs) (generated_script e seed count tabs) (all_say e seed count tabs election small is)
