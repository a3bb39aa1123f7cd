-- What the marks of a valid ballot are: a set for each contest, and nothing behind them.
use Rattle.std.proofs.Common.{◌≡◌, ℕ, suc, ◌+◌, ◌-◌, ◌^◌, ◌<◌, ◌≤◌, eqb, List, [], ◌∷◌, ◌++◌, length, get_or, take, drop, replicate, Option, Some, None, refl, sym, ap, subst, ◌∙◌, arith, length-drop, take-append-drop, get_or-drop, pow_mono, pow_pos, inl, inr}
use Rattle.store_spec.proofs.Common.{Ballot, Contest, Election, IsContest, IsElection, IsValid, MARK_SETS, cases_lt, choices_of, choices_on, cond_both, get_or_from_slice_get, get_or_past, is_on_style, most_choices, ne_eqb, option_map_or, set_width, slice_get, slice_get_within}
use Rattle.std.proofs.lemmas.Option.{slice_get_past}
use Rattle.ballot_record.proofs.Versions.{set_room}

offered : (o : Option Contest) (P : ℕ → Type 0) → P 0 → ((contest : Contest) → o ≡ Some contest → P contest.choices) → P (option_map_or (λ contest. contest.choices) o 0)
offered None P none some = none
offered (Some contest) P none some = some contest refl

pub choices_fit : (e : Election) (k : ℕ) → IsElection e → choices_of e k ≤ most_choices e
choices_fit e k valid =
    cond_both (eqb k 0) 0 (option_map_or (λ contest. contest.choices) (slice_get e.contests (k - 1)) 0) (λ n. n ≤ most_choices e) (λ _. omega arith)
    (λ _. offered (slice_get e.contests (k - 1)) (λ n. n ≤ most_choices e) (omega arith)
    (λ contest found. (subst (IsContest e) (get_or_from_slice_get e.contests (k - 1) contest contest found) (valid.each_contest (k - 1) contest (slice_get_within e.contests (k - 1) contest found))).few_choices))

no_choices : (e : Election) (k : ℕ) → length e.contests < k → choices_of e k ≡ 0
no_choices e k past = rw (ne_eqb k 0 (λ zero. omega arith), slice_get_past e.contests (k - 1) (omega arith)) refl

small_within : (e : Election) (x : Ballot) → IsElection e → IsValid e x → (i : ℕ) → i < MARK_SETS → get_or x.marks i 0 < 2 ^ most_choices e
small_within e x election valid i within =
    let place : i + 1 - 1 ≡ i = omega arith in
    let few : choices_on e x.style (i + 1) ≤ most_choices e = cond_both (is_on_style e x.style (i + 1)) (choices_of e (i + 1)) 0 (λ n. n ≤ most_choices e) (λ _. choices_fit e (i + 1) election) (λ _. omega arith) in
    let below : get_or x.marks i 0 < 2 ^ choices_on e x.style (i + 1) =
    let IsBelow : ℕ → Type 0 = λ j. get_or x.marks j 0 < 2 ^ choices_on e x.style (i + 1) in
    subst IsBelow place (valid.marked (i + 1) (omega arith) (omega arith)) in
    omega (arith, below, pow_mono few)

-- a mark set has no choice that no contest has
pub small_set : (e : Election) (x : Ballot) → IsElection e → IsValid e x → (i : ℕ) → get_or x.marks i 0 < 2 ^ most_choices e
small_set e x election valid i = elim (cases_lt i MARK_SETS) [
  | inl within ↦ small_within e x election valid i within
  | inr past ↦ subst (λ set. set < 2 ^ most_choices e) (sym (get_or_past x.marks i 0 (omega (arith, valid.every_set)))) (pow_pos (most_choices e))
]

-- so that the bytes of a set in a cell are enough for it
pub set_spellable : (e : Election) (x : Ballot) → IsElection e → IsValid e x → (i : ℕ) → get_or x.marks i 0 < 256 ^ set_width e
set_spellable e x election valid i = omega (arith, small_set e x election valid i, set_room e)

no_set : (e : Election) (x : Ballot) → IsValid e x → (i : ℕ) → length e.contests ≤ i → i < MARK_SETS → get_or x.marks i 0 ≡ 0
no_set e x valid i past within =
    let place : i + 1 - 1 ≡ i = omega arith in
    let none : choices_on e x.style (i + 1) ≡ 0 = cond_both (is_on_style e x.style (i + 1)) (choices_of e (i + 1)) 0 (λ n. n ≡ 0) (λ _. no_choices e (i + 1) (omega arith)) (λ _. refl) in
    let below : get_or x.marks i 0 < 2 ^ choices_on e x.style (i + 1) =
    let IsBelow : ℕ → Type 0 = λ j. get_or x.marks j 0 < 2 ^ choices_on e x.style (i + 1) in
    subst IsBelow place (valid.marked (i + 1) (omega arith) (omega arith)) in
    let one : 2 ^ choices_on e x.style (i + 1) ≡ 1 = ap (λ n. 2 ^ n) none in
    omega (arith, below, one)

all_zero : (sets : List ℕ) → ((i : ℕ) → i < length sets → get_or sets i 0 ≡ 0) → sets ≡ replicate (length sets) 0
all_zero [] zeros = refl
all_zero (set ∷ sets) zeros =
    let first : set ≡ 0 = zeros 0 (omega arith) in
    let rest = all_zero sets (λ i within. zeros (suc i) (omega arith)) in
    cc

pub marks_kept : (e : Election) (x : Ballot) → IsElection e → IsValid e x → x.marks ≡ take (length e.contests) x.marks ++ replicate (MARK_SETS - length e.contests) 0
marks_kept e x election valid =
    let n = length e.contests in
    let behind = drop n x.marks in
    let zeros : behind ≡ replicate (length behind) 0 = all_zero behind (λ i within.
    get_or-drop n x.marks i 0 ∙ no_set e x valid (n + i) (omega arith) (omega (arith, length-drop n x.marks, valid.every_set))) in
    let count : length behind ≡ MARK_SETS - n = omega (arith, length-drop n x.marks, valid.every_set) in
    sym (take-append-drop n x.marks) ∙ ap (λ rest. take n x.marks ++ rest) (zeros ∙ ap (λ k. replicate k 0) count)
