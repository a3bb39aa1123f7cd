-- The counts of a ballot, added to a tally contest by contest.
use Rattle.std.proofs.Common.{◌≡◌, ◌≢◌, ℕ, ◌+◌, ◌-◌, ◌/◌, ◌^◌, ◌<◌, ◌≤◌, Bool, true, false, bit_and, cond, eqb, inl, inr, List, [], ◌∷◌, get_or, length, replicate, refl, sym, ap, subst, ◌∙◌, arith}
use Rattle.store_spec.proofs.Common.{AllByRecursion, Ballot, Election, IsElection, IsValid, bit_at, cases_eq, cases_lt, count_ones, get_or-replicate, is_on_style, ne_eqb, overvotes, recursion_from_All, sum_by, undervotes, votes}
use Rattle.std.proofs.lemmas.Nat.Bits.{shr_and_one}
use Rattle.std.specs.Prelude.{All}
use Rattle.ballot_record.proofs.OnStyle.{past_contests}
use Rattle.store_spec.specs.Report.{allowed_of, ballots_with, is_overvote, marked_in}
use Rattle.tally_export.proofs.Adding.{overvotes_few, undervotes_few, votes_few}
use Rattle.tally_export.proofs.Counting.{sum_off, sum_on}
use Rattle.tally_export.specs.Counted.{AddsBallots, CountsSet, IsTallyOf, IsUpTo, choice_count}
use Rattle.tally_export.specs.declared.counts.Tally.{Tally}

-- no ballots have no counts
pub none_tallied : (e : Election)
    → IsTallyOf e [] (record { choices = replicate 24 (replicate 64 0); under = replicate 24 0; over = replicate 24 0 })
none_tallied e = record {
  choices = λ k c known within. ap (λ row. get_or row c 0) (get_or-replicate 24 k (replicate 64 0) [] known)
      ∙ get_or-replicate 64 c 0 0 within;
  under = λ k known. get_or-replicate 24 k 0 0 known;
  over = λ k known. get_or-replicate 24 k 0 0 known;
}

-- what ballots add up to was added in the first contests, and the counts of the others stay
pub record AddedTo (e : Election) (ballots : List Ballot) (n : ℕ) (before now : Tally) : Type 0 where
  pub choices : (k c : ℕ) → k < n → c < 64
      → choice_count now k c ≡ choice_count before k c + votes e ballots (k + 1) (c + 1)
  pub under : (k : ℕ) → k < n → get_or now.under k 0 ≡ get_or before.under k 0 + undervotes e ballots (k + 1)
  pub over : (k : ℕ) → k < n → get_or now.over k 0 ≡ get_or before.over k 0 + overvotes e ballots (k + 1)
  pub rest_choices : (k : ℕ) → n ≤ k → get_or now.choices k [] ≡ get_or before.choices k []
  pub rest_under : (k : ℕ) → n ≤ k → get_or now.under k 0 ≡ get_or before.under k 0
  pub rest_over : (k : ℕ) → n ≤ k → get_or now.over k 0 ≡ get_or before.over k 0

-- so no count is near the end of its type
pub few_added : (e : Election) (ballots : List Ballot) (n : ℕ) (before now : Tally) → IsElection e
    → length ballots ≤ 32768 → IsUpTo (2 ^ 62) before → AddedTo e ballots n before now → IsUpTo (2 ^ 63) now
few_added e ballots n before now election few room added = record {
  choices = λ k c known within. elim (cases_lt k n) [
    | inl first ↦ omega (arith, added.choices k c first within, room.choices k c known within, votes_few e ballots (k + 1) c)
    | inr past ↦ omega (arith, ap (λ row. get_or row c 0) (added.rest_choices k past), room.choices k c known within)
  ];
  under = λ k known. elim (cases_lt k n) [
    | inl first ↦ omega (arith, added.under k first, room.under k known, undervotes_few e ballots (k + 1) election)
    | inr past ↦ omega (arith, added.rest_under k past, room.under k known)
  ];
  over = λ k known. elim (cases_lt k n) [
    | inl first ↦ omega (arith, added.over k first, room.over k known, overvotes_few e ballots (k + 1))
    | inr past ↦ omega (arith, added.rest_over k past, room.over k known)
  ];
}

-- what holds of each place in front of one, and of this one, where nothing else was written
one_more : (P : ℕ → Type 0) (n : ℕ) → ((k : ℕ) → k < n → k ≢ n → P k) → P n → (k : ℕ) → k < n + 1 → P k
one_more P n front here k less = elim (cases_eq k n) [
  | inl same ↦ subst P (sym same) here
  | inr other ↦ front k (omega arith) other
]

-- the word of a style tells whether a contest is on it
bit_of : (e : Election) (style word place : ℕ) → ((k : ℕ) → 1 ≤ k → is_on_style e style k ≡ eqb (bit_at word (k - 1)) 1)
    → is_on_style e style (place + 1) ≡ eqb (bit_and (word / 2 ^ place) 1) 1
bit_of e style word place tells =
    tells (place + 1) (omega arith)
    ∙ ap (λ i. eqb (bit_at word i) 1) (let back : place + 1 - 1 ≡ place = omega arith in back)
    ∙ ap (λ bit. eqb bit 1) (sym (shr_and_one word place))

pub told_on : (e : Election) (style word place : ℕ) → ((k : ℕ) → 1 ≤ k → is_on_style e style k ≡ eqb (bit_at word (k - 1)) 1)
    → bit_and (word / 2 ^ place) 1 ≡ 1 → is_on_style e style (place + 1) ≡ true
told_on e style word place tells set = bit_of e style word place tells ∙ ap (λ bit. eqb bit 1) set

pub told_off : (e : Election) (style word place : ℕ) → ((k : ℕ) → 1 ≤ k → is_on_style e style k ≡ eqb (bit_at word (k - 1)) 1)
    → bit_and (word / 2 ^ place) 1 ≢ 1 → is_on_style e style (place + 1) ≡ false
told_off e style word place tells clear = bit_of e style word place tells ∙ ne_eqb (bit_and (word / 2 ^ place) 1) 1 clear

-- a ballot has the contest at the next place, and its mark set was counted there
pub set_added : (e : Election) (b : Ballot) (n allowed set : ℕ) (before was now : Tally)
    → is_on_style e b.style (n + 1) ≡ true → allowed ≡ allowed_of e (n + 1) → set ≡ get_or b.marks n 0
    → AddedTo e (b ∷ []) n before was → CountsSet n allowed set was now
    → AddedTo e (b ∷ []) (n + 1) before now
set_added e b n allowed set before was now on most marked added counts =
    let k = n + 1 in
    let p : Ballot → Bool = λ b. is_on_style e b.style k in
    let back : n ≡ k - 1 = omega arith in
    let same = marked ∙ ap (λ place. get_or b.marks place 0) back in
    let adds = subst (λ allowed. CountsSet n allowed (marked_in k b) was now) most
    (subst (λ set. CountsSet n allowed set was now) same counts) in
    record {
      choices = λ k' c less within. one_more
          (λ (k : ℕ). choice_count now k c ≡ choice_count before k c + votes e (b ∷ []) (k + 1) (c + 1)) n
          (λ k' first other. ap (λ row. get_or row c 0) (adds.other_choices k' other) ∙ added.choices k' c first within)
          (let here : c ≡ c + 1 - 1 = omega arith in
          omega (
            arith,
            adds.choices c within,
            ap (λ row. get_or row c 0) (added.rest_choices n (omega arith)),
            ap (λ place. cond (is_overvote e k b) 0 (bit_at (marked_in k b) place)) here,
            sum_on (λ b. cond (is_overvote e k b) 0 (bit_at (marked_in k b) (c + 1 - 1))) p b on,
          ))
          k' less;
      under = one_more (λ (k : ℕ). get_or now.under k 0 ≡ get_or before.under k 0 + undervotes e (b ∷ []) (k + 1)) n
          (λ k' first other. adds.other_under k' other ∙ added.under k' first)
          (omega (
            arith,
            adds.under,
            added.rest_under n (omega arith),
            sum_on (λ b. allowed_of e k - count_ones (marked_in k b)) p b on,
          ));
      over = one_more (λ (k : ℕ). get_or now.over k 0 ≡ get_or before.over k 0 + overvotes e (b ∷ []) (k + 1)) n
          (λ k' first other. adds.other_over k' other ∙ added.over k' first)
          (omega (
            arith,
            adds.over,
            added.rest_over n (omega arith),
            sum_on (λ b. cond (is_overvote e k b) 1 0) p b on,
          ));
      rest_choices = λ k' past. adds.other_choices k' (λ same. omega (arith, same)) ∙ added.rest_choices k' (omega arith);
      rest_under = λ k' past. adds.other_under k' (λ same. omega (arith, same)) ∙ added.rest_under k' (omega arith);
      rest_over = λ k' past. adds.other_over k' (λ same. omega (arith, same)) ∙ added.rest_over k' (omega arith);
    }

-- a ballot lacks the contest at the next place
pub contest_passed : (e : Election) (b : Ballot) (n : ℕ) (before now : Tally) → is_on_style e b.style (n + 1) ≡ false
    → AddedTo e (b ∷ []) n before now → AddedTo e (b ∷ []) (n + 1) before now
contest_passed e b n before now off added =
    let k = n + 1 in
    let p : Ballot → Bool = λ b. is_on_style e b.style k in
    record {
      choices = λ k' c less within. one_more
          (λ (k : ℕ). choice_count now k c ≡ choice_count before k c + votes e (b ∷ []) (k + 1) (c + 1)) n
          (λ k' first other. added.choices k' c first within)
          (omega (
            arith,
            ap (λ row. get_or row c 0) (added.rest_choices n (omega arith)),
            sum_off (λ b. cond (is_overvote e k b) 0 (bit_at (marked_in k b) (c + 1 - 1))) p b off,
          ))
          k' less;
      under = one_more (λ (k : ℕ). get_or now.under k 0 ≡ get_or before.under k 0 + undervotes e (b ∷ []) (k + 1)) n
          (λ k' first other. added.under k' first)
          (omega (
            arith,
            added.rest_under n (omega arith),
            sum_off (λ b. allowed_of e k - count_ones (marked_in k b)) p b off,
          ));
      over = one_more (λ (k : ℕ). get_or now.over k 0 ≡ get_or before.over k 0 + overvotes e (b ∷ []) (k + 1)) n
          (λ k' first other. added.over k' first)
          (omega (arith, added.rest_over n (omega arith), sum_off (λ b. cond (is_overvote e k b) 1 0) p b off));
      rest_choices = λ k' past. added.rest_choices k' (omega arith);
      rest_under = λ k' past. added.rest_under k' (omega arith);
      rest_over = λ k' past. added.rest_over k' (omega arith);
    }

-- no ballot has a contest that the election lacks
none_with : (e : Election) (ballots : List Ballot) (k : ℕ) → IsElection e → AllByRecursion (IsValid e) ballots
    → length e.contests < k → ballots_with e k ballots ≡ []
none_with e [] k election each past = refl
none_with e (b ∷ ballots) k election each past =
    let style : b.style ≢ 0 = λ none. omega (arith, each.0.some_style) in
    ap (λ t. cond t (b ∷ ballots_with e k ballots) (ballots_with e k ballots))
    (past_contests e b.style k election style each.0.known_style past)
    ∙ none_with e ballots k election each.1 past

-- the counts of all contests were added
pub all_added : (e : Election) (ballots : List Ballot) (before now : Tally) → IsElection e → All (IsValid e) ballots
    → AddedTo e ballots (length e.contests) before now → AddsBallots e ballots before now
all_added e ballots before now election valid added =
    let none : (k : ℕ) (f : Ballot → ℕ) → length e.contests ≤ k → 0 ≡ sum_by f (ballots_with e (k + 1) ballots) =
    λ k f past. ap (sum_by f) (sym
    (none_with e ballots (k + 1) election (recursion_from_All (IsValid e) ballots valid) (omega arith))) in
    let nothing_more : (a b n : ℕ) → a ≡ b → 0 ≡ n → a ≡ b + n = λ a b n same zero. omega arith in
    record {
      choices = λ k c known within.
          elim (cases_lt k (length e.contests)) [
            | inl first ↦ added.choices k c first within
            | inr past ↦ nothing_more _ _ _ (ap (λ row. get_or row c 0) (added.rest_choices k past)) (none k _ past)
          ];
      under = λ k known. elim (cases_lt k (length e.contests))
          [ inl first ↦ added.under k first | inr past ↦ nothing_more _ _ _ (added.rest_under k past) (none k _ past) ];
      over = λ k known. elim (cases_lt k (length e.contests))
          [ inl first ↦ added.over k first | inr past ↦ nothing_more _ _ _ (added.rest_over k past) (none k _ past) ];
    }
