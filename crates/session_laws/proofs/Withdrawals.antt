-- Each phase of withdrawing has an outcome: its numbers may be answered one after another.
use Rattle.std.proofs.Common.{◌≡◌, ◌≢◌, ℕ, ◌+◌, ◌==◌, inl, inr, Bool, true, false, cond, ◌||◌, List, [], ◌∷◌, ◌++◌, map, refl, sym, ap, subst, ◌∙◌, arith}
use Rattle.store_spec.proofs.Common.{Absent, All, All-cons, All-nil, All-weaker, AllPairs, AllPairs-cons, Contains, IsRightWithdrawal, MayBeWithdrawnBefore, WithdrawOutcome, WithdrawReply, Withdrawal, cases_eq, eq-eqb, filter, flat_map, is_withdrawn, list_any-append, listed, ne_eqb, sum_by-append, sum_by-cons, withdrawn_in, without}
use Rattle.std.specs.Prelude.{count_by}
use Rattle.store_spec.specs.WithdrawPhase.WithdrawReply.{Withdrawn, Gone}
use Rattle.session_laws.proofs.Listed.{listed-map}
use Rattle.session_laws.proofs.Members.{Contains-has, has, has-Contains, has-first, has-none, has-other}

-- ---- the answers

-- by whether the number is held, and whether it came before
unfoldable pub reply_to : Bool → Bool → WithdrawReply
reply_to false before = Absent
reply_to true true = Gone
reply_to true false = Withdrawn

-- a number's answer
abbrev pub answer : List ℕ → List ℕ → ℕ → Withdrawal
answer held before n = record { number = n; reply = reply_to (has held n) (has before n) }

-- the answers of a list
abbrev pub answers : List ℕ → List ℕ → List ℕ → List Withdrawal
answers held before [] = []
answers held before (n ∷ ns) = answer held before n ∷ answers held (n ∷ before) ns

-- the answers of all lists
abbrev pub all_answers : List ℕ → List ℕ → List (List ℕ) → List (List Withdrawal)
all_answers held before [] = []
all_answers held before (ns ∷ lists) = answers held before ns ∷ all_answers held (ns ++ before) lists

-- they answer the numbers of the list
answers_of : (held before ns : List ℕ) → map (λ a. a.number) (answers held before ns) ≡ ns
answers_of held before [] = refl
answers_of held before (n ∷ ns) = ap (λ ns. n ∷ ns) (answers_of held (n ∷ before) ns)

-- and of all lists
pub all_answers_of : (held before : List ℕ) (lists : List (List ℕ)) → map (map (λ a. a.number)) (all_answers held before lists) ≡ lists
all_answers_of held before [] = refl
all_answers_of held before (ns ∷ lists) =
    ap (λ first. first ∷ map (map (λ a. a.number)) (all_answers held (ns ++ before) lists)) (answers_of held before ns) ∙ ap (λ lists. ns ∷ lists) (all_answers_of held (ns ++ before) lists)

-- ---- they are right

-- a reply is right
right_reply : (held : List ℕ) (n : ℕ) (is before : Bool) → has held n ≡ is → IsRightWithdrawal held n (reply_to is before)
unfolding reply_to
right_reply held n false before is = has-none held n is
right_reply held n true true is = Contains-has held n is
right_reply held n true false is = Contains-has held n is

-- an answer is right
abbrev pub Right : List ℕ → Withdrawal → Type 0
Right held a = IsRightWithdrawal held a.number a.reply

-- the answers of a list are right
answers_right : (held before ns : List ℕ) → All (Right held) (answers held before ns)
answers_right held before [] = All-nil (Right held)
answers_right held before (n ∷ ns) = All-cons (Right held) (answer held before n) (answers held (n ∷ before) ns) (right_reply held n (has held n) (has before n) refl) (answers_right held (n ∷ before) ns)

-- and those of all lists
all_right : (held before : List ℕ) (lists : List (List ℕ)) → All (All (Right held)) (all_answers held before lists)
all_right held before [] = All-nil (All (Right held))
all_right held before (ns ∷ lists) = All-cons (All (Right held)) (answers held before ns) (all_answers held (ns ++ before) lists) (answers_right held before ns) (all_right held (ns ++ before) lists)

-- ---- what came before is not withdrawn again

-- a number that came before is not withdrawn
abbrev NotAgain : List ℕ → Withdrawal → Type 0
NotAgain before a = has before a.number ≡ true → a.reply ≢ Withdrawn

-- so it is by its reply
not_again : (is before : Bool) → before ≡ true → reply_to is before ≢ Withdrawn
unfolding reply_to
not_again false before there same = absurd cc
not_again true true there same = absurd cc
not_again true false there same = absurd cc

-- and in a list
answers_not_again : (held before ns : List ℕ) → All (NotAgain before) (answers held before ns)
answers_not_again held before [] = All-nil (NotAgain before)
answers_not_again held before (n ∷ ns) =
    All-cons (NotAgain before) (answer held before n) (answers held (n ∷ before) ns) (not_again (has held n) (has before n))
    (All-weaker (NotAgain (n ∷ before)) (NotAgain before) (λ a not there. not (has_more before n a.number there)) (answers held (n ∷ before) ns) (answers_not_again held (n ∷ before) ns))
  where
    has_more : (xs : List ℕ) (n x : ℕ) → has xs x ≡ true → has (n ∷ xs) x ≡ true
    has_more xs n x there = elim (cases_eq n x) [ inl same ↦ has-first xs n x same | inr other ↦ has-other xs n x other ∙ there ]

-- the answers of a list stand in order
answers_in_order : (held before ns : List ℕ) → AllPairs MayBeWithdrawnBefore (answers held before ns)
answers_in_order held before [] = λ i j d less within. absurd (omega arith)
answers_in_order held before (n ∷ ns) =
    AllPairs-cons MayBeWithdrawnBefore (answer held before n) (answers held (n ∷ before) ns)
    (All-weaker (NotAgain (n ∷ before)) (MayBeWithdrawnBefore (answer held before n)) (λ a not same gone. not (has-first before n a.number same)) (answers held (n ∷ before) ns) (answers_not_again held (n ∷ before) ns))
    (answers_in_order held (n ∷ before) ns)

-- and those of all lists
all_in_order : (held before : List ℕ) (lists : List (List ℕ)) → All (AllPairs MayBeWithdrawnBefore) (all_answers held before lists)
all_in_order held before [] = All-nil (AllPairs MayBeWithdrawnBefore)
all_in_order held before (ns ∷ lists) = All-cons (AllPairs MayBeWithdrawnBefore) (answers held before ns) (all_answers held (ns ++ before) lists) (answers_in_order held before ns) (all_in_order held (ns ++ before) lists)

-- ---- each number is withdrawn once

-- the numbers of a list that are withdrawn
abbrev pub withdrawn_of : List Withdrawal → List ℕ
withdrawn_of answers = map (λ a. a.number) (filter (λ a. is_withdrawn a.reply) answers)

-- how often a number is in a list
abbrev pub times : ℕ → List ℕ → ℕ
times x xs = count_by (λ n. n == x) xs

-- how often a held number is withdrawn, by whether it came before and whether it is here
expected : Bool → Bool → ℕ
expected true here = 0
expected false true = 1
expected false false = 0

-- it counts where it stands first
pub times-first : (x n : ℕ) (ns : List ℕ) → n ≡ x → times x (n ∷ ns) ≡ 1 + times x ns
times-first x n ns same = sum_by-cons (λ n. cond (n == x) 1 0) n ns ∙ ap (λ b. cond b 1 0 + times x ns) (eq-eqb n x same)

-- another one does not count
pub times-other : (x n : ℕ) (ns : List ℕ) → n ≢ x → times x (n ∷ ns) ≡ times x ns
times-other x n ns other = sum_by-cons (λ n. cond (n == x) 1 0) n ns ∙ ap (λ b. cond b 1 0 + times x ns) (ne_eqb n x other) ∙ (let e : 0 + times x ns ≡ times x ns = omega arith in e)

-- an answer about another number does not count
pub other_answer : (x n : ℕ) (is before : Bool) (rest : List Withdrawal) → n ≢ x → times x (withdrawn_of (record { number = n; reply = reply_to is before } ∷ rest)) ≡ times x (withdrawn_of rest)
unfolding reply_to
other_answer x n false before rest other = refl
other_answer x n true true rest other = refl
other_answer x n true false rest other = times-other x n (withdrawn_of rest) other

-- one about this number counts where it did not come before
own_answer : (x n : ℕ) (before : Bool) (rest : List Withdrawal) → n ≡ x → times x (withdrawn_of rest) ≡ 0 → times x (withdrawn_of (record { number = n; reply = reply_to true before } ∷ rest)) ≡ expected before true
unfolding reply_to expected
own_answer x n true rest same none = none
own_answer x n false rest same none = times-first x n (withdrawn_of rest) same ∙ ap (λ k. 1 + k) none

-- a number that is not here is not withdrawn here
nothing : (b : Bool) → 0 ≡ expected b false
unfolding expected
nothing true = refl
nothing false = refl

-- one that came before is not withdrawn any more
gone_before : (b : Bool) → expected true b ≡ 0
unfolding expected
gone_before b = refl

-- how often a held number is withdrawn in a list
times_here : (x : ℕ) (held before ns : List ℕ) → has held x ≡ true → times x (withdrawn_of (answers held before ns)) ≡ expected (has before x) (has ns x)
times_here x held before [] is = nothing (has before x)
times_here x held before (n ∷ ns) is =
    let rest = times_here x held (n ∷ before) ns is in
    elim (cases_eq n x) [
      | inl same ↦
          let gone : times x (withdrawn_of (answers held (n ∷ before) ns)) ≡ 0 = rest ∙ ap (λ b. expected b (has ns x)) (has-first before n x same) ∙ gone_before (has ns x) in
          let held_n : has held n ≡ true = ap (has held) same ∙ is in
          ap (λ is. times x (withdrawn_of (record { number = n; reply = reply_to is (has before n) } ∷ answers held (n ∷ before) ns))) held_n
          ∙ own_answer x n (has before n) (answers held (n ∷ before) ns) same gone
          ∙ ap (λ y. expected (has before y) true) same ∙ ap (expected (has before x)) (sym (has-first ns n x same))
      | inr other ↦
          other_answer x n (has held n) (has before n) (answers held (n ∷ before) ns) other ∙ rest
          ∙ ap (λ b. expected b (has ns x)) (has-other before n x other) ∙ ap (expected (has before x)) (sym (has-other ns n x other))
    ]

-- what is here and what is behind it
expected-append : (before here behind : Bool) → expected before here + expected (here || before) behind ≡ expected before (here || behind)
unfolding expected
expected-append true true true = refl
expected-append true true false = refl
expected-append true false true = refl
expected-append true false false = refl
expected-append false true true = refl
expected-append false true false = refl
expected-append false false true = refl
expected-append false false false = refl

-- and in all lists
times_in_all : (x : ℕ) (held before : List ℕ) (lists : List (List ℕ)) → has held x ≡ true → times x (withdrawn_in (all_answers held before lists)) ≡ expected (has before x) (has (flat_map (λ ns. ns) lists) x)
times_in_all x held before [] is = nothing (has before x)
times_in_all x held before (ns ∷ lists) is =
    let rest = flat_map (λ ns. ns) lists in
    sum_by-append (λ n. cond (n == x) 1 0) (withdrawn_of (answers held before ns)) (withdrawn_in (all_answers held (ns ++ before) lists))
    ∙ ap (λ k. k + times x (withdrawn_in (all_answers held (ns ++ before) lists))) (times_here x held before ns is)
    ∙ ap (λ k. expected (has before x) (has ns x) + k) (times_in_all x held (ns ++ before) lists is ∙ ap (λ b. expected b (has rest x)) (list_any-append (λ y. y == x) ns before))
    ∙ expected-append (has before x) (has ns x) (has rest x)
    ∙ ap (expected (has before x)) (sym (list_any-append (λ y. y == x) ns rest))

-- ---- the outcome

-- so the answers have the outcome of a phase of withdrawing
pub withdrawals_outcome : (held : List ℕ) (lists : List (List ℕ)) → WithdrawOutcome held (all_answers held [] lists) (without held (listed (all_answers held [] lists)))
unfolding expected
withdrawals_outcome held lists =
    let lines = all_answers held [] lists in
    record {
      rest = refl;
      answers = all_right held [] lists;
      once = λ x is listed_x.
          let numbers : listed lines ≡ flat_map (λ ns. ns) lists = listed-map lines ∙ ap (flat_map (λ ns. ns)) (all_answers_of held [] lists) in
          times_in_all x held [] lists (has-Contains held x is)
          ∙ ap (expected false) (has-Contains (flat_map (λ ns. ns) lists) x (subst (λ (ns : List ℕ). Contains ns x) numbers listed_x));
      in_order = all_in_order held [] lists;
    }
