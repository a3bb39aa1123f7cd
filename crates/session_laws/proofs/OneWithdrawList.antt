-- A phase of withdrawing whose numbers wait in one list has one outcome.
use Rattle.std.proofs.Common.{◌≡◌, ℕ, suc, ◌+◌, ◌≤◌, ◌⊎◌, inl, inr, Bool, true, false, List, [], ◌∷◌, ◌++◌, map, refl, sym, ap, subst, ◌∙◌, append_assoc, append-nil, arith}
use Rattle.store_spec.proofs.Common.{Absent, All, All-contains, All-head, AllPairs, Ballot, ClosesWithdrawing, Contains, Contains-append_right, Effect, IsRightWithdrawal, MayBeWithdrawnBefore, WithdrawOutcome, WithdrawReply, Withdrawal, ballots_without, cases_eq, closing, filter, filter-append, is_withdrawn, listed, map-append, numbers_of, sum_by-append, withdraw_text}
use Rattle.store_spec.specs.WithdrawPhase.WithdrawReply.{Gone, Withdrawn}
use Rattle.session_laws.proofs.Lists.{Contains-map, pairs_back, pairs_first}
use Rattle.session_laws.proofs.Members.{Contains-has, has, has-Contains, has-first, has-none, has-other}
use Rattle.session_laws.proofs.Withdrawals.{Right, answer, answers, other_answer, reply_to, times, times-first, times-other, withdrawn_of}

-- ---- numbers that are withdrawn

-- the numbers that are withdrawn, of lines and more
withdrawn_of-append : (done rest : List Withdrawal) → withdrawn_of (done ++ rest) ≡ withdrawn_of done ++ withdrawn_of rest
withdrawn_of-append done rest = ap (map (λ a. a.number)) (filter-append (λ a. is_withdrawn a.reply) done rest) ∙ map-append (λ a. a.number) (filter (λ a. is_withdrawn a.reply) done) (filter (λ a. is_withdrawn a.reply) rest)

-- what is withdrawn is withdrawn in the first line, or behind it
withdrawn_one : (x number : ℕ) (reply : WithdrawReply) (lines : List Withdrawal) → 1 ≤ times x (withdrawn_of (record { number = number; reply = reply } ∷ lines)) → ((number ≡ x) × (reply ≡ Withdrawn)) ⊎ (1 ≤ times x (withdrawn_of lines))
withdrawn_one x number Withdrawn lines some =
    elim (cases_eq number x) [
      | inl same ↦ inl (same, refl)
      | inr other ↦ inr (omega (arith, some, times-other x number (withdrawn_of lines) other))
    ]
withdrawn_one x number Gone lines some = inr some
withdrawn_one x number Absent lines some = inr some

-- so it is withdrawn in some line
some_withdrawn : (x : ℕ) (lines : List Withdrawal) → 1 ≤ times x (withdrawn_of lines) → (a : Withdrawal) × Contains lines a × (a.number ≡ x) × (a.reply ≡ Withdrawn)
some_withdrawn x [] some = absurd (omega arith)
some_withdrawn x (a ∷ lines) some =
    elim (withdrawn_one x a.number a.reply lines some) [
      | inl here ↦ (a, (0, omega arith, refl), here.0, here.1)
      | inr behind ↦ let b = some_withdrawn x lines behind in (b.0, (suc b.1.0, omega (arith, b.1.1), b.1.2), b.2, b.3)
    ]

-- ---- one answer

-- an answer, behind some lines and before others
record Stands (held : List ℕ) (number : ℕ) (reply : WithdrawReply) (done rest : List Withdrawal) : Type 0 where
  right : IsRightWithdrawal held number reply
  once : Contains held number → times number (withdrawn_of done) + times number (withdrawn_of (record { number = number; reply = reply } ∷ rest)) ≡ 1
  later : All (MayBeWithdrawnBefore (record { number = number; reply = reply })) rest

-- how often a held number was withdrawn, by whether it came before
so_far : Bool → ℕ
so_far true = 1
so_far false = 0

-- so it is told by whether the number is held, and whether it came before
told : (held before : List ℕ) (number : ℕ) (reply : WithdrawReply) (done rest : List Withdrawal) (is came : Bool) → has held number ≡ is → has before number ≡ came
    → (Contains held number → times number (withdrawn_of done) ≡ so_far came) → Stands held number reply done rest → reply ≡ reply_to is came
unfolding reply_to so_far
told held before number Absent done rest false came is there counted stands = refl
told held before number Withdrawn done rest false came is there counted stands = absurd (has-none held number is stands.right)
told held before number Gone done rest false came is there counted stands = absurd (has-none held number is stands.right)
told held before number Absent done rest true came is there counted stands = absurd (stands.right (Contains-has held number is))
told held before number Gone done rest true true is there counted stands = refl
told held before number Withdrawn done rest true true is there counted stands =
    let held_here = Contains-has held number is in
    absurd (omega (arith, counted held_here, stands.once held_here, times-first number number (withdrawn_of rest) refl))
told held before number Withdrawn done rest true false is there counted stands = refl
told held before number Gone done rest true false is there counted stands =
    let held_here = Contains-has held number is in
    let later = some_withdrawn number rest (omega (arith, counted held_here, stands.once held_here)) in
    absurd (All-contains (MayBeWithdrawnBefore (record { number = number; reply = Gone })) rest later.0 stands.later later.1 (sym later.2) refl later.3)

-- ---- a list

-- the outcome of one list
record ListOutcome (held : List ℕ) (lines : List Withdrawal) : Type 0 where
  right : All (Right held) lines
  once : (x : ℕ) → Contains held x → Contains (map (λ a. a.number) lines) x → times x (withdrawn_of lines) ≡ 1
  in_order : AllPairs MayBeWithdrawnBefore lines

-- the outcome of lists that are one list
of_list : (held : List ℕ) (lines : List Withdrawal) (after : List ℕ) → WithdrawOutcome held (lines ∷ []) after → ListOutcome held lines
of_list held lines after outcome = record {
  right = All-head (All (Right held)) lines [] outcome.answers;
  once = λ x is here.
      ap (times x) (sym (append-nil (withdrawn_of lines)))
      ∙ outcome.once x is (subst (λ (numbers : List ℕ). Contains numbers x) (sym (append-nil (map (λ (a : Withdrawal). a.number) lines))) here);
  in_order = All-head (AllPairs MayBeWithdrawnBefore) lines [] outcome.in_order;
}

-- the number of a line is one of the numbers
number_within : (lines : List Withdrawal) (a : Withdrawal) → Contains lines a → Contains (map (λ a. a.number) lines) a.number
number_within lines a at = Contains-map (λ (a : Withdrawal). a.number) lines a at

-- each answer stands behind some and before others
stands : (held : List ℕ) (done : List Withdrawal) (a : Withdrawal) (rest : List Withdrawal) → ListOutcome held (done ++ a ∷ rest) → Stands held a.number a.reply done rest
stands held done a rest outcome =
    let all = done ++ a ∷ rest in
    let here : Contains all a = Contains-append_right done (a ∷ rest) a (0, omega arith, refl) in
    record {
      right = All-contains (Right held) all a outcome.right here;
      once = λ is.
          sym (ap (times a.number) (withdrawn_of-append done (a ∷ rest)) ∙ sum_by-append _ (withdrawn_of done) (withdrawn_of (a ∷ rest)))
          ∙ outcome.once a.number is (number_within all a here);
      later = pairs_first MayBeWithdrawnBefore a rest (pairs_back MayBeWithdrawnBefore done (a ∷ rest) outcome.in_order);
    }

-- how often a number was withdrawn, with one answer more
own_count : (x n : ℕ) (came : Bool) → n ≡ x → so_far came + times x (withdrawn_of (record { number = n; reply = reply_to true came } ∷ [])) ≡ 1
unfolding so_far reply_to
own_count x n true same = refl
own_count x n false same = omega (arith, times-first x n [] same)

-- so the count goes on, whatever number is answered
one_more : (x n : ℕ) (held before : List ℕ) (done : List Withdrawal) → has held x ≡ true → times x (withdrawn_of done) ≡ so_far (has before x) → times x (withdrawn_of (done ++ answer held before n ∷ [])) ≡ so_far (has (n ∷ before) x)
unfolding so_far
one_more x n held before done is counted =
    let whole = ap (times x) (withdrawn_of-append done (answer held before n ∷ [])) ∙ sum_by-append _ (withdrawn_of done) (withdrawn_of (answer held before n ∷ [])) in
    let first : times x (withdrawn_of done) + times x (withdrawn_of (answer held before n ∷ [])) ≡ so_far (has before x) + times x (withdrawn_of (answer held before n ∷ [])) = ap (λ k. k + times x (withdrawn_of (answer held before n ∷ []))) counted in
    elim (cases_eq n x) [
      | inl same ↦
          let held_n : has held n ≡ true = ap (has held) same ∙ is in
          whole ∙ first
          ∙ ap (λ is. so_far (has before x) + times x (withdrawn_of (record { number = n; reply = reply_to is (has before n) } ∷ []))) held_n
          ∙ ap (λ y. so_far (has before y) + times x (withdrawn_of (record { number = n; reply = reply_to true (has before n) } ∷ []))) (sym same)
          ∙ own_count x n (has before n) same ∙ sym (ap so_far (has-first before n x same))
      | inr other ↦
          let none : so_far (has before x) + 0 ≡ so_far (has before x) = omega arith in
          whole ∙ first ∙ ap (λ k. so_far (has before x) + k) (other_answer x n (has held n) (has before n) [] other) ∙ none ∙ ap so_far (sym (has-other before n x other))
    ]

-- so each list has the answers that its numbers have one after another
same_answers : (held before : List ℕ) (done lines : List Withdrawal) → ListOutcome held (done ++ lines) → ((x : ℕ) → Contains held x → times x (withdrawn_of done) ≡ so_far (has before x)) → lines ≡ answers held before (map (λ a. a.number) lines)
same_answers held before done [] outcome counted = refl
same_answers held before done (a ∷ lines) outcome counted =
    let reply = told held before a.number a.reply done lines (has held a.number) (has before a.number) refl refl (counted a.number) (stands held done a lines outcome) in
    let first : a ≡ answer held before a.number = ap (λ (reply : WithdrawReply). record { number = a.number; reply = reply }) reply in
    let next : done ++ a ∷ lines ≡ (done ++ answer held before a.number ∷ []) ++ lines = ap (λ a. done ++ a ∷ lines) first ∙ sym (append_assoc done (answer held before a.number ∷ []) lines) in
    let rest = same_answers held (a.number ∷ before) (done ++ answer held before a.number ∷ []) lines (subst (ListOutcome held) next outcome)
    (λ x is. one_more x a.number held before done (has-Contains held x is) (counted x is)) in
    ap (λ a. a ∷ lines) first ∙ ap (λ lines. answer held before a.number ∷ lines) rest

-- ---- the close

-- there are the answers of one list
one_line_list : (lines : List (List Withdrawal)) (list : List ℕ) → map (map (λ a. a.number)) lines ≡ list ∷ [] → (one : List Withdrawal) × (lines ≡ one ∷ []) × (map (λ a. a.number) one ≡ list)
one_line_list [] list is = absurd cc
one_line_list (one ∷ []) list is = (one, refl, cc)
one_line_list (one ∷ other ∷ more) list is = absurd cc

-- the close is that of these answers
close_told : (set : List Ballot) (list : List ℕ) (a : Effect) → ClosesWithdrawing set (list ∷ []) a
    → a ≡ closing (map (map (λ a. withdraw_text a.reply)) (answers (numbers_of set) [] list ∷ [])) (ballots_without set (listed (answers (numbers_of set) [] list ∷ [])))
unfolding so_far
close_told set list a closes =
    let held = numbers_of set in
    let one = one_line_list closes.lines list closes.of_lists in
    let outcome = of_list held one.0 (numbers_of closes.after) (subst (λ (lines : List (List Withdrawal)). WithdrawOutcome held lines (numbers_of closes.after)) one.1 closes.outcome) in
    let lines : closes.lines ≡ answers held [] list ∷ [] =
    one.1 ∙ ap (λ one. one ∷ []) (same_answers held [] [] one.0 outcome (λ x is. refl)) ∙ ap (λ list. answers held [] list ∷ []) one.2 in
    closes.is ∙ ap (λ (lines : List (List Withdrawal)). closing (map (map (λ a. withdraw_text a.reply)) lines) closes.after) lines
    ∙ ap (closing (map (map (λ a. withdraw_text a.reply)) (answers held [] list ∷ []))) (closes.rest ∙ ap (λ (lines : List (List Withdrawal)). ballots_without set (listed lines)) lines)

-- so the phase is closed in one way
pub one_close : (set : List Ballot) (list : List ℕ) (a b : Effect) → ClosesWithdrawing set (list ∷ []) a → ClosesWithdrawing set (list ∷ []) b → a ≡ b
one_close set list a b p q = close_told set list a p ∙ sym (close_told set list b q)
