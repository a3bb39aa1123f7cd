-- Lists that are answered one number after another: a withdrawing phase has an outcome.
use Rattle.std.proofs.Common.{◌≡◌, ◌≢◌, ℕ, ◌⊎◌, inl, inr, ⊎_elim, true, false, cond, List, [], ◌∷◌, ◌++◌, get_or, map, refl, sym, ap, ◌∙◌, subst, arith}
use Rattle.store_spec.proofs.Common.{Absent, All, All-cons, All-contains, All-map, All-nil, All-push, All-weaker, AllPairs, Ballot, Contains, Contains-append_left, Contains-get_or, Contains-push, Election, IsBallotSet, IsRightWithdrawal, IsValid, MayBeWithdrawnBefore, WithdrawReply, Withdrawal, all_pairs_push, append-nil, append_assoc, ballots_without, cases_eq, count_of, filter, filter-append, is_withdrawn, listed, map-append, map_push, numbers_of, withdrawn_in}
use Rattle.phase_delete.proofs.Left.{numbers_left}
use Rattle.phase_play.specs.Plays.{PlaysWithdrawing}
use Rattle.step_core.proofs.Sets.{All-flat_map, counted, once_distinct, stands_counted}
use Rattle.store_spec.specs.WithdrawPhase.WithdrawReply.{Withdrawn, Gone}

-- numbers of valid ballots are not 0
valid_some : (e : Election) (ballots : List Ballot) → All (IsValid e) ballots → All (λ v. v ≢ 0) (numbers_of ballots)
valid_some e ballots valid = All-map (λ v. v ≢ 0) (λ (b : Ballot). b.number) ballots (λ k d within zero. let some = (valid k d within).some_number in omega arith)

abbrev withdrawn_of : List Withdrawal → List ℕ
withdrawn_of lines = map (λ a. a.number) (filter (λ a. is_withdrawn a.reply) lines)

-- a number that is held is among those that are gone
abbrev IsGone : List ℕ → List ℕ → Withdrawal → Type 0
IsGone held gone a = Contains held a.number → Contains gone a.number

abbrev IsTrueOf : List ℕ → Withdrawal → Type 0
IsTrueOf held a = IsRightWithdrawal held a.number a.reply

-- a list is answered where some numbers are gone, and then more of them are
record Answers (held start items : List ℕ) : Type 0 where
  lines : List Withdrawal
  of_items : map (λ a. a.number) lines ≡ items
  gone : List ℕ
  gains : gone ≡ start ++ withdrawn_of lines
  distinct : AllPairs (λ a b. a ≢ b) gone
  right : All (IsTrueOf held) lines
  met : All (IsGone held gone) lines
  in_order : AllPairs MayBeWithdrawnBefore lines

withdrawn_push : (lines : List Withdrawal) (a : Withdrawal) → withdrawn_of (lines ++ a ∷ []) ≡ withdrawn_of lines ++ map (λ x. x.number) (cond (is_withdrawn a.reply) (a ∷ []) [])
withdrawn_push lines a =
    ap (map (λ (x : Withdrawal). x.number)) (filter-append (λ (x : Withdrawal). is_withdrawn x.reply) lines (a ∷ []))
    ∙ map-append (λ (x : Withdrawal). x.number) (filter (λ (x : Withdrawal). is_withdrawn x.reply) lines) (cond (is_withdrawn a.reply) (a ∷ []) [])

abbrev line : ℕ → WithdrawReply → Withdrawal
line x r = record { number = x; reply = r }

-- a number that is not withdrawn leaves those that are gone as they are
not_withdrawn : (held start items : List ℕ) (x : ℕ) (r : WithdrawReply) (a : Answers held start items) → is_withdrawn r ≡ false → IsRightWithdrawal held x r → IsGone held a.gone (line x r) → Answers held start (items ++ x ∷ [])
not_withdrawn held start items x r a other right met =
    let l = line x r in
    let same : withdrawn_of (a.lines ++ l ∷ []) ≡ withdrawn_of a.lines =
    withdrawn_push a.lines l ∙ ap (λ t. withdrawn_of a.lines ++ map (λ (y : Withdrawal). y.number) (cond t (l ∷ []) [])) other ∙ append-nil (withdrawn_of a.lines) in
    record {
      lines = a.lines ++ l ∷ [];
      of_items = map_push (λ (y : Withdrawal). y.number) a.lines l ∙ ap (λ ns. ns ++ x ∷ []) a.of_items;
      gone = a.gone;
      gains = a.gains ∙ ap (λ ns. start ++ ns) (sym same);
      distinct = a.distinct;
      right = All-push (IsTrueOf held) a.lines l a.right right;
      met = All-push (IsGone held a.gone) a.lines l a.met met;
      in_order = all_pairs_push MayBeWithdrawnBefore a.lines l a.in_order (λ k d within number gone is. absurd (let yes : is_withdrawn r ≡ true = ap is_withdrawn is in cc));
    }

-- a held number that is not gone is withdrawn
is_taken : (held start items : List ℕ) (x : ℕ) (a : Answers held start items) → Contains held x → ¬ Contains a.gone x → Answers held start (items ++ x ∷ [])
is_taken held start items x a there new =
    let l = line x Withdrawn in
    let gone = a.gone ++ x ∷ [] in
    record {
      lines = a.lines ++ l ∷ [];
      of_items = map_push (λ (y : Withdrawal). y.number) a.lines l ∙ ap (λ ns. ns ++ x ∷ []) a.of_items;
      gone = gone;
      gains = ap (λ ns. ns ++ x ∷ []) a.gains ∙ append_assoc start (withdrawn_of a.lines) (x ∷ []) ∙ ap (λ ns. start ++ ns) (sym (withdrawn_push a.lines l));
      distinct = all_pairs_push (λ y z. y ≢ z) a.gone x a.distinct (λ k d within same. new (subst (λ y. Contains a.gone y) same (Contains-get_or a.gone k d within)));
      right = All-push (IsTrueOf held) a.lines l a.right there;
      met = All-push (IsGone held gone) a.lines l (All-weaker (IsGone held a.gone) (IsGone held gone) (λ y h is. Contains-append_left a.gone (x ∷ []) y.number (h is)) a.lines a.met) (λ is. Contains-push a.gone x);
      in_order = all_pairs_push MayBeWithdrawnBefore a.lines l a.in_order (λ k d within number found is.
          let earlier = get_or a.lines k d in
          let held_too : Contains held earlier.number = subst (λ r. IsRightWithdrawal held earlier.number r) found (a.right k d within) in
          new (subst (λ y. Contains a.gone y) number (a.met k d within held_too)));
    }

contains_or_not : (xs : List ℕ) (x : ℕ) → Contains xs x ⊎ (¬ Contains xs x)
contains_or_not xs x = ⊎_elim
    (λ (none : count_of x xs ≡ 0). inr (λ c. omega (arith, counted x xs c)))
    (λ (some : count_of x xs ≢ 0). inl (stands_counted x xs (omega arith)))
    (cases_eq (count_of x xs) 0)

one_more : (held start items : List ℕ) (x : ℕ) → Answers held start items → Answers held start (items ++ x ∷ [])
one_more held start items x a = ⊎_elim
    (λ (there : Contains held x). ⊎_elim
    (λ (gone : Contains a.gone x). not_withdrawn held start items x Gone a refl there (λ is. gone))
    (λ (new : ¬ Contains a.gone x). is_taken held start items x a there new)
    (contains_or_not a.gone x))
    (λ (none : ¬ Contains held x). not_withdrawn held start items x Absent a refl none (λ is. absurd (none is)))
    (contains_or_not held x)

rest_of : (held start done rest : List ℕ) → Answers held start done → Answers held start (done ++ rest)
rest_of held start done [] a = subst (λ (items : List ℕ). Answers held start items) (sym (append-nil done)) a
rest_of held start done (x ∷ rest) a =
    subst (λ (items : List ℕ). Answers held start items) (append_assoc done (x ∷ []) rest)
    (rest_of held start (done ++ x ∷ []) rest (one_more held start done x a))

-- ---- all lists

record AnswersAll (held start : List ℕ) (lists : List (List ℕ)) : Type 0 where
  lines : List (List Withdrawal)
  of_lists : map (map (λ a. a.number)) lines ≡ lists
  gone : List ℕ
  gains : gone ≡ start ++ withdrawn_in lines
  grows : (x : ℕ) → Contains start x → Contains gone x
  distinct : AllPairs (λ a b. a ≢ b) gone
  right : All (All (IsTrueOf held)) lines
  met : All (All (IsGone held gone)) lines
  in_order : All (AllPairs MayBeWithdrawnBefore) lines

all_of : (held start : List ℕ) (lists : List (List ℕ)) → AllPairs (λ a b. a ≢ b) start → AnswersAll held start lists
all_of held start [] apart = record {
  lines = [];
  of_lists = refl;
  gone = start;
  gains = sym (append-nil start);
  grows = λ x c. c;
  distinct = apart;
  right = All-nil (All (IsTrueOf held));
  met = All-nil (All (IsGone held start));
  in_order = All-nil (AllPairs MayBeWithdrawnBefore);
}
all_of held start (list ∷ lists) apart =
    let a = rest_of held start [] list (record {
      lines = [];
      of_items = refl;
      gone = start;
      gains = sym (append-nil start);
      distinct = apart;
      right = All-nil (IsTrueOf held);
      met = All-nil (IsGone held start);
      in_order = λ i j d less within. absurd (omega arith);
    }) in
    let rest = all_of held a.gone lists a.distinct in
    record {
      lines = a.lines ∷ rest.lines;
      of_lists = ap (λ l. l ∷ map (map (λ (y : Withdrawal). y.number)) rest.lines) a.of_items ∙ ap (λ l. list ∷ l) rest.of_lists;
      gone = rest.gone;
      gains = rest.gains ∙ ap (λ ns. ns ++ withdrawn_in rest.lines) a.gains ∙ append_assoc start (withdrawn_of a.lines) (withdrawn_in rest.lines);
      grows = λ x c. rest.grows x (subst (λ (ns : List ℕ). Contains ns x) (sym a.gains) (Contains-append_left start (withdrawn_of a.lines) x c));
      distinct = rest.distinct;
      right = All-cons (All (IsTrueOf held)) a.lines rest.lines a.right rest.right;
      met = All-cons (All (IsGone held rest.gone)) a.lines rest.lines (All-weaker (IsGone held a.gone) (IsGone held rest.gone) (λ y h is. rest.grows y.number (h is)) a.lines a.met) rest.met;
      in_order = All-cons (AllPairs MayBeWithdrawnBefore) a.lines rest.lines a.in_order rest.in_order;
    }

-- ---- the outcome

pub an_outcome : (e : Election) (base : List Ballot) (work : List (List ℕ)) → IsBallotSet e base → (replies : List (List WithdrawReply)) × (after : List Ballot) × PlaysWithdrawing base work replies after
an_outcome e base work set =
    let held = numbers_of base in
    let a = all_of held [] work (λ i j d less within. absurd (omega arith)) in
    let after = ballots_without base (listed a.lines) in
    let gone_too : All (λ x. Contains held x → Contains a.gone x) (listed a.lines) =
    All-flat_map (λ x. Contains held x → Contains a.gone x) (map (λ y. y.number)) a.lines
    (All-weaker (All (IsGone held a.gone)) (λ list. All (λ x. Contains held x → Contains a.gone x) (map (λ y. y.number) list)) (λ list each. All-map (λ x. Contains held x → Contains a.gone x) (λ y. y.number) list each) a.lines a.met) in (
      map (map (λ y. y.reply)) a.lines,
      after,
      record {
        lines = a.lines;
        of_work = a.of_lists;
        of_replies = refl;
        rest = refl;
        outcome = record {
          rest = numbers_left base (listed a.lines);
          answers = a.right;
          once = λ x there named.
              let some : x ≢ 0 = All-contains (λ n. n ≢ 0) held x (valid_some e base set.valid) there in
              let gone = subst (λ (ns : List ℕ). Contains ns x) a.gains (All-contains (λ n. Contains held n → Contains a.gone n) (listed a.lines) x gone_too named there) in
              omega (arith, once_distinct (withdrawn_in a.lines) (subst (λ (ns : List ℕ). AllPairs (λ n m. n ≢ m) ns) a.gains a.distinct) x some, counted x (withdrawn_in a.lines) gone);
          in_order = a.in_order;
        };
      },
    )
