-- What waits behind lines in a part, and that it can be handled.
use Rattle.std.proofs.Common.{◌≡◌, ◌∙◌, ◌-◌, ◌++◌, ◌∷◌, ◌≤◌, ◌==◌, [], ℕ, Bool, true, false, All, List, Option, Some, None, ⊎_elim, zero, suc, ap, get_or, length, map, replicate, refl, set, subst, sym, arith}
use Rattle.store_spec.proofs.Common.{All-cons, All-get_or, All-nil, All-push, All-set, AllZip, Ballot, Cast, Casting, Casts, Close, Closed, Election, Find, Finding, Finds, IsTab, IsValid, Open, Phase, ScriptLine, Withdraw, Withdrawing, Withdraws, append-nil, cases_Bool, cond-false, cond-true, cond_both, filter, filter-append, leb-true, length-map, length-set, map-set, map-set_same, nat_le, part_of, queued}
use Rattle.std.specs.Prelude.{if◌then◌else◌}
use Rattle.std.proofs.Math.ListN.{get_or-map}
use Rattle.part_session.proofs.Lines.{item_open, phase_after, with_item}
use Rattle.part_session.specs.Runs.{waiting_at}
use Rattle.part_session.specs.Scripts.{Means, concerns, has_closed}
use Rattle.phase_gate.proofs.MayWait.{opened_may_wait}
use Rattle.phase_gate.specs.Standing.{AreLists, MayWait}

-- ---- the phases that lines close

abbrev pub phases_closed : Phase → List (Option ScriptLine) → List Phase
phases_closed phase [] = []
phases_closed phase (said ∷ rest) =
    if has_closed phase (phase_after phase said) then phase ∷ phases_closed (phase_after phase said) rest
    else phases_closed (phase_after phase said) rest

abbrev pub phase_behind : Phase → List (Option ScriptLine) → Phase
phase_behind phase [] = phase
phase_behind phase (said ∷ rest) = phase_behind (phase_after phase said) rest

-- ---- lists, and what of them passes a test

module _ {X : Type 0} (test : X → Bool) (lists : List (List X)) (tab : ℕ) (x : X) where
  abbrev own : List (List X)
  own = map (filter test) lists

  abbrev there : List X
  there = get_or lists (tab - 1) []

  queued_own : test x ≡ true → map (filter test) (queued lists tab x) ≡ queued own tab x
  queued_own passes =
      map-set (filter test) lists (tab - 1) (there ++ x ∷ [])
      ∙ ap (λ (ys : List X). set own (tab - 1) ys)
      (filter-append test there (x ∷ []) ∙ ap (λ ys. filter test there ++ ys) (cond-true (test x) (x ∷ []) [] passes)
      ∙ ap (λ ys. ys ++ x ∷ []) (sym (get_or-map (filter test) lists (tab - 1) [])))

  queued_other : test x ≡ false → map (filter test) (queued lists tab x) ≡ own
  queued_other fails = map-set_same (filter test) lists (tab - 1) (there ++ x ∷ []) []
      (filter-append test there (x ∷ []) ∙ ap (λ ys. filter test there ++ ys) (cond-false (test x) (x ∷ []) [] fails) ∙ append-nil (filter test there))

-- ---- one line, in a part

at_of_two : (bits part : ℕ) (test : Bool) (p q : Phase) → waiting_at bits part (if test then p else q) ≡ (if test then waiting_at bits part p else waiting_at bits part q)
at_of_two bits part true p q = refl
at_of_two bits part false p q = refl

one_of_two : (test : Bool) (p q r : Phase) → p ≡ r → q ≡ r → (if test then p else q) ≡ r
one_of_two true p q r first second = first
one_of_two false p q r first second = second

module _ (bits part : ℕ) where
  abbrev at : Phase → Phase
  at = waiting_at bits part

  -- an item of the part waits there too
  item_own : {X : Type 0} (of : List (List X) → Phase) (test : X → Bool) (lists : List (List X)) (tab : ℕ) (x : X) → ((l : List (List X)) → at (of l) ≡ of (map (filter test) l)) → test x ≡ true
      → at (with_item of lists tab x) ≡ with_item of (map (filter test) lists) tab x
  item_own {X} of test lists tab x shows passes =
      at_of_two bits part (nat_le tab (length lists)) (of (queued lists tab x)) (of lists)
      ∙ ap (λ (p : Phase). if nat_le tab (length lists) then p else at (of lists)) (shows (queued lists tab x) ∙ ap of (queued_own test lists tab x passes))
      ∙ ap (λ (p : Phase). if nat_le tab (length lists) then of (queued (map (filter test) lists) tab x) else p) (shows lists)
      ∙ ap (λ n. if nat_le tab n then of (queued (map (filter test) lists) tab x) else of (map (filter test) lists)) (sym (length-map lists (filter test)))

  -- one of another part does not
  item_other : {X : Type 0} (of : List (List X) → Phase) (test : X → Bool) (lists : List (List X)) (tab : ℕ) (x : X) → ((l : List (List X)) → at (of l) ≡ of (map (filter test) l)) → test x ≡ false
      → at (with_item of lists tab x) ≡ at (of lists)
  item_other of test lists tab x shows fails =
      at_of_two bits part (nat_le tab (length lists)) (of (queued lists tab x)) (of lists)
      ∙ one_of_two (nat_le tab (length lists)) (at (of (queued lists tab x))) (at (of lists)) (at (of lists))
      (shows (queued lists tab x) ∙ ap of (queued_other test lists tab x fails) ∙ sym (shows lists)) refl

  none_waits : {X : Type 0} (test : X → Bool) (tabs : ℕ) → map (filter test) (replicate tabs []) ≡ replicate tabs []
  none_waits test zero = refl
  none_waits test (suc n) = ap (λ (ls : List (List _)). [] ∷ ls) (none_waits test n)

  line_own : (phase : Phase) (said : Option ScriptLine) → concerns bits part said ≡ true → at (phase_after phase said) ≡ phase_after (at phase) said
  line_own Closed (Some (Open Casting tabs)) is = ap Casts (none_waits (λ (b : Ballot). part_of bits b.number == part) tabs)
  line_own Closed (Some (Open Withdrawing tabs)) is = ap Withdraws (none_waits (λ number. part_of bits number == part) tabs)
  line_own Closed (Some (Open Finding tabs)) is = ap Finds (none_waits (λ number. part_of bits number == part) tabs)
  line_own (Casts lists) (Some (Cast tab b)) is = item_own Casts (λ (b : Ballot). part_of bits b.number == part) lists tab b (λ l. refl) is
  line_own (Withdraws lists) (Some (Withdraw tab number)) is = item_own Withdraws (λ number. part_of bits number == part) lists tab number (λ l. refl) is
  line_own (Finds lists) (Some (Find tab number)) is = item_own Finds (λ number. part_of bits number == part) lists tab number (λ l. refl) is
  line_own phase (Some Close) is = refl
  line_own phase said is = refl

  line_other : (phase : Phase) (said : Option ScriptLine) → concerns bits part said ≡ false → at (phase_after phase said) ≡ at phase
  line_other phase (Some (Open work tabs)) is = absurd cc
  line_other (Casts lists) (Some (Cast tab b)) is = item_other Casts (λ (b : Ballot). part_of bits b.number == part) lists tab b (λ l. refl) is
  line_other (Withdraws lists) (Some (Withdraw tab number)) is = item_other Withdraws (λ number. part_of bits number == part) lists tab number (λ l. refl) is
  line_other (Finds lists) (Some (Find tab number)) is = item_other Finds (λ number. part_of bits number == part) lists tab number (λ l. refl) is
  line_other phase (Some Close) is = absurd cc
  line_other Closed said is = refl
  line_other (Casts lists) said is = refl
  line_other (Withdraws lists) said is = refl
  line_other (Finds lists) said is = refl

  other_open : (phase : Phase) (said : Option ScriptLine) → concerns bits part said ≡ false → has_closed phase (phase_after phase said) ≡ false
  other_open phase (Some (Open work tabs)) is = absurd cc
  other_open (Casts lists) (Some (Cast tab b)) is = item_open Casts lists tab b (λ a b. refl)
  other_open (Withdraws lists) (Some (Withdraw tab number)) is = item_open Withdraws lists tab number (λ a b. refl)
  other_open (Finds lists) (Some (Find tab number)) is = item_open Finds lists tab number (λ a b. refl)
  other_open phase (Some Close) is = absurd cc
  other_open Closed said is = refl
  other_open phase said is = refl

  closed_at : (phase next : Phase) → has_closed phase next ≡ has_closed (at phase) (at next)
  closed_at Closed next = refl
  closed_at phase Closed = refl
  closed_at (Casts lists) (Casts others) = refl
  closed_at (Casts lists) (Withdraws others) = refl
  closed_at (Casts lists) (Finds others) = refl
  closed_at (Withdraws lists) (Casts others) = refl
  closed_at (Withdraws lists) (Withdraws others) = refl
  closed_at (Withdraws lists) (Finds others) = refl
  closed_at (Finds lists) (Casts others) = refl
  closed_at (Finds lists) (Withdraws others) = refl
  closed_at (Finds lists) (Finds others) = refl

  -- ---- all lines, in a part

  phases_of_two : (test : Bool) (phase : Phase) (phases : List Phase) → map at (if test then phase ∷ phases else phases) ≡ (if test then at phase ∷ map at phases else map at phases)
  phases_of_two true phase phases = refl
  phases_of_two false phase phases = refl

  -- the lines of a part alone close what belongs to it
  pub closed_own : (phase : Phase) (said : List (Option ScriptLine)) → map at (phases_closed phase said) ≡ phases_closed (at phase) (filter (concerns bits part) said)
  closed_own phase [] = refl
  closed_own phase (said ∷ rest) = ⊎_elim
      (λ (is : concerns bits part said ≡ true).
      phases_of_two (has_closed phase (phase_after phase said)) phase (phases_closed (phase_after phase said) rest)
      ∙ ap (λ test. if test then at phase ∷ map at (phases_closed (phase_after phase said) rest) else map at (phases_closed (phase_after phase said) rest))
      (closed_at phase (phase_after phase said))
      ∙ ap (λ (ps : List Phase). if has_closed (at phase) (at (phase_after phase said)) then at phase ∷ ps else ps) (closed_own (phase_after phase said) rest)
      ∙ ap (λ (p : Phase). if has_closed (at phase) p then at phase ∷ phases_closed p (filter (concerns bits part) rest) else phases_closed p (filter (concerns bits part) rest)) (line_own phase said is)
      ∙ ap (phases_closed (at phase)) (sym (cond-true (concerns bits part said) (said ∷ filter (concerns bits part) rest) (filter (concerns bits part) rest) is)))
      (λ (is : concerns bits part said ≡ false).
      ap (map at) (cond-false (has_closed phase (phase_after phase said)) (phase ∷ phases_closed (phase_after phase said) rest) (phases_closed (phase_after phase said) rest) (other_open phase said is))
      ∙ closed_own (phase_after phase said) rest
      ∙ ap (λ (p : Phase). phases_closed p (filter (concerns bits part) rest)) (line_other phase said is)
      ∙ ap (phases_closed (at phase)) (sym (cond-false (concerns bits part said) (said ∷ filter (concerns bits part) rest) (filter (concerns bits part) rest) is)))
      (cases_Bool (concerns bits part said))

  -- and leave what waits
  pub behind_own : (phase : Phase) (said : List (Option ScriptLine)) → at (phase_behind phase said) ≡ phase_behind (at phase) (filter (concerns bits part) said)
  behind_own phase [] = refl
  behind_own phase (said ∷ rest) = ⊎_elim
      (λ (is : concerns bits part said ≡ true).
      behind_own (phase_after phase said) rest
      ∙ ap (λ (p : Phase). phase_behind p (filter (concerns bits part) rest)) (line_own phase said is)
      ∙ ap (phase_behind (at phase)) (sym (cond-true (concerns bits part said) (said ∷ filter (concerns bits part) rest) (filter (concerns bits part) rest) is)))
      (λ (is : concerns bits part said ≡ false).
      behind_own (phase_after phase said) rest
      ∙ ap (λ (p : Phase). phase_behind p (filter (concerns bits part) rest)) (line_other phase said is)
      ∙ ap (phase_behind (at phase)) (sym (cond-false (concerns bits part said) (said ∷ filter (concerns bits part) rest) (filter (concerns bits part) rest) is)))
      (cases_Bool (concerns bits part said))

-- ---- it can be handled

module _ (e : Election) where
  pub closed_may_wait : MayWait e Closed
  closed_may_wait = record { casts = λ lists is. absurd cc; withdraws = λ lists is. absurd cc; finds = λ lists is. absurd cc }

  casts_may_wait : (lists : List (List Ballot)) → AreLists lists → All (All (IsValid e)) lists → MayWait e (Casts lists)
  casts_may_wait lists are valid = record {
    casts = λ others is. (let same : lists ≡ others = cc in subst (λ l. AreLists l × All (All (IsValid e)) l) same (are, valid));
    withdraws = λ others is. absurd cc;
    finds = λ others is. absurd cc;
  }

  withdraws_may_wait : (lists : List (List ℕ)) → AreLists lists → MayWait e (Withdraws lists)
  withdraws_may_wait lists are = record {
    casts = λ others is. absurd cc;
    withdraws = λ others is. (let same : lists ≡ others = cc in subst AreLists same are);
    finds = λ others is. absurd cc;
  }

  finds_may_wait : (lists : List (List ℕ)) → AreLists lists → MayWait e (Finds lists)
  finds_may_wait lists are = record {
    casts = λ others is. absurd cc;
    withdraws = λ others is. absurd cc;
    finds = λ others is. (let same : lists ≡ others = cc in subst AreLists same are);
  }

  as_many : {X : Type 0} (lists : List (List X)) (tab : ℕ) (x : X) → AreLists lists → AreLists (queued lists tab x)
  as_many lists tab x are = record {
    some = omega (arith, length-set lists (tab - 1) (get_or lists (tab - 1) [] ++ x ∷ []), are.some);
    few = omega (arith, length-set lists (tab - 1) (get_or lists (tab - 1) [] ++ x ∷ []), are.few);
  }

  item_waits : {X : Type 0} (of : List (List X) → Phase) (lists : List (List X)) (tab : ℕ) (x : X) → MayWait e (of lists) → (tab ≤ length lists → MayWait e (of (queued lists tab x))) → MayWait e (with_item of lists tab x)
  item_waits of lists tab x wait more =
      cond_both (nat_le tab (length lists)) (of (queued lists tab x)) (of lists) (MayWait e) (λ within. more (leb-true tab (length lists) within)) (λ past. wait)

  ballot_waits : (lists : List (List Ballot)) (tab : ℕ) (b : Ballot) → IsTab tab → IsValid e b → MayWait e (Casts lists) → tab ≤ length lists → MayWait e (Casts (queued lists tab b))
  ballot_waits lists tab b is valid wait within =
      let waits = wait.casts lists refl in
      let there : All (IsValid e) (get_or lists (tab - 1) []) = All-get_or (All (IsValid e)) lists (tab - 1) [] (omega (arith, is.0, within)) waits.1 in
      casts_may_wait (queued lists tab b) (as_many lists tab b waits.0)
      (All-set (All (IsValid e)) lists (tab - 1) (get_or lists (tab - 1) [] ++ b ∷ []) (All-push (IsValid e) (get_or lists (tab - 1) []) b there valid) waits.1)

  may_wait_after : (phase : Phase) (bytes : List ℕ) (said : Option ScriptLine) → Means e (Some bytes) said → MayWait e phase → MayWait e (phase_after phase said)
  may_wait_after Closed bytes (Some (Open work tabs)) means wait = opened_may_wait e work tabs means.0
  may_wait_after (Casts lists) bytes (Some (Cast tab b)) means wait = item_waits Casts lists tab b wait (ballot_waits lists tab b means.0 means.3.valid wait)
  may_wait_after (Withdraws lists) bytes (Some (Withdraw tab number)) means wait =
      item_waits Withdraws lists tab number wait (λ within. withdraws_may_wait (queued lists tab number) (as_many lists tab number (wait.withdraws lists refl)))
  may_wait_after (Finds lists) bytes (Some (Find tab number)) means wait =
      item_waits Finds lists tab number wait (λ within. finds_may_wait (queued lists tab number) (as_many lists tab number (wait.finds lists refl)))
  may_wait_after phase bytes (Some Close) means wait = closed_may_wait
  may_wait_after phase bytes said means wait = wait

  line_may_wait : (phase : Phase) (line : Option (List ℕ)) (said : Option ScriptLine) → Means e line said → MayWait e phase → MayWait e (phase_after phase said)
  line_may_wait phase (Some bytes) said means wait = may_wait_after phase bytes said means wait
  line_may_wait phase None (Some said) means wait = absurd means
  line_may_wait Closed None None means wait = wait
  line_may_wait phase None None means wait = wait

  pub phases_may_wait : (phase : Phase) (lines : List (Option (List ℕ))) (said : List (Option ScriptLine)) → AllZip (Means e) lines said → MayWait e phase → All (MayWait e) (phases_closed phase said)
  phases_may_wait phase [] [] means wait = All-nil (MayWait e)
  phases_may_wait phase [] (said ∷ rest) means wait = absurd means
  phases_may_wait phase (line ∷ lines) [] means wait = absurd means
  phases_may_wait phase (line ∷ lines) (said ∷ rest) means wait =
      let behind = phases_may_wait (phase_after phase said) lines rest means.1 (line_may_wait phase line said means.0 wait) in
      cond_both (has_closed phase (phase_after phase said)) (phase ∷ phases_closed (phase_after phase said) rest) (phases_closed (phase_after phase said) rest) (All (MayWait e))
      (λ closed. All-cons (MayWait e) phase (phases_closed (phase_after phase said) rest) wait behind) (λ not. behind)
