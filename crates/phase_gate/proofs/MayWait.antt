-- What waits for the close of a phase can be handled.
use Rattle.std.proofs.Common.{◌≡◌, ℕ, ◌-◌, ◌≤◌, List, [], ◌∷◌, ◌++◌, length, map, replicate, get_or, All, Result, Ok, Err, IfOk, OnErr, arith, refl, sym, subst}
use Rattle.store_spec.proofs.Common.{All-get_or, All-push, All-replicate, All-set, Ballot, Casting, Casts, Election, Finding, Finds, IsTab, IsValid, Phase, Says, Withdrawing, Withdraws, length-replicate, length-set, opened, queued}
use Rattle.ballot_record.specs.Record.{ballot}
use Rattle.ballot_record.specs.declared.record.Record.{Record}
use Rattle.phase_gate.specs.Standing.{AreLists, MayWait}
use Rattle.phase_gate.specs.Waiting.{CanWait, GoesInto, QueuesIn}
use Rattle.phase_gate.specs.declared.waiting.Queued.{Queued}
use Rattle.phase_gate.specs.declared.waiting.Queued.TheVariants.{Waits, NoList, OtherPhase}
use Rattle.script_lines.specs.Line.{entry_line}
use Rattle.script_lines.specs.declared.line.Entry.{Entry}
use Rattle.script_lines.specs.declared.line.Entry.TheVariants as entries
use Rattle.store_spec.specs.ScriptLine as line
use Rattle.step_core.proofs.Sets.{All-from_map}

-- the ballots that wait are valid
pub all_valid : {V : Type 0} (e : Election) (f : V → List Ballot) (lists shown : List V) → shown ≡ lists
    → All (All (IsValid e)) (map f lists) → All (λ v. All (IsValid e) (f v)) shown
all_valid e f lists shown same all =
    subst (All (λ v. All (IsValid e) (f v))) (sym same) (All-from_map (All (IsValid e)) f lists all)

-- what waits in a casting phase, where its ballots are valid
casts_may_wait : (e : Election) (lists : List (List Ballot)) → AreLists lists → All (All (IsValid e)) lists
    → MayWait e (Casts lists)
casts_may_wait e lists are valid = record {
  casts = λ others is. (let same : lists ≡ others = cc in subst (λ l. AreLists l × All (All (IsValid e)) l) same
      (are, valid));
  withdraws = λ others is. absurd (cc);
  finds = λ others is. absurd (cc);
}

-- so many empty lists are lists
empty_are_lists : {X : Type 0} (tabs : ℕ) → IsTab tabs → AreLists (replicate {A = List X} tabs [])
empty_are_lists {X = X} tabs (some, few) = record {
  some = omega (arith, length-replicate {A = List X} tabs []);
  few = omega (arith, length-replicate {A = List X} tabs []);
}

-- what waits in a withdrawing phase
withdraws_may_wait : (e : Election) (lists : List (List ℕ)) → AreLists lists → MayWait e (Withdraws lists)
withdraws_may_wait e lists are = record {
  casts = λ others is. absurd (cc);
  withdraws = λ others is. (let same : lists ≡ others = cc in subst AreLists same are);
  finds = λ others is. absurd (cc);
}

-- what waits in a finding phase
finds_may_wait : (e : Election) (lists : List (List ℕ)) → AreLists lists → MayWait e (Finds lists)
finds_may_wait e lists are = record {
  casts = λ others is. absurd (cc);
  withdraws = λ others is. absurd (cc);
  finds = λ others is. (let same : lists ≡ others = cc in subst AreLists same are);
}

-- what waits in a phase that was just opened
pub opened_may_wait : (e : Election) (kind : line.Work) (tabs : ℕ) → IsTab tabs → MayWait e (opened kind tabs)
opened_may_wait e Casting tabs tab = casts_may_wait e (replicate tabs []) (empty_are_lists tabs tab)
    (All-replicate (All (IsValid e)) tabs [] (λ k d within. absurd (omega arith)))
opened_may_wait e Withdrawing tabs tab = withdraws_may_wait e (replicate tabs []) (empty_are_lists tabs tab)
opened_may_wait e Finding tabs tab = finds_may_wait e (replicate tabs []) (empty_are_lists tabs tab)

-- lists stay as many where an item comes to one of them
queued_are_lists : {X : Type 0} (lists : List (List X)) (tab : ℕ) (x : X) → AreLists lists
    → AreLists (queued lists tab x)
queued_are_lists lists tab x are = record {
  some = omega (arith, length-set lists (tab - 1) (get_or lists (tab - 1) [] ++ x ∷ []), are.some);
  few = omega (arith, length-set lists (tab - 1) (get_or lists (tab - 1) [] ++ x ∷ []), are.few);
}

-- a valid ballot waits with others
valid_with_others : (e : Election) (lists : List (List Ballot)) (tab : ℕ) (b : Ballot) → 1 ≤ tab → tab ≤ length lists
    → IsValid e b → All (All (IsValid e)) lists → All (All (IsValid e)) (queued lists tab b)
valid_with_others e lists tab b first within valid all =
    let there : All (IsValid e) (get_or lists (tab - 1) []) =
    All-get_or (All (IsValid e)) lists (tab - 1) [] (omega arith) all in
    All-set (All (IsValid e)) lists (tab - 1) (get_or lists (tab - 1) [] ++ b ∷ [])
    (All-push (IsValid e) (get_or lists (tab - 1) []) b there valid) all

-- what waits in the phase of an item that came to it
waits_may_wait : {X : Type 0} (e : Election) (of : List (List X) → Phase) (lists : List (List X)) (tab : ℕ) (x : X)
    (place : Queued) (now : Phase) → MayWait e (of lists) → (tab ≤ length lists → MayWait e (of (queued lists tab x)))
    → QueuesIn of lists tab x place now → MayWait e now
waits_may_wait e of lists tab x Waits now wait more (within, is) = subst (MayWait e) (sym is) (more within)
waits_may_wait e of lists tab x NoList now wait more (none, is) = subst (MayWait e) (sym is) wait
waits_may_wait e of lists tab x OtherPhase now wait more absent = absurd absent

-- what waits in a phase that an entry came to
entry_may_wait : (e : Election) (entry : Entry) (tab : ℕ) (r : Record) (phase : Phase) (place : Queued) (now : Phase) → 1 ≤ tab
    → CanWait e entry r → MayWait e phase → GoesInto entry tab r phase place now → MayWait e now
entry_may_wait e entries.Cast tab r (Casts lists) place now first valid wait into =
    let (are, all) = wait.casts lists refl in
    waits_may_wait e Casts lists tab (ballot r) place now wait
    (λ within. casts_may_wait e (queued lists tab (ballot r)) (queued_are_lists lists tab (ballot r) are)
    (valid_with_others e lists tab (ballot r) first within valid all))
    into
entry_may_wait e (entries.Withdraw k) tab r (Withdraws lists) place now first can wait into =
    waits_may_wait e Withdraws lists tab k place now wait
    (λ within. withdraws_may_wait e (queued lists tab k)
    (queued_are_lists lists tab k (wait.withdraws lists refl))) into
entry_may_wait e (entries.Find k) tab r (Finds lists) place now first can wait into =
    waits_may_wait e Finds lists tab k place now wait (λ within. finds_may_wait e (queued lists tab k)
    (queued_are_lists lists tab k (wait.finds lists refl))) into
entry_may_wait e entry tab r phase place now first can wait into = subst (MayWait e) (sym into.1) wait

-- and in one that is as it was, where there was no memory
pub entry_waits_or_not : {E : Type 0} (e : Election) (entry : Entry) (tab : ℕ) (r : Record) (phase : Phase) (place : Result Queued E)
    (now : Phase) → 1 ≤ tab → CanWait e entry r → MayWait e phase → IfOk place (λ queued. GoesInto entry tab r phase queued now)
    → OnErr place (now ≡ phase) → MayWait e now
entry_waits_or_not e entry tab r phase (Ok queued) now first can wait goes same =
    entry_may_wait e entry tab r phase queued now first can wait goes
entry_waits_or_not e entry tab r phase (Err fault) now first can wait goes same = subst (MayWait e) (sym same) wait

-- an entry of a line can wait
pub entry_can_wait : (e : Election) (line : List ℕ) (entry : Entry) (tab : ℕ) (r : Record) → Says e line (entry_line tab entry r)
    → IsTab tab × CanWait e entry r
entry_can_wait e line entries.Cast tab r says = (says.0, says.3.valid)
entry_can_wait e line (entries.Withdraw k) tab r says = (says.0, tt)
entry_can_wait e line (entries.Find k) tab r says = (says.0, tt)
