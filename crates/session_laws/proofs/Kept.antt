-- Each line leads from a state that a session can be in to such a state.
use Rattle.std.proofs.Common.{◌≡◌, ℕ, ◌+◌, ◌-◌, ◌<◌, leb, inl, inr, List, [], ◌∷◌, ◌++◌, get_or, length, Option, Some, None, sym, subst, arith}
use Rattle.store_spec.proofs.Common.{All, All-filter, All-get_or, All-nil, All-push, All-replicate, All-set, AllPairs-filter, Answers, Ballot, Cast, CastInvalid, Casting, Casts, Checkpoint, Close, Closed, Does, Effect, Election, Export, Find, Finding, Finds, IsBallotSet, IsValid, IsWithinLimit, Open, Phase, Plays, Says, ScriptLine, State, Tally, Withdraw, Withdrawing, Withdraws, Work, ballots_without, begun, cases_lt, cond_both, count_by-le-length, get_or_past, in_phase, length-filter, list_any, not, opened, queued, queues, refusal, replies, stays}
use Rattle.std.specs.Prelude.{◌==◌}
use Rattle.session_laws.specs.SessionStates.{IsSessionState, OnlyValidWait}

-- ---- parts of a state

-- what is queued for a list is as valid as the rest
queued_valid : (e : Election) (lists : List (List Ballot)) (tab : ℕ) (b : Ballot) → All (All (IsValid e)) lists → IsValid e b → All (All (IsValid e)) (queued lists tab b)
queued_valid e lists tab b valid is =
    let here : All (IsValid e) (get_or lists (tab - 1) []) =
    elim (cases_lt (tab - 1) (length lists)) [
      | inl within ↦ All-get_or (All (IsValid e)) lists (tab - 1) [] within valid
      | inr past ↦ subst (All (IsValid e)) (sym (get_or_past lists (tab - 1) [] past)) (All-nil (IsValid e))
    ] in
    All-set (All (IsValid e)) lists (tab - 1) (get_or lists (tab - 1) [] ++ b ∷ []) (All-push (IsValid e) (get_or lists (tab - 1) []) b here is) valid

-- another phase with the same set
with_phase : (e : Election) (s : State) (phase : Phase) → IsSessionState e s → OnlyValidWait e phase → IsSessionState e (in_phase phase s.set)
with_phase e s phase is waiting = record { set = is.set; within_limit = is.within_limit; waiting = waiting }

-- a session begins in such a state
pub begun_kept : (e : Election) (set : List Ballot) → IsBallotSet e set → IsWithinLimit e set → IsSessionState e (begun set)
begun_kept e set is few = record { set = is; within_limit = few; waiting = tt }

-- a set loses ballots and stays one
less_kept : (e : Election) (set : List Ballot) (numbers : List ℕ) → IsBallotSet e set → IsWithinLimit e set → IsSessionState e (begun (ballots_without set numbers))
less_kept e set numbers is few =
    let test = λ (b : Ballot). not (list_any (λ number. number == b.number) numbers) in
    begun_kept e (ballots_without set numbers)
    (record { valid = All-filter test (IsValid e) set is.valid; ascending = AllPairs-filter (λ (a b : Ballot). a.number < b.number) test set is.ascending })
    (omega (arith, length-filter test set, count_by-le-length test set))

-- ---- a line

-- an effect is known, and its next state is one
from_is : (e : Election) (effect other : Effect) → effect ≡ other → IsSessionState e other.next → IsSessionState e effect.next
from_is e effect other same kept = subst (λ (effect : Effect). IsSessionState e effect.next) (sym same) kept

-- nothing waits in a phase that was opened just now
opened_kept : (e : Election) (work : Work) (tabs : ℕ) → OnlyValidWait e (opened work tabs)
opened_kept e Casting tabs = All-replicate (All (IsValid e)) tabs [] (All-nil (IsValid e))
opened_kept e Withdrawing tabs = tt
opened_kept e Finding tabs = tt

-- an item waits, or the state stays
queues_kept : (e : Election) (n : ℕ) (s : State) {X : Type 0} (phase : List (List X) → Phase) (lists : List (List X)) (tab : ℕ) (x : X) → IsSessionState e s → OnlyValidWait e (phase (queued lists tab x)) → IsSessionState e (queues n s phase lists tab x).next
queues_kept e n s phase lists tab x is waiting =
    cond_both (leb tab (length lists)) (replies [] (in_phase (phase (queued lists tab x)) s.set)) (stays s (refusal n _)) (λ (effect : Effect). IsSessionState e effect.next)
    (λ within. with_phase e s (phase (queued lists tab x)) is waiting) (λ past. is)

-- what a line casts is valid
abbrev CastsValid : Election → ScriptLine → Type 0
CastsValid e (Cast tab b) = IsValid e b
CastsValid e line = Unit {0}

-- a line that casts spells a valid ballot
casts_valid : (e : Election) (bytes : List ℕ) (line : ScriptLine) → Says e bytes line → CastsValid e line
casts_valid e bytes (Cast tab b) says = says.3.valid
casts_valid e bytes (Open work tabs) says = tt
casts_valid e bytes (CastInvalid tab) says = tt
casts_valid e bytes (Withdraw tab number) says = tt
casts_valid e bytes (Find tab number) says = tt
casts_valid e bytes Close says = tt
casts_valid e bytes Checkpoint says = tt
casts_valid e bytes Tally says = tt
casts_valid e bytes Export says = tt

-- a line of each form keeps such a state, in each phase
does_kept : (e : Election) (n : ℕ) (phase : Phase) (set : List Ballot) (line : ScriptLine) (effect : Effect) → IsSessionState e (in_phase phase set) → CastsValid e line → Does e n (in_phase phase set) line phase effect → IsSessionState e effect.next
does_kept e n Closed set (Open work tabs) effect is valid does = from_is e effect _ does (with_phase e (begun set) (opened work tabs) is (opened_kept e work tabs))
does_kept e n phase set (Open work tabs) effect is valid does = from_is e effect _ does is
does_kept e n Closed set Checkpoint effect is valid does = from_is e effect _ does is
does_kept e n phase set Checkpoint effect is valid does = from_is e effect _ does is
does_kept e n Closed set Tally effect is valid does = from_is e effect _ does is
does_kept e n phase set Tally effect is valid does = from_is e effect _ does is
does_kept e n Closed set Export effect is valid does = from_is e effect _ does is
does_kept e n phase set Export effect is valid does = from_is e effect _ does is
does_kept e n (Casts lists) set (Cast tab b) effect is valid does = from_is e effect _ does (queues_kept e n (in_phase (Casts lists) set) Casts lists tab b is (queued_valid e lists tab b is.waiting valid))
does_kept e n phase set (Cast tab b) effect is valid does = from_is e effect _ does is
does_kept e n (Casts lists) set (CastInvalid tab) effect is valid does = from_is e effect _ does is
does_kept e n phase set (CastInvalid tab) effect is valid does = from_is e effect _ does is
does_kept e n (Withdraws lists) set (Withdraw tab number) effect is valid does = from_is e effect _ does (queues_kept e n (in_phase (Withdraws lists) set) Withdraws lists tab number is tt)
does_kept e n phase set (Withdraw tab number) effect is valid does = from_is e effect _ does is
does_kept e n (Finds lists) set (Find tab number) effect is valid does = from_is e effect _ does (queues_kept e n (in_phase (Finds lists) set) Finds lists tab number is tt)
does_kept e n phase set (Find tab number) effect is valid does = from_is e effect _ does is
does_kept e n Closed set Close effect is valid does = from_is e effect _ does is
does_kept e n (Casts lists) set Close effect is valid does = from_is e effect _ does.is (begun_kept e does.after does.outcome.set does.outcome.within_limit)
does_kept e n (Withdraws lists) set Close effect is valid does =
    from_is e effect _ does.is (subst (λ (after : List Ballot). IsSessionState e (begun after)) (sym does.rest) (less_kept e set _ is.set is.within_limit))
does_kept e n (Finds lists) set Close effect is valid does = from_is e effect _ does.is (begun_kept e set is.set is.within_limit)

-- each line leads to such a state
pub line_kept : (e : Election) (n : ℕ) (s : State) (line : Option (List ℕ)) (effect : Effect) → IsSessionState e s → Answers e n s line effect → IsSessionState e effect.next
line_kept e n s None effect is answers = from_is e effect _ answers is
line_kept e n s (Some bytes) effect is (inl malformed) = from_is e effect _ malformed.1 is
line_kept e n s (Some bytes) effect is (inr (line, says, does)) = does_kept e n s.phase s.set line effect is (casts_valid e bytes line says) does

-- ---- a script

-- and so does each script
pub script_kept : (e : Election) (n : ℕ) (s : State) (lines : List (Option (List ℕ))) (effects : List Effect) (end : State) → IsSessionState e s → Plays e n s lines effects end → IsSessionState e end
script_kept e n s [] [] end is plays = subst (IsSessionState e) (sym plays) is
script_kept e n s [] (effect ∷ effects) end is plays = absurd plays
script_kept e n s (line ∷ lines) [] end is plays = absurd plays
script_kept e n s (line ∷ lines) (effect ∷ effects) end is plays = script_kept e (n + 1) effect.next lines effects end (line_kept e n s line effect is plays.0) plays.1
