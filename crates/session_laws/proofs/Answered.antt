-- Each line does something in each state that a session can be in.
use Rattle.std.proofs.Common.{◌≡◌, ℕ, ◌+◌, Bool, true, false, cond, inl, inr, List, [], ◌∷◌, map, Option, Some, None, refl, sym, ap, subst, ◌∙◌}
use Rattle.store_spec.proofs.Common.{Answers, Ballot, Cast, CastInvalid, Casts, Checkpoint, Close, Closed, ClosesWithdrawing, Does, Effect, Election, Export, Find, Finds, Open, Phase, Plays, ScriptLine, State, Tally, Withdraw, WithdrawOutcome, Withdraws, ballots_without, cast_text, closing, in_phase, list_any, listed, not, numbers_of, withdraw_text, without}
use Rattle.std.specs.Prelude.{◌==◌}
use Rattle.session_laws.specs.SessionStates.{IsSessionState}
use Rattle.session_laws.proofs.Findings.{finding_closes, finding_effect, findings}
use Rattle.session_laws.proofs.Kept.{line_kept}
use Rattle.session_laws.proofs.Meant.{meant_or_malformed}
use Rattle.session_laws.proofs.OneByOne.{has_outcome}
use Rattle.session_laws.proofs.Withdrawals.{all_answers, all_answers_of, withdrawals_outcome}

-- ---- the numbers of a set without some

-- a ballot that stays keeps its number
one_kept : (t : Bool) (b : Ballot) (ballots : List Ballot) (numbers : List ℕ) → numbers_of ballots ≡ numbers → numbers_of (cond t (b ∷ ballots) ballots) ≡ cond t (b.number ∷ numbers) numbers
one_kept true b ballots numbers same = ap (λ numbers. b.number ∷ numbers) same
one_kept false b ballots numbers same = same

-- the numbers of a set without some
numbers_of-without : (set : List Ballot) (numbers : List ℕ) → numbers_of (ballots_without set numbers) ≡ without (numbers_of set) numbers
numbers_of-without [] numbers = refl
numbers_of-without (b ∷ set) numbers = one_kept (not (list_any (λ number. number == b.number) numbers)) b (ballots_without set numbers) (without (numbers_of set) numbers) (numbers_of-without set numbers)

-- ---- closes

-- a phase of withdrawing may be closed, by answering its numbers one after another
pub withdrawing_closes : (set : List Ballot) (lists : List (List ℕ)) (after : List Ballot) → after ≡ ballots_without set (listed (all_answers (numbers_of set) [] lists))
    → ClosesWithdrawing set lists (closing (map (map (λ a. withdraw_text a.reply)) (all_answers (numbers_of set) [] lists)) after)
withdrawing_closes set lists after rest =
    let lines = all_answers (numbers_of set) [] lists in
    let numbers : numbers_of after ≡ without (numbers_of set) (listed lines) = ap numbers_of rest ∙ numbers_of-without set (listed lines) in
    record {
      lines = lines;
      of_lists = all_answers_of (numbers_of set) [] lists;
      after = after;
      rest = rest;
      outcome = subst (WithdrawOutcome (numbers_of set) lines) (sym numbers) (withdrawals_outcome (numbers_of set) lists);
      is = refl;
    }

-- ---- a line

-- a line of each form does something in each phase
does_some : (e : Election) (n : ℕ) (phase : Phase) (set : List Ballot) (line : ScriptLine) → IsSessionState e (in_phase phase set) → (effect : Effect) × Does e n (in_phase phase set) line phase effect
does_some e n Closed set (Open work tabs) is = (_, refl)
does_some e n phase set (Open work tabs) is = (_, refl)
does_some e n Closed set Checkpoint is = (_, refl)
does_some e n phase set Checkpoint is = (_, refl)
does_some e n Closed set Tally is = (_, refl)
does_some e n phase set Tally is = (_, refl)
does_some e n Closed set Export is = (_, refl)
does_some e n phase set Export is = (_, refl)
does_some e n (Casts lists) set (Cast tab b) is = (_, refl)
does_some e n phase set (Cast tab b) is = (_, refl)
does_some e n (Casts lists) set (CastInvalid tab) is = (_, refl)
does_some e n phase set (CastInvalid tab) is = (_, refl)
does_some e n (Withdraws lists) set (Withdraw tab number) is = (_, refl)
does_some e n phase set (Withdraw tab number) is = (_, refl)
does_some e n (Finds lists) set (Find tab number) is = (_, refl)
does_some e n phase set (Find tab number) is = (_, refl)
does_some e n Closed set Close is = (_, refl)
does_some e n (Casts lists) set Close is =
    let has = has_outcome e set lists is.set is.within_limit is.waiting in
    (closing (map (map (λ l. cast_text l.reply)) has.lines) has.after, record { lines = has.lines; of_lists = has.of_lists; after = has.after; outcome = has.outcome; is = refl })
does_some e n (Withdraws lists) set Close is =
    let lines = all_answers (numbers_of set) [] lists in
    let after = ballots_without set (listed lines) in
    (closing (map (map (λ a. withdraw_text a.reply)) lines) after, withdrawing_closes set lists after refl)
does_some e n (Finds lists) set Close is =
    (finding_effect set (findings (numbers_of set) lists), finding_closes set lists)

-- each line does something
pub line_answered : (e : Election) (n : ℕ) (s : State) (line : Option (List ℕ)) → IsSessionState e s → (effect : Effect) × Answers e n s line effect
line_answered e n s None is = (_, refl)
line_answered e n s (Some bytes) is =
    elim (meant_or_malformed e bytes) [
      | inr malformed ↦ (_, inl (malformed, refl))
      | inl meant ↦ let does = does_some e n s.phase s.set meant.0 is in (does.0, inr (meant.0, meant.1, does.1))
    ]

-- ---- a script

-- a script plays in some way
pub record HasPlay (e : Election) (n : ℕ) (s : State) (lines : List (Option (List ℕ))) : Type 0 where
  pub effects : List Effect
  pub end : State
  pub plays : Plays e n s lines effects end

-- each script plays
pub script_answered : (e : Election) (n : ℕ) (s : State) (lines : List (Option (List ℕ))) → IsSessionState e s → HasPlay e n s lines
script_answered e n s [] is = record { effects = []; end = s; plays = refl }
script_answered e n s (line ∷ lines) is =
    let one = line_answered e n s line is in
    let more = script_answered e (n + 1) one.0.next lines (line_kept e n s line one.0 is one.1) in
    record { effects = one.0 ∷ more.effects; end = more.end; plays = (one.1, more.plays) }
