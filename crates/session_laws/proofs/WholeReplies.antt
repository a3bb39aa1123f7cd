-- The replies to a script are whole lines, so their summary is that of each, one behind the other.
use Rattle.std.proofs.Common.{◌≡◌, ℕ, ◌+◌, leb, inl, inr, List, [], ◌∷◌, ◌++◌, length, map, codes, Option, Some, None, refl, sym, ap, subst, ◌∙◌}
use Rattle.store_spec.proofs.Common.{Answers, Ballot, Cast, CastInvalid, Casts, Checkpoint, Close, Closed, Does, Effect, Election, Export, Find, Finds, Open, Phase, Plays, ScriptLine, State, Tally, Withdraw, Withdraws, all_reply_lines, cast_text, closing, cond_both, counted, decimal, find_text, flat_map, flat_map-append, in_phase, line_of, lines_text, opened, phase_text, queued, queues, refusal, replies, stays, summary_of, withdraw_text, written, wrong_phase}
use Rattle.outside_io.proofs.EndedLines.{IsWhole}
use Rattle.store_spec.specs.Report.{export_lines, tally_lines}
use Rattle.session_laws.proofs.Summaries.{ended-behind, ended_whole, summary-append, whole-append}

-- ---- replies

-- a line with its end is whole
line_whole : (line : List ℕ) → IsWhole (line_of line)
line_whole line = ended_whole (line_of line) (line, refl)

-- so are a count, and what is replied where nothing is done
counted_whole : (word : List ℕ) (n : ℕ) → IsWhole (counted word n)
counted_whole word n = line_whole (word ++ 32 ∷ decimal n)

refusal_whole : (n : ℕ) (why : List ℕ) → IsWhole (refusal n why)
refusal_whole n why = line_whole (codes "line " ++ decimal n ++ 32 ∷ why)

wrong_whole : (n : ℕ) (phase : Phase) → IsWhole (wrong_phase n phase)
wrong_whole n phase = refusal_whole n (codes "wrong-phase " ++ phase_text phase)

-- so is a text of lines
lines_whole : (lines : List (List ℕ)) → IsWhole (lines_text lines)
lines_whole [] = refl
lines_whole (line ∷ lines) = whole-append (line_of line) (lines_text lines) (line_whole line) (lines_whole lines)

-- so is what is replied at the close of a phase
pub closing_whole : (words : List (List (List ℕ))) (after : List Ballot) → IsWhole (closing words after).reply
closing_whole words after =
    ended_whole (closing words after).reply (ended-behind (all_reply_lines 1 words) (counted (codes "closed") (length after)) (codes "closed" ++ 32 ∷ decimal (length after), refl))

-- so is what is replied to what waits
queues_whole : (n : ℕ) (s : State) {X : Type 0} (phase : List (List X) → Phase) (lists : List (List X)) (tab : ℕ) (x : X) → IsWhole (queues n s phase lists tab x).reply
queues_whole n s phase lists tab x =
    cond_both (leb tab (length lists)) (replies [] (in_phase (phase (queued lists tab x)) s.set)) (stays s (refusal n (codes "invalid"))) (λ (effect : Effect). IsWhole effect.reply)
    (λ within. refl) (λ past. refusal_whole n (codes "invalid"))

-- what is replied is known
from_known : (effect other : Effect) → effect ≡ other → IsWhole other.reply → IsWhole effect.reply
from_known effect other same whole = subst (λ (effect : Effect). IsWhole effect.reply) (sym same) whole

-- a line of each form is replied to so, in each phase
does_whole : (e : Election) (n : ℕ) (s : State) (line : ScriptLine) (phase : Phase) (effect : Effect) → Does e n s line phase effect → IsWhole effect.reply
does_whole e n s (Open work tabs) Closed effect does = from_known effect _ does (counted_whole (phase_text (opened work tabs)) tabs)
does_whole e n s (Open work tabs) phase effect does = from_known effect _ does (wrong_whole n phase)
does_whole e n s Checkpoint Closed effect does = from_known effect _ does (counted_whole (codes "checkpoint") (length s.set))
does_whole e n s Checkpoint phase effect does = from_known effect _ does (wrong_whole n phase)
does_whole e n s Tally Closed effect does = from_known effect _ does (lines_whole (tally_lines e s.set))
does_whole e n s Tally phase effect does = from_known effect _ does (wrong_whole n phase)
does_whole e n s Export Closed effect does = from_known effect _ does (lines_whole (export_lines e s.set))
does_whole e n s Export phase effect does = from_known effect _ does (wrong_whole n phase)
does_whole e n s (Cast tab b) (Casts lists) effect does = from_known effect _ does (queues_whole n s Casts lists tab b)
does_whole e n s (Cast tab b) phase effect does = from_known effect _ does (wrong_whole n phase)
does_whole e n s (CastInvalid tab) (Casts lists) effect does = from_known effect _ does (refusal_whole n (codes "invalid"))
does_whole e n s (CastInvalid tab) phase effect does = from_known effect _ does (wrong_whole n phase)
does_whole e n s (Withdraw tab number) (Withdraws lists) effect does = from_known effect _ does (queues_whole n s Withdraws lists tab number)
does_whole e n s (Withdraw tab number) phase effect does = from_known effect _ does (wrong_whole n phase)
does_whole e n s (Find tab number) (Finds lists) effect does = from_known effect _ does (queues_whole n s Finds lists tab number)
does_whole e n s (Find tab number) phase effect does = from_known effect _ does (wrong_whole n phase)
does_whole e n s Close Closed effect does = from_known effect _ does (wrong_whole n Closed)
does_whole e n s Close (Casts lists) effect does = from_known effect _ does.is (closing_whole (map (map (λ l. cast_text l.reply)) does.lines) does.after)
does_whole e n s Close (Withdraws lists) effect does = from_known effect _ does.is (closing_whole (map (map (λ a. withdraw_text a.reply)) does.lines) does.after)
does_whole e n s Close (Finds lists) effect does = from_known effect _ does.is (closing_whole (map (map (λ a. find_text a.present)) does.lines) s.set)

-- so is each line
pub answer_whole : (e : Election) (n : ℕ) (s : State) (line : Option (List ℕ)) (effect : Effect) → Answers e n s line effect → IsWhole effect.reply
answer_whole e n s None effect answers = from_known effect _ answers (refusal_whole n (codes "malformed"))
answer_whole e n s (Some bytes) effect (inl malformed) = from_known effect _ malformed.1 (refusal_whole n (codes "malformed"))
answer_whole e n s (Some bytes) effect (inr (line, says, does)) = does_whole e n s line s.phase effect does

-- ---- scripts

-- what is written for a script is whole
pub play_whole : (e : Election) (n : ℕ) (s : State) (lines : List (Option (List ℕ))) (effects : List Effect) (end : State) → Plays e n s lines effects end → IsWhole (written effects)
play_whole e n s [] [] end plays = refl
play_whole e n s [] (effect ∷ effects) end plays = absurd plays
play_whole e n s (line ∷ lines) [] end plays = absurd plays
play_whole e n s (line ∷ lines) (effect ∷ effects) end plays =
    whole-append effect.reply (written effects) (answer_whole e n s line effect plays.0) (play_whole e (n + 1) effect.next lines effects end plays.1)

-- its summary stands before that of what comes behind it
pub summary_behind : (e : Election) (n : ℕ) (s end : State) (lines : List (Option (List ℕ))) (xs ys : List Effect) → Plays e n s lines xs end
    → summary_of (written (xs ++ ys)) ≡ summary_of (written xs) ++ summary_of (written ys)
summary_behind e n s end lines xs ys plays =
    ap summary_of (flat_map-append (λ effect. effect.reply) xs ys) ∙ summary-append (written xs) (written ys) (play_whole e n s lines xs end plays)

-- and is that of each reply
pub summary_each : (e : Election) (n : ℕ) (s end : State) (lines : List (Option (List ℕ))) (effects : List Effect) → Plays e n s lines effects end
    → summary_of (written effects) ≡ flat_map (λ effect. summary_of effect.reply) effects
summary_each e n s end [] [] plays = refl
summary_each e n s end [] (effect ∷ effects) plays = absurd plays
summary_each e n s end (line ∷ lines) [] plays = absurd plays
summary_each e n s end (line ∷ lines) (effect ∷ effects) plays =
    summary-append effect.reply (written effects) (answer_whole e n s line effect plays.0)
    ∙ ap (λ text. summary_of effect.reply ++ text) (summary_each e (n + 1) effect.next end lines effects plays.1)
