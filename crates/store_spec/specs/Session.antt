-- The session machine: what each line of a script does, and what is replied to it.
use Rattle.std.specs.Prelude.{◌≡◌, ◌⊎◌, ℕ, ◌+◌, ◌-◌, nat_le, ◌==◌, not, if◌then◌else◌, Bool, List, [], ◌∷◌, ◌++◌, length, map, flat_map, replicate, filter, get_or, slice_set, codes, Option, Some, None}
use Rattle.std.specs.Fmt.{decimal}
use Rattle.std.specs.List.{list_any}
use Rattle.store_spec.specs.Ballot.{Ballot, numbers_of}
use Rattle.store_spec.specs.BallotLine.{space}
use Rattle.store_spec.specs.BallotPhase.{BallotOutcome, CastLine, CastReply}
use Rattle.store_spec.specs.BallotPhase as cast
use Rattle.store_spec.specs.Election.{Election}
use Rattle.store_spec.specs.Input.{line_end}
use Rattle.store_spec.specs.Report.{export_text, tally_text}
use Rattle.store_spec.specs.ScriptLine.{IsMalformed, Says, ScriptLine, Work}
use Rattle.store_spec.specs.ScriptLine.Work.{Casting, Withdrawing, Finding}
use Rattle.store_spec.specs.ScriptLine.ScriptLine.{Open, Cast, CastInvalid, Withdraw, Find, Close, Checkpoint, Tally, Export}
use Rattle.store_spec.specs.WithdrawPhase.{Finding as FoundNumber, FindOutcome, Withdrawal, WithdrawOutcome, WithdrawReply, listed}
use Rattle.store_spec.specs.WithdrawPhase as withdraw

-- ---- the state

-- a phase, and the lists of what waits for its close, one for each tabulator
pub data Phase : Type 0 where
  Closed : Phase
  Casts : List (List Ballot) → Phase
  Withdraws : List (List ℕ) → Phase
  Finds : List (List ℕ) → Phase

-- the phase, and the set of the last closed store
pub record State : Type 0 where
  pub phase : Phase
  pub set : List Ballot

abbrev pub in_phase : Phase → List Ballot → State
in_phase phase set = record { phase = phase; set = set }

-- a session begins closed, with the set that is held
abbrev pub begun : List Ballot → State
begun set = in_phase Closed set

abbrev pub opened : Work → ℕ → Phase
opened Casting tabs = Casts (replicate tabs [])
opened Withdrawing tabs = Withdraws (replicate tabs [])
opened Finding tabs = Finds (replicate tabs [])

-- lists with one item more at the end of one of them, counted from 1
abbrev pub queued : {X : Type 0} → List (List X) → ℕ → X → List (List X)
queued lists tab x = slice_set lists (tab - 1) (get_or lists (tab - 1) [] ++ x ∷ [])

-- ---- what a line does

-- what is replied, the sets that are acknowledged, one or none, and the state after it
pub record Effect : Type 0 where
  pub reply : List ℕ
  pub acknowledged : List (List Ballot)
  pub next : State

-- nothing is acknowledged
abbrev pub replies : List ℕ → State → Effect
replies text next = record { reply = text; acknowledged = []; next = next }

-- ---- replies

abbrev pub line_of : List ℕ → List ℕ
line_of text = text ++ line_end ∷ []

abbrev pub phase_text : Phase → List ℕ
phase_text Closed = codes "closed"
phase_text (Casts lists) = codes "casting"
phase_text (Withdraws lists) = codes "withdrawing"
phase_text (Finds lists) = codes "finding"

-- what is replied to line number n, counted from 1, where it does nothing
abbrev pub refusal : ℕ → List ℕ → List ℕ
refusal n why = line_of (codes "line " ++ decimal n ++ space ∷ why)

abbrev pub wrong_phase : ℕ → Phase → List ℕ
wrong_phase n phase = refusal n (codes "wrong-phase " ++ phase_text phase)

-- a word and a number
abbrev pub counted : List ℕ → ℕ → List ℕ
counted word n = line_of (word ++ space ∷ decimal n)

-- `I K REPLY`
abbrev pub reply_line : ℕ → ℕ → List ℕ → List ℕ
reply_line list at word = decimal list ++ space ∷ (decimal at ++ space ∷ line_of word)

-- the same for each reply of list I, from K on
abbrev pub reply_lines : ℕ → ℕ → List (List ℕ) → List ℕ
reply_lines list at [] = []
reply_lines list at (word ∷ words) = reply_line list at word ++ reply_lines list (at + 1) words

-- the same of each list, from I on
abbrev pub all_reply_lines : ℕ → List (List (List ℕ)) → List ℕ
all_reply_lines list [] = []
all_reply_lines list (words ∷ lists) = reply_lines list 1 words ++ all_reply_lines (list + 1) lists

abbrev pub cast_text : CastReply → List ℕ
cast_text cast.CastReply.Accepted = codes "accepted"
cast_text cast.CastReply.Duplicate = codes "duplicate"
cast_text cast.CastReply.Conflict = codes "conflict"
cast_text cast.CastReply.Full = codes "full"

abbrev pub withdraw_text : WithdrawReply → List ℕ
withdraw_text withdraw.WithdrawReply.Withdrawn = codes "withdrawn"
withdraw_text withdraw.WithdrawReply.Gone = codes "gone"
withdraw_text withdraw.WithdrawReply.Absent = codes "absent"

abbrev pub find_text : Bool → List ℕ
find_text present = if present then codes "present" else codes "absent"

-- ---- the close of a phase

-- `closed N`, behind the replies of the lists
abbrev pub closing : List (List (List ℕ)) → List Ballot → Effect
closing words after = replies (all_reply_lines 1 words ++ counted (codes "closed") (length after)) (begun after)

-- the replies of a casting phase, and the set after it
pub record ClosesCasting (e : Election) (set : List Ballot) (lists : List (List Ballot)) (effect : Effect) : Type 0 where
  pub lines : List (List CastLine)
  pub of_lists : map (map (λ l. l.ballot)) lines ≡ lists
  pub after : List Ballot
  pub outcome : BallotOutcome e set lines after
  pub is : effect ≡ closing (map (map (λ l. cast_text l.reply)) lines) after

-- the ballots of a set whose numbers are none of these
abbrev pub ballots_without : List Ballot → List ℕ → List Ballot
ballots_without ballots numbers = filter (λ b. not (list_any (λ number. number == b.number) numbers)) ballots

pub record ClosesWithdrawing (set : List Ballot) (lists : List (List ℕ)) (effect : Effect) : Type 0 where
  pub lines : List (List Withdrawal)
  pub of_lists : map (map (λ a. a.number)) lines ≡ lists
  pub after : List Ballot
  pub rest : after ≡ ballots_without set (listed lines)
  pub outcome : WithdrawOutcome (numbers_of set) lines (numbers_of after)
  pub is : effect ≡ closing (map (map (λ a. withdraw_text a.reply)) lines) after

pub record ClosesFinding (set : List Ballot) (lists : List (List ℕ)) (effect : Effect) : Type 0 where
  pub lines : List (List FoundNumber)
  pub of_lists : map (map (λ a. a.number)) lines ≡ lists
  pub outcome : FindOutcome (numbers_of set) lines (numbers_of set)
  pub is : effect ≡ closing (map (map (λ a. find_text a.present)) lines) set

-- What the close of a phase asks that may change the set: which effects it may have on a set, by what waits in the lists.
pub record Closes : Type 1 where
  pub casting : List Ballot → List (List Ballot) → Effect → Type 0
  pub withdrawing : List Ballot → List (List ℕ) → Effect → Type 0

-- what it asks of one store
abbrev pub of_one_store : Election → Closes
of_one_store e = record { casting = ClosesCasting e; withdrawing = ClosesWithdrawing }

-- ---- a line

-- nothing is done but to reply
abbrev pub stays : State → List ℕ → Effect
stays s text = replies text s

-- an item for list number `tab` waits there; it is invalid where there is no such list
abbrev pub queues : {X : Type 0} → ℕ → State → (List (List X) → Phase) → List (List X) → ℕ → X → Effect
queues n s phase lists tab x =
    if nat_le tab (length lists) then replies [] (in_phase (phase (queued lists tab x)) s.set) else stays s (refusal n (codes "invalid"))

-- what a line of a form does, by the phase, where `closes` says what a close asks
abbrev pub DoesBy : Closes → Election → ℕ → State → ScriptLine → Phase → Effect → Type 0
DoesBy closes e n s (Open work tabs) Closed effect =
    effect ≡ replies (counted (phase_text (opened work tabs)) tabs) (in_phase (opened work tabs) s.set)
DoesBy closes e n s Checkpoint Closed effect =
    effect ≡ record { reply = counted (codes "checkpoint") (length s.set); acknowledged = s.set ∷ []; next = s }
DoesBy closes e n s Tally Closed effect = effect ≡ stays s (tally_text e s.set)
DoesBy closes e n s Export Closed effect = effect ≡ stays s (export_text e s.set)
DoesBy closes e n s (Cast tab b) (Casts lists) effect = effect ≡ queues n s Casts lists tab b
DoesBy closes e n s (CastInvalid tab) (Casts lists) effect = effect ≡ stays s (refusal n (codes "invalid"))
DoesBy closes e n s (Withdraw tab number) (Withdraws lists) effect = effect ≡ queues n s Withdraws lists tab number
DoesBy closes e n s (Find tab number) (Finds lists) effect = effect ≡ queues n s Finds lists tab number
DoesBy closes e n s Close (Casts lists) effect = closes.casting s.set lists effect
DoesBy closes e n s Close (Withdraws lists) effect = closes.withdrawing s.set lists effect
DoesBy closes e n s Close (Finds lists) effect = ClosesFinding s.set lists effect
DoesBy closes e n s line phase effect = effect ≡ stays s (wrong_phase n phase)

-- What line number n, counted from 1, does in a state. A line that is too wide is malformed.
abbrev pub AnswersBy : Closes → Election → ℕ → State → Option (List ℕ) → Effect → Type 0
AnswersBy closes e n s None effect = effect ≡ stays s (refusal n (codes "malformed"))
AnswersBy closes e n s (Some bytes) effect =
    (IsMalformed e bytes × (effect ≡ stays s (refusal n (codes "malformed"))))
    ⊎ ((line : ScriptLine) × Says e bytes line × DoesBy closes e n s line s.phase effect)

-- ---- a script

-- lines, the first of which has number n, do these things one after another, and lead from one state to another
abbrev pub PlaysBy : Closes → Election → ℕ → State → List (Option (List ℕ)) → List Effect → State → Type 0
PlaysBy closes e n s [] [] end = end ≡ s
PlaysBy closes e n s (line ∷ lines) (effect ∷ effects) end = AnswersBy closes e n s line effect × PlaysBy closes e (n + 1) effect.next lines effects end
PlaysBy closes e n s lines effects end = ⊥

-- the same of one store
abbrev pub Does : Election → ℕ → State → ScriptLine → Phase → Effect → Type 0
Does e = DoesBy (of_one_store e) e

abbrev pub Answers : Election → ℕ → State → Option (List ℕ) → Effect → Type 0
Answers e = AnswersBy (of_one_store e) e

abbrev pub Plays : Election → ℕ → State → List (Option (List ℕ)) → List Effect → State → Type 0
Plays e = PlaysBy (of_one_store e) e

-- what is written for lines
abbrev pub written : List Effect → List ℕ
written effects = flat_map (λ effect. effect.reply) effects

-- the sets that lines acknowledge, in order
abbrev pub acknowledged_in : List Effect → List (List Ballot)
acknowledged_in effects = flat_map (λ effect. effect.acknowledged) effects

-- what is written at the end of a script
abbrev pub last_reply : Phase → List ℕ
last_reply Closed = []
last_reply phase = line_of (codes "dropped " ++ phase_text phase)
