-- Phases of a store that are closed one after another, with a reply to each item, and what of them belongs to one part.
use Rattle.std.specs.Prelude.{◌≡◌, ℕ, ◌^◌, ◌<◌, List, [], ◌∷◌, map}
use Rattle.phase_gate.specs.Replies.{ClosesBy}
use Rattle.store_spec.specs.Ballot.{Ballot, IsBallotSet, IsWithinLimit}
use Rattle.store_spec.specs.BallotPhase.{CastLine}
use Rattle.store_spec.specs.Election.{Election}
use Rattle.store_spec.specs.Parts.{of_part, share}
use Rattle.store_spec.specs.Session.{Closes, Phase, cast_text, closing, find_text, withdraw_text}
use Rattle.store_spec.specs.Session.Phase.{Closed, Casts, Withdraws, Finds}
use Rattle.store_spec.specs.WithdrawPhase.{Finding, Withdrawal}

-- a phase with a reply to each item of its lists
pub data AnsweredPhase : Type 0 where
  Cast : List (List CastLine) → AnsweredPhase
  Withdrawn : List (List Withdrawal) → AnsweredPhase
  Found : List (List Finding) → AnsweredPhase

-- what waited for its close
abbrev pub asked : AnsweredPhase → Phase
asked (Cast lines) = Casts (map (map (λ l. l.ballot)) lines)
asked (Withdrawn lines) = Withdraws (map (map (λ a. a.number)) lines)
asked (Found lines) = Finds (map (map (λ a. a.number)) lines)

-- the word of each reply
abbrev pub reply_words : AnsweredPhase → List (List (List ℕ))
reply_words (Cast lines) = map (map (λ l. cast_text l.reply)) lines
reply_words (Withdrawn lines) = map (map (λ a. withdraw_text a.reply)) lines
reply_words (Found lines) = map (map (λ a. find_text a.present)) lines

-- its close, from one set to another
abbrev pub IsClosed : Closes → List Ballot → AnsweredPhase → List Ballot → Type 0
IsClosed closes set phase after = ClosesBy closes set (asked phase) (closing (reply_words phase) after)

-- phases are closed, each from the set that the one before it left
abbrev pub AreClosed : Closes → List Ballot → List AnsweredPhase → List Ballot → Type 0
AreClosed closes set [] end = end ≡ set
AreClosed closes set (phase ∷ phases) end =
    (after : List Ballot) × IsClosed closes set phase after × AreClosed closes after phases end

-- a set that a store in parts may hold: in each part no more ballots than the election's store
pub record MayHoldParts (bits : ℕ) (e : Election) (set : List Ballot) : Type 0 where
  pub is_set : IsBallotSet e set
  pub within_limit : (part : ℕ) → part < 2 ^ bits → IsWithinLimit e (share bits part set)

-- ---- one part

-- what waits in the lists of a phase and belongs to the part
abbrev pub waiting_at : ℕ → ℕ → Phase → Phase
waiting_at bits part Closed = Closed
waiting_at bits part (Casts lists) = Casts (map (of_part (λ b. b.number) bits part) lists)
waiting_at bits part (Withdraws lists) = Withdraws (map (of_part (λ number. number) bits part) lists)
waiting_at bits part (Finds lists) = Finds (map (of_part (λ number. number) bits part) lists)

-- the same with the replies
abbrev pub answered_at : ℕ → ℕ → AnsweredPhase → AnsweredPhase
answered_at bits part (Cast lines) = Cast (map (of_part (λ l. l.ballot.number) bits part) lines)
answered_at bits part (Withdrawn lines) = Withdrawn (map (of_part (λ a. a.number) bits part) lines)
answered_at bits part (Found lines) = Found (map (of_part (λ a. a.number) bits part) lines)

-- Phases are alike in a part: as many, of the same kinds, with as many lists, and in each list the same items of the
-- part in the same order.
abbrev pub AreAlikeAt : ℕ → ℕ → List Phase → List Phase → Type 0
AreAlikeAt bits part phases others = map (waiting_at bits part) phases ≡ map (waiting_at bits part) others
