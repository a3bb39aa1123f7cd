-- What a phase that is played to its close is answered.
use Rattle.std.specs.Prelude.{◌≡◌, ℕ, List, map, IfOk, Result}
use Rattle.outside_io.specs.declared.error.Memory.{Memory}
use Rattle.phase_gate.specs.Standing.{MayWait}
use Rattle.phase_gate.specs.Waiting.{AreListsOf, phase_of}
use Rattle.phase_gate.specs.declared.replies.Replies.{Replies}
use Rattle.phase_gate.specs.declared.replies.Replies.TheVariants.{Cast, Withdrawn, Found}
use Rattle.phase_gate.specs.declared.waiting.Waiting.{Waiting}
use Rattle.phase_insert.specs.Closing as casting
use Rattle.step_core.specs.WithdrawCore as withdrawing
use Rattle.store_spec.specs.Ballot.{Ballot}
use Rattle.store_spec.specs.Election.{Election}
use Rattle.store_spec.specs.Session.{Closes, ClosesFinding, Effect, Phase, cast_text, closing, find_text, withdraw_text}
use Rattle.store_spec.specs.Session.Phase.{Closed, Casts, Withdraws, Finds}

-- the word of each reply
abbrev pub words_of : Replies → List (List (List ℕ))
words_of (Cast lists) = map (λ list. map (λ reply. cast_text (casting.reply_of reply)) list.items) lists.items
words_of (Withdrawn lists) = map (λ list. map (λ reply. withdraw_text (withdrawing.reply_of reply)) list.items) lists.items
words_of (Found lists) = map (λ list. map find_text list.items) lists.items

-- what the close of a phase does, from a set
abbrev pub ClosesBy : Closes → List Ballot → Phase → Effect → Type 0
ClosesBy closes set Closed effect = ⊥
ClosesBy closes set (Casts lists) effect = closes.casting set lists effect
ClosesBy closes set (Withdraws lists) effect = closes.withdrawing set lists effect
ClosesBy closes set (Finds lists) effect = ClosesFinding set lists effect

-- This plays the phases of a store: whatever waits, it may be called, and the store after it and the replies are what the
-- close asks.
pub record PlaysPhases {S F : Type 0} (election : S → Election) (ballots : S → List Ballot) (closes : Election → Closes)
    (pre : F → S → Waiting → Type 0) (post : F → S → Waiting → Result (S × Replies) Memory → Type 0) (play : F)
    : Type 0 where
  pub may : (store : S) (waiting : Waiting) → MayWait (election store) (phase_of waiting)
      → AreListsOf (election store) waiting → pre play store waiting
  pub gives : (store : S) (waiting : Waiting) (r : Result (S × Replies) Memory) → post play store waiting r
      → IfOk r (λ played. (election played.0 ≡ election store) × ClosesBy (closes (election store)) (ballots store)
      (phase_of waiting) (closing (words_of played.1) (ballots played.0)))
