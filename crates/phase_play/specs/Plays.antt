-- What a phase that is played to its end leads to: a reply to each item of its lists, and the ballots after it.
use Rattle.std.specs.Prelude.{◌≡◌, ℕ, Bool, List, map}
use Rattle.store_spec.specs.Ballot.{Ballot, numbers_of}
use Rattle.store_spec.specs.BallotPhase.{BallotOutcome, CastLine, CastReply}
use Rattle.store_spec.specs.Election.{Election}
use Rattle.store_spec.specs.Session.{ballots_without}
use Rattle.store_spec.specs.WithdrawPhase.{Finding, FindOutcome, Withdrawal, WithdrawOutcome, WithdrawReply, listed}

-- these ballots, with these replies, have the outcome of a casting phase
pub record PlaysCasting (e : Election) (base : List Ballot) (work : List (List Ballot)) (replies : List (List CastReply)) (after : List Ballot) : Type 0 where
  pub lines : List (List CastLine)
  pub of_work : map (map (λ l. l.ballot)) lines ≡ work
  pub of_replies : map (map (λ l. l.reply)) lines ≡ replies
  pub outcome : BallotOutcome e base lines after

-- these numbers, with these replies, have the outcome of a withdrawing phase
pub record PlaysWithdrawing (base : List Ballot) (work : List (List ℕ)) (replies : List (List WithdrawReply)) (after : List Ballot) : Type 0 where
  pub lines : List (List Withdrawal)
  pub of_work : map (map (λ a. a.number)) lines ≡ work
  pub of_replies : map (map (λ a. a.reply)) lines ≡ replies
  pub rest : after ≡ ballots_without base (listed lines)
  pub outcome : WithdrawOutcome (numbers_of base) lines (numbers_of after)

-- these numbers, each present or not, have the outcome of a finding phase
pub record PlaysFinding (held : List Ballot) (work : List (List ℕ)) (present : List (List Bool)) : Type 0 where
  pub lines : List (List Finding)
  pub of_work : map (map (λ a. a.number)) lines ≡ work
  pub of_present : map (map (λ a. a.present)) lines ≡ present
  pub outcome : FindOutcome (numbers_of held) lines (numbers_of held)
