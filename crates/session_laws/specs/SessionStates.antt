-- The states that a session can be in.
use Rattle.std.specs.Prelude.{All}
use Rattle.store_spec.specs.Ballot.{IsBallotSet, IsValid, IsWithinLimit}
use Rattle.store_spec.specs.Election.{Election}
use Rattle.store_spec.specs.Session.{Phase, State}
use Rattle.store_spec.specs.Session.Phase.{Casts, Closed, Finds, Withdraws}

-- each ballot that waits for a close is valid
abbrev pub OnlyValidWait : Election → Phase → Type 0
OnlyValidWait e (Casts lists) = All (All (IsValid e)) lists
OnlyValidWait e other = Unit {0}

-- a set that the store may hold, and only valid ballots wait
pub record IsSessionState (e : Election) (s : State) : Type 0 where
  pub set : IsBallotSet e s.set
  pub within_limit : IsWithinLimit e s.set
  pub waiting : OnlyValidWait e s.phase

-- a phase whose close may go in more ways than one
abbrev pub LeavesChoice : Phase → Type 0
LeavesChoice Closed = ⊥
LeavesChoice (Casts lists) = Unit {0}
LeavesChoice (Withdraws lists) = Unit {0}
LeavesChoice (Finds lists) = ⊥
