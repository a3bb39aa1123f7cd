-- A session between two lines.
use Rattle.std.specs.Prelude.{◌≡◌, ℕ, ◌≤◌, List, length, All}
use Rattle.phase_gate.specs.declared.writing.Writing.{Writing}
use Rattle.store_spec.specs.Ballot.{Ballot, IsBallotSet, IsValid, IsWithinLimit}
use Rattle.store_spec.specs.Election.{Election, IsElection}
use Rattle.store_spec.specs.ScriptLine.{most_tabs}
use Rattle.store_spec.specs.Session.{Phase, State}
use Rattle.store_spec.specs.Session.Phase.{Casts, Withdraws, Finds}

-- its election, its state, and what it writes of its replies
pub record Standing : Type 0 where
  pub election : Election
  pub state : State
  pub writing : Writing

-- there is a list for each tabulator of a phase
pub record AreLists {X : Type 0} (lists : List X) : Type 0 where
  pub some : 1 ≤ length lists
  pub few : length lists ≤ most_tabs

-- what waits for the close of a phase can be handled
pub record MayWait (e : Election) (phase : Phase) : Type 0 where
  pub casts : (lists : List (List Ballot)) → phase ≡ Casts lists → AreLists lists × All (All (IsValid e)) lists
  pub withdraws : (lists : List (List ℕ)) → phase ≡ Withdraws lists → AreLists lists
  pub finds : (lists : List (List ℕ)) → phase ≡ Finds lists → AreLists lists

-- a state that a session of this election may be in
pub record IsStateOf (e : Election) (s : State) : Type 0 where
  pub set : IsBallotSet e s.set
  pub within_limit : IsWithinLimit e s.set
  pub waiting : MayWait e s.phase

pub record IsStanding (s : Standing) : Type 0 where
  pub election : IsElection s.election
  pub state : IsStateOf s.election s.state
