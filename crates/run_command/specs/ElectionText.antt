-- What the source of an election gives.
use Rattle.std.specs.Prelude.{◌≡◌, ℕ, ◌+◌, ◌≤◌, List, [], length, Some}
use Rattle.outside_io.specs.Outside.{Input}
use Rattle.run_outcome.specs.declared.status.Status.{Status}
use Rattle.run_outcome.specs.declared.status.Status.TheVariants as status
use Rattle.run_outcome.specs.declared.status.Which.TheVariants as which
use Rattle.election_def.specs.Text.{Describes, IsElectionText}
use Rattle.outside_io.specs.Told.{IfTold}
use Rattle.outside_io.specs.Stream.{GivesAtMost, GivesExactly}
use Rattle.store_spec.specs.Election.{Election, IsElection}
use Rattle.store_spec.specs.Fault.{Rose}

-- the most bytes of an election's text
abbrev pub election_limit : ℕ
election_limit = 1048576

-- the whole text was read, within its limit
abbrev pub IsWhole : List ℕ → List ℕ → Type 0
IsWhole text left = (length text ≤ election_limit) × (left ≡ [])

-- the whole text was read, and it describes this election
abbrev pub IsElectionRead : Election → List ℕ → List ℕ → Type 0
IsElectionRead e text left = IsWhole text left × Describes text e

-- the whole text was read, and it describes no election
abbrev pub IsNoElectionRead : List ℕ → List ℕ → Type 0
IsNoElectionRead text left = IsWhole text left × ¬ IsElectionText text

-- there is a valid election for which this holds: the one that the whole text of the source describes, where it tells
pub record ForElection {E : Type 0} (before after : Input E) (Holds : Election → Type 0) : Type 0 where
  pub election : Election
  pub valid : IsElection election
  pub read : IfTold before.left after.left (IsElectionRead election)
  pub no_fault : after.faults ≡ before.faults
  pub holds : Holds election

-- Why a source gave no election, and how much was read of it then.
abbrev pub RefusesElection : {E : Type 0} → Status → Input E → Input E → Type 0
RefusesElection status.BadElection before after = IfTold before.left after.left IsNoElectionRead × (after.faults ≡ before.faults)
RefusesElection (status.TooLong which.Election) before after = IfTold before.left after.left (GivesExactly (election_limit + 1)) × (after.faults ≡ before.faults)
RefusesElection (status.ReadFault which.Election) before after = IfTold before.left after.left (GivesAtMost election_limit) × Rose before.faults after.faults
RefusesElection status.Memory before after = IfTold before.left after.left (GivesAtMost (election_limit + 1)) × (after.faults ≡ before.faults)
RefusesElection other before after = ⊥

-- the source describes this election, within its limit
pub record GivesElection {E : Type 0} (source : Input E) (e : Election) : Type 0 where
  pub text : List ℕ
  pub told : source.left ≡ Some text
  pub within : length text ≤ election_limit
  pub describes : Describes text e
