-- Where a number stood at the opening of a withdrawing phase.
use Rattle.std.specs.Prelude.{ℕ, Contains}
use Rattle.phase_kind.specs.Phase.{OpenPhase}
use Rattle.store_spec.specs.Ballot.{numbers_of}
use Rattle.store_spec.specs.WithdrawStep.{StandsInBase}

-- a ballot of the store has the number, which stood in this cell at the opening
pub record StoodAt (phase : OpenPhase) (number cell : ℕ) : Type 0 where
  pub held : Contains (numbers_of phase.base.ballots) number
  pub seated : StandsInBase phase.words.base number cell
