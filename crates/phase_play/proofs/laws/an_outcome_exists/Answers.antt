use Rattle.std.proofs.Common.{map, refl}
use Rattle.phase_play.proofs.Playing.{plays_finding}
use Rattle.phase_play.proofs.Sequence.{an_outcome}
use Rattle.phase_play.proofs.Withdrawals as withdrawals
use Rattle.phase_find.specs.Present.{is_present}
use Rattle.phase_play.proofs.laws.an_outcome_exists.Goals as goal

pub returns-clause-casting : goal.returns-clause-casting
returns-clause-casting c = an_outcome

pub returns-clause-withdrawing : goal.returns-clause-withdrawing
returns-clause-withdrawing c = withdrawals.an_outcome

pub returns-clause-finding : goal.returns-clause-finding
returns-clause-finding c held work = (map (map (is_present held)) work, plays_finding held work (map (map (is_present held)) work) refl)
