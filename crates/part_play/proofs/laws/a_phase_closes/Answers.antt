use Rattle.part_play.proofs.Found.{finds_in_parts}
use Rattle.part_play.proofs.Shares.{closes_casting, closes_withdrawing}
use Rattle.part_play.proofs.laws.a_phase_closes.Goals as goal

pub returns-clause-casting : goal.returns-clause-casting
returns-clause-casting c = closes_casting

pub returns-clause-withdrawing : goal.returns-clause-withdrawing
returns-clause-withdrawing c = closes_withdrawing

pub returns-clause-finding : goal.returns-clause-finding
returns-clause-finding c = finds_in_parts
