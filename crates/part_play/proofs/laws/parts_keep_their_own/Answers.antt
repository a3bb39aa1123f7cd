use Rattle.part_play.proofs.Shares.{casting_keeps, withdrawing_keeps}
use Rattle.part_play.proofs.laws.parts_keep_their_own.Goals as goal

pub returns-clause-casting : goal.returns-clause-casting
returns-clause-casting c = casting_keeps

pub returns-clause-withdrawing : goal.returns-clause-withdrawing
returns-clause-withdrawing c = withdrawing_keeps
