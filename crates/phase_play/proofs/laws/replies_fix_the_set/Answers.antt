use Rattle.phase_play.proofs.Sequence.{one_set}
use Rattle.phase_play.proofs.laws.replies_fix_the_set.Goals as goal

pub returns : goal.returns
returns c = one_set
