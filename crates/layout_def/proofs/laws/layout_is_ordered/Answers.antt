use Rattle.layout_def.proofs.laws.layout_is_ordered.Goals as goal
use Rattle.layout_def.proofs.LaidOut.{layout_of_is}

pub returns : goal.returns
returns c = layout_of_is
