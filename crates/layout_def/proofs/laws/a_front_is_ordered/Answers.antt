use Rattle.layout_def.proofs.laws.a_front_is_ordered.Goals as goal
use Rattle.layout_def.proofs.Fronts.{ordered_front}

pub returns : goal.returns
returns c = ordered_front
