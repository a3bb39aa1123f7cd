use Rattle.layout_def.proofs.laws.least_number_comes_last.Goals as goal
use Rattle.layout_def.proofs.Fronts.{least_placed}

pub returns : goal.returns
returns c = least_placed
