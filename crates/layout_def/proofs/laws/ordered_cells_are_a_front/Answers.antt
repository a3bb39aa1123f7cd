use Rattle.layout_def.proofs.laws.ordered_cells_are_a_front.Goals as goal
use Rattle.layout_def.proofs.Fronts.{front_is_layout}

pub returns : goal.returns
returns c = front_is_layout
