use Rattle.layout_def.proofs.laws.ordered_cells_are_the_layout.Goals as goal
use Rattle.layout_def.proofs.LaidOut.{ordered_is_layout_of}

pub returns : goal.returns
returns c = ordered_is_layout_of
