use Rattle.layout_def.proofs.laws.numbers_determine_ordered_cells.Goals as goal
use Rattle.layout_def.proofs.OrderedCells.{same_cells}

pub returns : goal.returns
returns c = same_cells
