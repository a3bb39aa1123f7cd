use Rattle.layout_def.proofs.OwnLayout.{ordered_is_own_layout}
use Rattle.layout_def.proofs.laws.ordered_cells_are_their_own_layout.Goals as goal

pub returns : goal.returns
returns c = ordered_is_own_layout
