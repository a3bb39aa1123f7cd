use Rattle.layout_def.proofs.StandsStill.{stands_still}
use Rattle.layout_def.proofs.laws.a_place_stays_where_no_cell_falls.Goals as goal

pub returns : goal.returns
returns c = stands_still
