use Rattle.layout_def.proofs.laws.a_displaced_number_moves_on.Goals as goal
use Rattle.layout_def.proofs.Displaced.{displaced_stands_on}

pub returns : goal.returns
returns c = displaced_stands_on
