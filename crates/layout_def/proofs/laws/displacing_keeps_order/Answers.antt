use Rattle.layout_def.proofs.laws.displacing_keeps_order.Goals as goal
use Rattle.layout_def.proofs.Displaced.{displaced_ordered}

pub returns : goal.returns
returns c = displaced_ordered
