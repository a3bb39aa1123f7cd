use Rattle.layout_def.proofs.laws.a_number_passes_a_greater_one.Goals as goal
use Rattle.layout_def.proofs.Displaced.{passes_greater}

pub returns : goal.returns
returns c = passes_greater
