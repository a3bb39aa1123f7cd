use Rattle.layout_def.proofs.laws.each_number_stands_once.Goals as goal
use Rattle.layout_def.proofs.Fronts.{distinct_in}

pub returns : goal.returns
returns c = distinct_in
