use Rattle.layout_def.proofs.laws.greatest_number_is_at_home.Goals as goal
use Rattle.layout_def.proofs.Fronts.{greatest_at_home}

pub returns : goal.returns
returns c = greatest_at_home
