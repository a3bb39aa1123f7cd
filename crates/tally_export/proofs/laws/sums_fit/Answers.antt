use Rattle.tally_export.proofs.Adding.{sums_of_few}
use Rattle.tally_export.proofs.laws.sums_fit.Goals as goal

pub returns : goal.returns
returns c = sums_of_few
