use Rattle.tally_export.proofs.Placing.{none_tallied}
use Rattle.tally_export.proofs.counts.Tally.of_none.Goals as goal

pub returns : goal.returns
returns c = none_tallied
