use Rattle.tally_export.proofs.Writing.{records_append}
use Rattle.tally_export.proofs.laws.records_of_both.Goals as goal

pub returns : goal.returns
returns c = records_append
