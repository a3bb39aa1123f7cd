use Rattle.tally_export.proofs.AnyOrder.{tally_any_order}
use Rattle.tally_export.proofs.laws.any_order.Goals as goal

pub returns : goal.returns
returns c = tally_any_order
