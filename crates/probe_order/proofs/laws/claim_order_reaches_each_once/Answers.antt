use Rattle.probe_order.proofs.ClaimOrder.{once, reached, within}
use Rattle.probe_order.proofs.laws.claim_order_reaches_each_once.Goals as goal

pub returns : goal.returns
returns c = record { within = within; reached = reached; once = once }
