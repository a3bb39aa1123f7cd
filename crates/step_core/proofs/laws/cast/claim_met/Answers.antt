use Rattle.step_core.proofs.CastRows.{keeps_claim_met}
use Rattle.step_core.proofs.laws.cast.claim_met.Goals as goal

pub returns : goal.returns
returns c = keeps_claim_met
