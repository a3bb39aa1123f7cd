use Rattle.step_core.proofs.CastRows.{keeps_claim_passed}
use Rattle.step_core.proofs.laws.cast.claim_passed.Goals as goal

pub returns : goal.returns
returns c = keeps_claim_passed
