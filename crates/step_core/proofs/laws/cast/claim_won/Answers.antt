use Rattle.step_core.proofs.CastRows.{keeps_claim_won}
use Rattle.step_core.proofs.laws.cast.claim_won.Goals as goal

pub returns : goal.returns
returns c = keeps_claim_won
