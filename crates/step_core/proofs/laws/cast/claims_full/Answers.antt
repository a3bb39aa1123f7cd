use Rattle.step_core.proofs.CastRows.{keeps_claims_full}
use Rattle.step_core.proofs.laws.cast.claims_full.Goals as goal

pub returns : goal.returns
returns c = keeps_claims_full
