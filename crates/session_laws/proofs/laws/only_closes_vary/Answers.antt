use Rattle.session_laws.proofs.NoChoice.{one_effect_elsewhere}
use Rattle.session_laws.proofs.laws.only_closes_vary.Goals as goal

pub returns : goal.returns
returns c = one_effect_elsewhere
