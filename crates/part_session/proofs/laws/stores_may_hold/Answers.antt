use Rattle.part_session.proofs.OneRun as run
use Rattle.part_session.proofs.laws.stores_may_hold.Goals as goal

pub returns : goal.returns
returns c = run.stores_may_hold
