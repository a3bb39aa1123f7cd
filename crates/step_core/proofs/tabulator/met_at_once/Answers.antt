use Rattle.step_core.proofs.CoreTabs.{at_once_full, needs_step}
use Rattle.step_core.proofs.tabulator.met_at_once.Goals as goal
use Rattle.store_spec.proofs.Common.{iff_false}

pub returns-then-claims-eq0 : goal.returns-then-claims-eq0
returns-then-claims-eq0 c = at_once_full c.args.base.now c.args.claims c.args.number (iff_false c.contains.ensures c.if-contains.false) c.if-claims-eq0.true

pub returns-else-claims-eq0 : goal.returns-else-claims-eq0
returns-else-claims-eq0 c = needs_step c.args.base.now c.args.claims c.args.number (iff_false c.contains.ensures c.if-contains.false) c.if-claims-eq0.false
