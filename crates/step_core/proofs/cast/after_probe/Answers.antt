use Rattle.std.proofs.Common.{arith}
use Rattle.step_core.proofs.CastLeads.{leads_full, leads_met, leads_passed, leads_won}
use Rattle.step_core.proofs.cast.after_probe.Goals as goal
use Rattle.step_core.specs.Shape.{table_of}

pub returns-then-found-eq0 : goal.returns-then-found-eq0
returns-then-found-eq0 c =
    leads_won (table_of c.args.shape.now) c.args.number c.args.tries c.args.found c.home.result c.if-found-eq0.true c.home.ensures

pub returns-then-found-number : goal.returns-then-found-number
returns-then-found-number c =
    leads_met (table_of c.args.shape.now) c.args.number c.args.tries c.args.found c.if-found-eq0.false c.if-found-number.true

pub returns-then-tries-claims : goal.returns-then-tries-claims
returns-then-tries-claims c =
    leads_passed (table_of c.args.shape.now) c.args.number c.args.tries c.args.found c.if-found-eq0.false c.if-found-number.false c.if-tries-claims.true

pub returns-else-tries-claims : goal.returns-else-tries-claims
returns-else-tries-claims c =
    leads_full (table_of c.args.shape.now) c.args.number c.args.tries c.args.found c.if-found-eq0.false c.if-found-number.false (omega arith)
