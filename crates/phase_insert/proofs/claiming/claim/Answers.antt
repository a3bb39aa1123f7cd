use Rattle.std.proofs.Common.{inr}
use Rattle.phase_insert.proofs.Claimed.{claimed_new}
use Rattle.phase_insert.proofs.claiming.claim.Goals as goal

pub returns-in-Claimed-clause-new : goal.returns-in-Claimed-clause-new
returns-in-Claimed-clause-new c _ = claimed_new c.args.claims c.args.seat.now.view c.args.number c.if-claims-eq0.false c.in-Claimed.ensures.told_alike

pub returns-in-Full-clause-gains : goal.returns-in-Full-clause-gains
returns-in-Full-clause-gains c = inr c.in-Full.ensures.view

pub returns-in-Full-clause-steps : goal.returns-in-Full-clause-steps
returns-in-Full-clause-steps c = inr c.in-Full.ensures.chain
