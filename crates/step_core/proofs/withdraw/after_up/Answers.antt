use Rattle.store_spec.proofs.Common.{iff_false, looked_higher}
use Rattle.step_core.proofs.WithdrawLeads.{leads_candidate}
use Rattle.step_core.proofs.withdraw.after_up.Goals as goal

pub returns-then-fits : goal.returns-then-fits
returns-then-fits c =
    leads_candidate _ c.args.number c.args.bound c.args.place c.args.found c.requires.above (c.fits.ensures.0 c.if-fits.true)

pub returns-else-fits : goal.returns-else-fits
returns-else-fits c = looked_higher (iff_false c.fits.ensures c.if-fits.false)
