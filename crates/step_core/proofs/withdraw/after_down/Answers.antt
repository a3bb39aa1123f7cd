use Rattle.store_spec.proofs.Common.{iff_false}
use Rattle.step_core.proofs.WithdrawLeads.{leads_kept, leads_lower_candidate}
use Rattle.step_core.proofs.withdraw.after_down.Goals as goal

pub returns-then-fits : goal.returns-then-fits
returns-then-fits c =
    leads_lower_candidate _ c.args.number c.args.bound c.args.place c.args.candidate c.args.source c.args.found c.requires (c.fits.ensures.0 c.if-fits.true)

pub returns-else-fits : goal.returns-else-fits
returns-else-fits c =
    leads_kept _ c.args.number c.args.bound c.args.place c.args.candidate c.args.source c.args.found c.requires (iff_false c.fits.ensures c.if-fits.false)
