use Rattle.step_core.proofs.WithdrawLeads.{leads_chosen, leads_gone}
use Rattle.step_core.proofs.withdraw.withdraw_first.Goals as goal

pub returns-then-found-eq1 : goal.returns-then-found-eq1
returns-then-found-eq1 c = leads_gone _ c.args.number c.args.found c.if-found-eq1.true

pub returns : goal.returns
returns c = leads_chosen _ c.args.number c.args.found c.home-place.result c.requires.flag c.if-found-eq1.false c.home-place.ensures
