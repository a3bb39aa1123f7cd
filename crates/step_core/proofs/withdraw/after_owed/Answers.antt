use Rattle.step_core.proofs.WithdrawLeads.{leads_found, leads_lower}
use Rattle.step_core.proofs.withdraw.after_owed.Goals as goal

pub returns-then-found-number : goal.returns-then-found-number
returns-then-found-number c = λ home. leads_found home c.args.number c.args.bound c.args.found c.if-found-number.true

pub returns-else-found-number : goal.returns-else-found-number
returns-else-found-number c =
    λ home. leads_lower home c.args.number c.args.bound c.args.found c.if-found-number.false (c.requires.lower c.if-found-number.false)
