use Rattle.step_core.proofs.WithdrawLeads.{leads_emptied, leads_lost, leads_refilled}
use Rattle.step_core.proofs.withdraw.after_exchange.Goals as goal

pub returns-then-found-number : goal.returns-then-found-number
returns-then-found-number c =
    λ home. leads_lost home c.args.number c.args.bound c.args.candidate c.args.source c.args.found c.if-found-number.true (c.requires c.if-found-number.true)

pub returns-then-candidate-eq0 : goal.returns-then-candidate-eq0
returns-then-candidate-eq0 c =
    λ home. leads_emptied home c.args.number c.args.bound c.args.candidate c.args.source c.args.found c.if-found-number.false c.if-candidate-eq0.true

pub returns-else-candidate-eq0 : goal.returns-else-candidate-eq0
returns-else-candidate-eq0 c =
    λ home. leads_refilled home c.args.number c.args.bound c.args.candidate c.args.source c.args.found c.if-found-number.false c.if-candidate-eq0.false
