use Rattle.step_core.proofs.WithdrawCoreTabs.{first_moves}
use Rattle.step_core.proofs.withdrawer.first_act.Goals as goal
use Rattle.step_core.specs.WithdrawCore.{base_of}

pub returns : goal.returns
returns c =
    let index = c.args.index.now in
    first_moves _ (base_of c.args.shape.now index.numbers.items) c.args.words.now index.numbers.items index.places.items c.args.number c.in-Some.cell c.args.shape.now.cells c.perform-found.result _ _ _
    c.requires.some c.requires.shape.cells c.requires.index c.in-Some.ensures c.perform-found.ensures.found c.perform-found.ensures.left c.withdraw_first.ensures
