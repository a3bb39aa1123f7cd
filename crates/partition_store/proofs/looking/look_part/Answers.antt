use Rattle.partition_store.proofs.Seeking.{foreign_in}
use Rattle.partition_store.proofs.looking.look_part.Goals as goal

pub returns-clause-found : goal.returns-clause-found
returns-clause-found g c =
    let set = c.in-Ok.store.ballots in
    (set, c.in-Ok.ensures.held, foreign_in c.in-Ok.store.election c.args.bits c.args.index set c.cells.result.now c.least_foreign.result c.cells.ensures.layout.exactly c.cells.ensures.stored.set.valid c.least_foreign.ensures)
