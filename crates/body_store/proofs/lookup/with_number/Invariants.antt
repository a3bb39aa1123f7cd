use Rattle.body_store.proofs.lookup.with_number.Given as goal

abbrev pub ghost-in_cell : goal.ghost-in_cell
ghost-in_cell g a = g.ballots
