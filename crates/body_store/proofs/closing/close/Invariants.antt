use Rattle.body_store.proofs.closing.close.Given as goal

abbrev pub ghost-fill : goal.ghost-fill
ghost-fill g a = g.change
