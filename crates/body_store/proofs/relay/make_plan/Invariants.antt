use Rattle.body_store.proofs.relay.make_plan.Given as goal

abbrev pub ghost-take_in : goal.ghost-take_in
ghost-take_in g a = g.new

abbrev pub ghost-take_out : goal.ghost-take_out
ghost-take_out g a = g.new

abbrev pub ghost-find_far : goal.ghost-find_far
ghost-find_far g a = g.new.before
