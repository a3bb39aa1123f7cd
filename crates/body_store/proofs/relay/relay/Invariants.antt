use Rattle.body_store.proofs.relay.relay.Given as goal
use Rattle.body_store.specs.Contents.{all_listed}

-- the ballots of the lists, with the cells of all
abbrev pub ghost-make_plan : goal.ghost-make_plan
ghost-make_plan g a = record { election = a.election.now; bytes_of = g.was.bytes_of; ballots = all_listed a.lists.now; before = g.was.numbers }

abbrev pub ghost-carry_out : goal.ghost-carry_out
ghost-carry_out g a = g.was

abbrev pub ghost-clear_left : goal.ghost-clear_left
ghost-clear_left g a = g.was
