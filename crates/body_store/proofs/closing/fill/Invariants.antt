use Rattle.body_store.proofs.closing.fill.Given as goal
use Rattle.store_spec.proofs.Common.{cell_bytes, cells_of}

-- the cell of each ballot of before and of each new one
abbrev pub ghost-relay : goal.ghost-relay
ghost-relay g a = record { numbers = cells_of a.election.now g.change.old; bytes_of = cell_bytes a.election.now g.change.all }
