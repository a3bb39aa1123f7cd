use Rattle.std.proofs.Common.{drop}
use Rattle.store_spec.proofs.Common.{header_size}
use Rattle.body_store.proofs.Closed.without.Given as goal
use Rattle.body_store.specs.ByNumber.{by_number}
use Rattle.body_store.specs.Held.{held_in, spelled_in}
use Rattle.layout_def.proofs.Changing.{changed_cells}

-- the ballots of before, and those of these that stand in the cells once these have changed
abbrev pub ghost-close : goal.ghost-close
ghost-close a =
    let old = by_number (spelled_in a.election.now a.cells.now (drop header_size a.image.now.items)) in
    record { old = old; all = old; rest = held_in old (changed_cells a.cells.now a.changes.items) }
