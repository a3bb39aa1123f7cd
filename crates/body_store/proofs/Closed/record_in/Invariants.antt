use Rattle.std.proofs.Common.{drop}
use Rattle.store_spec.proofs.Common.{header_size}
use Rattle.body_store.proofs.Closed.record_in.Given as goal
use Rattle.body_store.specs.ByNumber.{by_number}
use Rattle.body_store.specs.Held.{spelled_in}

abbrev pub ghost-in_cell : goal.ghost-in_cell
ghost-in_cell a = by_number (spelled_in a.election.now a.cells.now (drop header_size a.image.now))
