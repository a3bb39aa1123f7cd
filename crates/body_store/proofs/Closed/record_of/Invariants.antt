use Rattle.std.proofs.Common.{drop}
use Rattle.store_spec.proofs.Common.{header_size}
use Rattle.body_store.proofs.Closed.record_of.Given as goal
use Rattle.body_store.specs.ByNumber.{by_number}
use Rattle.body_store.specs.Held.{spelled_in}

abbrev pub ghost-with_number : goal.ghost-with_number
ghost-with_number a = by_number (spelled_in a.election.now a.cells.now (drop header_size a.image.now))
