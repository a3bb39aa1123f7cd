use Rattle.std.proofs.Common.{[], drop}
use Rattle.store_spec.proofs.Common.{header_size}
use Rattle.body_store.proofs.Closed.from_records.Given as goal
use Rattle.body_store.specs.ByNumber.{by_number}
use Rattle.body_store.specs.Contents.{all_listed}
use Rattle.body_store.specs.Held.{spelled_in}

-- nothing before, and all ballots after
abbrev pub ghost-fill : goal.ghost-fill
ghost-fill a = record { old = []; all = all_listed a.lists.now; rest = all_listed a.lists.now }

-- those that the bytes spell
abbrev pub ghost-from_image : goal.ghost-from_image
ghost-from_image a = by_number (spelled_in a.election.now a.cells.items (drop header_size a.image.items))
