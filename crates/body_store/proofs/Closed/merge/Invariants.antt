use Rattle.std.proofs.Common.{◌++◌, drop}
use Rattle.store_spec.proofs.Common.{header_size}
use Rattle.body_store.proofs.Closed.merge.Given as goal
use Rattle.body_store.specs.ByNumber.{by_number}
use Rattle.body_store.specs.Contents.{all_listed}
use Rattle.body_store.specs.Held.{spelled_in}

-- the ballots of before, and with the new ones
abbrev pub ghost-close : goal.ghost-close
ghost-close a =
    let old = by_number (spelled_in a.election.now a.cells.now (drop header_size a.image.now.items)) in
    let all = old ++ all_listed a.lists.now in
    record { old = old; all = all; rest = all }
