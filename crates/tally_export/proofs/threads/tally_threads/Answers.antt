use Rattle.std.proofs.Common.{length}
use Rattle.tally_export.proofs.AnyOrder.{tally_any_order}
use Rattle.tally_export.proofs.Ranges.{all_in}
use Rattle.tally_export.specs.Ranges.{ballots_in}
use Rattle.tally_export.proofs.threads.tally_threads.Goals as goal

pub returns : goal.returns
returns g c =
    let store = c.args.closed.now in
    let end = length c.cells.result.now in
    tally_any_order store.election (ballots_in store 0 end) store.ballots c.tally_parts.result
    (all_in store end c.cells.ensures.stored c.cells.ensures.layout.size) c.tally_parts.ensures
