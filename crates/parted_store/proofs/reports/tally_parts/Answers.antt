use Rattle.std.proofs.Common.{◌<◌, ◌∙◌, [], get_or, length, subst, sym, take}
use Rattle.body_store.specs.Contents.{Contents}
use Rattle.parted_store.proofs.Joining.{few_so_far}
use Rattle.parted_store.proofs.reports.tally_parts.Goals as goal
use Rattle.partition_store.specs.Parted.{joined}
use Rattle.tally_export.proofs.Adding.{sums_of_few}
use Rattle.tally_export.specs.Counted.{IsTallyOf}

pub add_tally-all-requires : goal.add_tally-all-requires
add_tally-all-requires g c =
    let store = c.args.store.now in
    let l = c.parts in
    let counts = c.tally_threads-counts in
    let end = c.parts-index-end.ensures in
    let lt : l.index < length store.sets = subst (λ n. l.index < n) (end.count ∙ sym end.parted.parts.count) c.parts-test.true in
    sums_of_few store.election (joined (take l.index store.sets)) (get_or store.sets l.index []) l.all counts.result
    end.parted.election (few_so_far store.sets l.index lt c.requires.few) l.invariant.counted
    (subst (λ (part : Contents). IsTallyOf part.election part.ballots counts.result) c.part-part.ensures.part counts.ensures)
