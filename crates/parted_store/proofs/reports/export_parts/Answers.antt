use Rattle.std.proofs.Common.{length, subst}
use Rattle.store_spec.proofs.Common.{export_text}
use Rattle.outside_io.specs.Stream.{TakesAll, TakesSome}
use Rattle.parted_store.proofs.Joining.{next_on_failure, some_of_first}
use Rattle.parted_store.proofs.reports.export_parts.Goals as goal
use Rattle.partition_store.specs.Parted.{joined}
use Rattle.outside_io.proofs.Written.{on_failure}
use Rattle.tally_export.specs.Exported.{count_text, records_text}

pub returns-in_err-write_count-clause-some : goal.returns-in_err-write_count-clause-some
returns-in_err-write_count-clause-some g c =
    let store = c.args.store.now in
    let before = g.K.Sink.taken c.args.out.now in
    let after = g.K.Sink.taken c.write_count.new.out in
    on_failure c.from_residual.result (TakesSome before (export_text store.election (joined store.sets)) after)
    (some_of_first before after (count_text (length (joined store.sets))) (records_text store.election (joined store.sets))
    (subst (λ count. TakesSome before (count_text count) after) c.len.ensures.count c.in_err-write_count.ensures.some))

pub returns-clause-some : goal.returns-clause-some
returns-clause-some g c =
    let store = c.args.store.now in
    let before = g.K.Sink.taken c.args.out.now in
    let between = g.K.Sink.taken c.write_count.new.out in
    next_on_failure c.write_parts.result before between (g.K.Sink.taken c.write_parts.new.out)
    (count_text (length (joined store.sets))) (records_text store.election (joined store.sets))
    (subst (λ count. TakesAll before (count_text count) between) c.len.ensures.count c.in_ok-write_count.ensures.all)
    c.write_parts.ensures.some
