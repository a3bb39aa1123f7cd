use Rattle.std.proofs.Common.{◌<◌, ◌∙◌, length, subst, sym}
use Rattle.body_store.specs.Contents.{Contents}
use Rattle.outside_io.specs.Stream.{TakesAll, TakesSome}
use Rattle.parted_store.proofs.Joining.{lines_on, some_lines}
use Rattle.parted_store.proofs.reports.write_parts.Goals as goal
use Rattle.partition_store.specs.Parted.{joined}
use Rattle.outside_io.proofs.Written.{on_failure}
use Rattle.tally_export.specs.Exported.{records_text}

pub returns-in_err-write_records-clause-some : goal.returns-in_err-write_records-clause-some
returns-in_err-write_records-clause-some g c =
    let store = c.args.store.now in
    let l = c.parts in
    let taken = g.K.Sink.taken in
    let after = taken c.write_records.new.out in
    let end = c.parts-place-end.ensures in
    let lt : l.place < length store.sets = subst (λ n. l.place < n) (end.count ∙ sym end.parted.parts.count) c.parts-test.true in
    on_failure c.from_residual.result (TakesSome (taken c.args.out.now) (records_text store.election (joined store.sets)) after)
    (some_lines store.election store.sets l.place (taken c.args.out.now) (taken l.out) after lt l.invariant.written
    (subst (λ (part : Contents). TakesSome (taken l.out) (records_text part.election part.ballots) after)
    c.part-part.ensures.part c.in_err-write_records.ensures.some))

pub parts-preserved : goal.parts-preserved
parts-preserved g c =
    let store = c.args.store.now in
    let l = c.parts in
    let taken = g.K.Sink.taken in
    let after = taken c.write_records.new.out in
    let end = c.parts-place-end.ensures in
    let lt : l.place < length store.sets = subst (λ n. l.place < n) (end.count ∙ sym end.parted.parts.count) c.parts-test.true in
    record {
      written = lines_on store.election store.sets l.place (taken c.args.out.now) (taken l.out) after lt l.invariant.written
          (subst (λ (part : Contents). TakesAll (taken l.out) (records_text part.election part.ballots) after)
          c.part-part.ensures.part c.in_ok-write_records.ensures.all);
      steady = c.in_ok-write_records.ensures.fault.steady (λ is. absurd (cc)) ∙ l.invariant.steady;
    }
