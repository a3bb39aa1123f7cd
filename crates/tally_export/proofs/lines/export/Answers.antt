use Rattle.std.proofs.Common.{◌≡◌, ℕ, ◌++◌, List, length, ap, arith, subst, ◌∙◌}
use Rattle.store_spec.proofs.Common.{OnErr}
use Rattle.outside_io.specs.Stream.{TakesSome}
use Rattle.tally_export.proofs.Listed.{as_many}
use Rattle.tally_export.specs.Exported.{count_text, records_text}
use Rattle.tally_export.proofs.lines.export.Goals as goal

pub returns-clause-some : goal.returns-clause-some
returns-clause-some g c =
    let store = c.args.closed.now in
    let taken = g.K.Sink.taken in
    let known = c.in_ok-places.ensures in
    let listed = as_many store c.in_ok-places.places.items (record {
      stored = known.stored;
      numbers = known.numbers;
      cells = known.cells;
    }) in
    let many : c.len.result ≡ length store.ballots =
    omega (arith, c.len.ensures, c.deref.ensures.len, ap length c.deref.ensures.value, listed) in
    subst (λ (text : List ℕ). OnErr c.put_records.result (TakesSome (taken c.args.out.now)
    (text ++ records_text store.election store.ballots) (taken c.put_records.new.out)))
    (c.in_ok-text.ensures ∙ ap count_text many) c.put_records.ensures.some
