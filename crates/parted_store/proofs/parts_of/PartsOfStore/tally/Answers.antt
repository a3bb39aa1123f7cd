use Rattle.std.proofs.Common.{subst, sym}
use Rattle.store_spec.proofs.Common.{Election, OnErr, OnOk, tally_text}
use Rattle.outside_io.specs.Stream.{TakesAll, TakesSome}
use Rattle.parted_store.proofs.parts_of.PartsOfStore.tally.Goals as goal
use Rattle.partition_store.specs.Parted.{joined}
use Rattle.tally_export.specs.Counted.{IsTallyOf}

pub returns-clause-all : goal.returns-clause-all
returns-clause-all g c =
    let ballots = joined c.args.self.now.store.sets in
    let taken = g.K.Sink.taken in
    subst (λ (e : Election). OnOk c.write_tally_of.result (TakesAll (taken c.args.out.now) (tally_text e ballots)
    (taken c.write_tally_of.new.out)))
    c.election.ensures.election
    (c.write_tally_of.ensures.all ballots (sym c.len-held.ensures.count)
    (subst (λ (e : Election). IsTallyOf e ballots c.tally_parts-counts.result) (sym c.election.ensures.election) c.tally_parts-counts.ensures))

pub returns-clause-some : goal.returns-clause-some
returns-clause-some g c =
    let ballots = joined c.args.self.now.store.sets in
    let taken = g.K.Sink.taken in
    subst (λ (e : Election). OnErr c.write_tally_of.result (TakesSome (taken c.args.out.now) (tally_text e ballots)
    (taken c.write_tally_of.new.out)))
    c.election.ensures.election
    (c.write_tally_of.ensures.some ballots (sym c.len-held.ensures.count)
    (subst (λ (e : Election). IsTallyOf e ballots c.tally_parts-counts.result) (sym c.election.ensures.election) c.tally_parts-counts.ensures))
