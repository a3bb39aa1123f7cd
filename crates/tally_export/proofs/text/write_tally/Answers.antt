use Rattle.std.proofs.Common.{subst, sym}
use Rattle.store_spec.proofs.Common.{Election, OnErr, OnOk, tally_text}
use Rattle.outside_io.specs.Stream.{TakesAll, TakesSome}
use Rattle.tally_export.specs.Counted.{IsTallyOf}
use Rattle.tally_export.proofs.text.write_tally.Goals as goal

pub returns-clause-all : goal.returns-clause-all
returns-clause-all g c =
    let ballots = c.args.closed.now.ballots in
    let taken = g.K.Sink.taken in
    subst (λ (e : Election). OnOk c.write_tally_of.result (TakesAll (taken c.args.out.now) (tally_text e ballots)
    (taken c.write_tally_of.new.out)))
    c.election.ensures.election
    (c.write_tally_of.ensures.all ballots (sym c.len.ensures.count)
    (subst (λ (e : Election). IsTallyOf e ballots c.args.tally.now) (sym c.election.ensures.election) c.requires))

pub returns-clause-some : goal.returns-clause-some
returns-clause-some g c =
    let ballots = c.args.closed.now.ballots in
    let taken = g.K.Sink.taken in
    subst (λ (e : Election). OnErr c.write_tally_of.result (TakesSome (taken c.args.out.now) (tally_text e ballots)
    (taken c.write_tally_of.new.out)))
    c.election.ensures.election
    (c.write_tally_of.ensures.some ballots (sym c.len.ensures.count)
    (subst (λ (e : Election). IsTallyOf e ballots c.args.tally.now) (sym c.election.ensures.election) c.requires))
