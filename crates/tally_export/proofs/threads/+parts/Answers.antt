use Rattle.std.proofs.Common.{List, arith, subst}
use Rattle.store_spec.proofs.Common.{Ballot}
use Rattle.tally_export.proofs.Adding.{sums_of_few, tally_of_both}
use Rattle.tally_export.proofs.Ranges.{both_in, few_in}
use Rattle.tally_export.specs.Counted.{IsTallyOf}
use Rattle.tally_export.specs.Ranges.{ballots_in}
use Rattle.tally_export.proofs.threads.+parts.Goals as goal

pub tally_both-add-requires : goal.tally_both-add-requires
tally_both-add-requires g t c =
    let store = c.args.closed.now in
    sums_of_few store.election (ballots_in store c.args.from c.args.middle) (ballots_in store c.args.middle c.args.end)
    c.join.result.0 c.join.result.1 c.requires.stored.election
    (omega (
      arith,
      few_in store c.args.from c.args.middle c.requires.stored,
      few_in store c.args.middle c.args.end c.requires.stored,
    )) c.join.ensures.first c.join.ensures.second

pub tally_both-returns : goal.tally_both-returns
tally_both-returns g t c =
    let store = c.args.closed.now in
    let front = ballots_in store c.args.from c.args.middle in
    let back = ballots_in store c.args.middle c.args.end in
    subst (λ (bs : List Ballot). IsTallyOf store.election bs c.add.new.self)
    (both_in store c.args.from c.args.middle c.args.end c.requires.within.0 c.requires.within.1)
    (tally_of_both store.election front back c.join.result.0 c.join.result.1 c.add.new.self c.join.ensures.first c.join.ensures.second c.add.ensures)
