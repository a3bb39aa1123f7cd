use Rattle.std.proofs.Common.{arith, subst, sym}
use Rattle.store_spec.proofs.Common.{Election}
use Rattle.tally_export.proofs.Adding.{sums_of_few}
use Rattle.tally_export.specs.Counted.{IsTallyOf}
use Rattle.text_tests.proofs.parts.tally_of_both.Goals as goal

pub add_tally-requires : goal.add_tally-requires
add_tally-requires c =
    let one = c.args.one.now in
    let other = c.args.other.now in
    let first = c.len.ensures.stored in
    let second = c.len-2.ensures.stored in
    sums_of_few one.election one.ballots other.ballots c.tally.result c.tally-2.result first.election
    (omega (arith, first.within_limit, first.election.few_ballots, second.within_limit, second.election.few_ballots))
    c.tally.ensures
    (subst (λ (e : Election). IsTallyOf e other.ballots c.tally-2.result) (sym c.requires) c.tally-2.ensures)
