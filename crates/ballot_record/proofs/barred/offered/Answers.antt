use Rattle.std.proofs.Common.{arith}
use Rattle.ballot_record.proofs.Versions.{few_choices}
use Rattle.ballot_record.proofs.barred.offered.Goals as goal

pub returns-then-contests-place-eq1-clause-few : goal.returns-then-contests-place-eq1-clause-few
returns-then-contests-place-eq1-clause-few c = omega (arith, c.contest.ensures.valid.few_choices, few_choices c.args.election.now)
