use Rattle.std.proofs.Common.{arith}
use Rattle.ballot_record.proofs.Versions.{few_choices}
use Rattle.ballot_record.proofs.record.not_offered.Goals as goal

pub marked_behind-behind-requires-clause-few : goal.marked_behind-behind-requires-clause-few
marked_behind-behind-requires-clause-few c = omega (arith, c.contest.ensures.valid.few_choices, few_choices c.args.election.now)
