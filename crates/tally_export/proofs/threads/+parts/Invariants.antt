use Rattle.std.proofs.Common.{◌+◌, ◌-◌, ◌*◌}
use Rattle.tally_export.proofs.threads.+parts.Given as goal

abbrev pub decreases-tally_parts : goal.decreases-tally_parts
decreases-tally_parts g l = 3 * l.parts

abbrev pub decreases-tally_both : goal.decreases-tally_both
decreases-tally_both g l = 3 * l.low + 3 * l.high - 1

abbrev pub decreases-tally_both-join+arg2 : goal.decreases-tally_both-join+arg2
decreases-tally_both-join+arg2 g l = 3 * l.low + 1

abbrev pub decreases-tally_both-join+arg3 : goal.decreases-tally_both-join+arg3
decreases-tally_both-join+arg3 g l = 3 * l.high + 1
