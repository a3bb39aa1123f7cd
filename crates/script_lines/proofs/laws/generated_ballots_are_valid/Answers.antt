use Rattle.std.proofs.Common.{arith}
use Rattle.script_lines.proofs.GeneratedBallots.{all_valid, cast_count}
use Rattle.script_lines.proofs.laws.generated_ballots_are_valid.Goals as goal

pub returns-clause-valid : goal.returns-clause-valid
returns-clause-valid c = all_valid

pub returns-clause-within_limit : goal.returns-clause-within_limit
returns-clause-within_limit c e seed count = omega (arith, cast_count e seed count)
