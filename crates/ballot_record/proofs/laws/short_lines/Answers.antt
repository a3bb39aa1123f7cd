use Rattle.std.proofs.Common.{arith}
use Rattle.ballot_record.proofs.LineLaws.{short_lines}
use Rattle.ballot_record.proofs.Versions.{few_bytes}
use Rattle.ballot_record.proofs.laws.short_lines.Goals as goal

pub returns-clause-longest : goal.returns-clause-longest
returns-clause-longest c = short_lines

pub returns-clause-within_limit : goal.returns-clause-within_limit
returns-clause-within_limit c e bytes long is = omega (arith, short_lines e bytes is, few_bytes e)
