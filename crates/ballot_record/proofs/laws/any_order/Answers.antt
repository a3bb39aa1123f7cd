use Rattle.ballot_record.proofs.BuildLaws.{any_order_builds, same_lines_build}
use Rattle.ballot_record.proofs.laws.any_order.Goals as goal

pub returns-clause-builds : goal.returns-clause-builds
returns-clause-builds c = any_order_builds

pub returns-clause-same : goal.returns-clause-same
returns-clause-same c = same_lines_build
