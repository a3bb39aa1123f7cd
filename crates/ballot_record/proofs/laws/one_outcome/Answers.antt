use Rattle.ballot_record.proofs.BuildLaws.{build_one_way}
use Rattle.ballot_record.proofs.laws.one_outcome.Goals as goal

pub returns : goal.returns
returns c = build_one_way
