use Rattle.ballot_record.proofs.LineLaws.{one_reading}
use Rattle.ballot_record.proofs.laws.one_reading.Goals as goal

pub returns : goal.returns
returns c = one_reading
