use Rattle.ballot_record.proofs.LineLaws.{one_spelling}
use Rattle.ballot_record.proofs.laws.one_spelling.Goals as goal

pub returns : goal.returns
returns c = one_spelling
