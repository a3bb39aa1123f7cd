use Rattle.ballot_record.proofs.LineLaws.{line_of_its_ballot}
use Rattle.ballot_record.proofs.laws.line_of_its_ballot.Goals as goal

pub returns : goal.returns
returns c = line_of_its_ballot
