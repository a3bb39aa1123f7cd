use Rattle.ballot_record.proofs.LineLaws.{spells_its_ballot}
use Rattle.ballot_record.proofs.laws.line_of_each_ballot.Goals as goal

pub returns : goal.returns
returns c = spells_its_ballot
