use Rattle.ballot_record.proofs.LineLaws.{one_ballot}
use Rattle.ballot_record.proofs.laws.one_ballot.Goals as goal

pub returns : goal.returns
returns c = one_ballot
