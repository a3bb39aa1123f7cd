use Rattle.election_def.proofs.One.{one_election}
use Rattle.election_def.proofs.laws.one_election.Goals as goal

pub returns : goal.returns
returns c = one_election
