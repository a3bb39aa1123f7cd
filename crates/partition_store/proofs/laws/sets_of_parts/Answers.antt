use Rattle.partition_store.proofs.Shares.{joined_set, share_joined}
use Rattle.partition_store.proofs.laws.sets_of_parts.Goals as goal

pub returns-clause-set : goal.returns-clause-set
returns-clause-set c = joined_set

pub returns-clause-shares : goal.returns-clause-shares
returns-clause-shares c = share_joined
