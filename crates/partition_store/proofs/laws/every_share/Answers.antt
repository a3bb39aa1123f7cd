use Rattle.partition_store.proofs.Shares.{joined_shares}
use Rattle.partition_store.proofs.laws.every_share.Goals as goal

pub returns : goal.returns
returns c = joined_shares
