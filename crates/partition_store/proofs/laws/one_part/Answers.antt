use Rattle.partition_store.proofs.OnePart.{one_casting, one_withdrawing}
use Rattle.partition_store.proofs.laws.one_part.Goals as goal

pub returns-clause-casting : goal.returns-clause-casting
returns-clause-casting c = one_casting

pub returns-clause-withdrawing : goal.returns-clause-withdrawing
returns-clause-withdrawing c = one_withdrawing
