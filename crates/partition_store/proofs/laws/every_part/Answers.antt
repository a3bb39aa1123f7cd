use Rattle.partition_store.proofs.Shares.{each_in_part, parts_rise}
use Rattle.partition_store.proofs.laws.every_part.Goals as goal

pub returns-clause-part : goal.returns-clause-part
returns-clause-part c = each_in_part

pub returns-clause-rises : goal.returns-clause-rises
returns-clause-rises c = parts_rise
