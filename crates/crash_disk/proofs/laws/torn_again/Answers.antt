use Rattle.crash_disk.proofs.TornBytes.{torn-again, torn-same}
use Rattle.crash_disk.proofs.laws.torn_again.Goals as goal

pub returns-clause-part : goal.returns-clause-part
returns-clause-part c = torn-again

pub returns-clause-same : goal.returns-clause-same
returns-clause-same c = torn-same
