use Rattle.large_options.proofs.Orders as orders
use Rattle.large_options.proofs.laws.one_reading.Goals as goal

pub returns : goal.returns
returns c = orders.one_reading
