use Rattle.ticket_sample.proofs.Sizing.{sample_size}
use Rattle.ticket_sample.proofs.laws.size.Goals as goal

pub returns : goal.returns
returns c = sample_size
