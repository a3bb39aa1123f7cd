use Rattle.ticket_sample.proofs.Samples.{one_sample}
use Rattle.ticket_sample.proofs.laws.one_sample.Goals as goal

pub returns : goal.returns
returns c = one_sample
