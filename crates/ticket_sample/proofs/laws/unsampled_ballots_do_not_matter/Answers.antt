use Rattle.ticket_sample.proofs.Removing.{sample_without}
use Rattle.ticket_sample.proofs.laws.unsampled_ballots_do_not_matter.Goals as goal

pub returns : goal.returns
returns c before behind b dice k none = sample_without dice before behind b k none
