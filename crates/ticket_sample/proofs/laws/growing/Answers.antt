use Rattle.ticket_sample.proofs.Samples.{sample_among, sample_more, sample_set}
use Rattle.ticket_sample.proofs.laws.growing.Goals as goal

pub returns-clause-set : goal.returns-clause-set
returns-clause-set c = sample_set

pub returns-clause-among : goal.returns-clause-among
returns-clause-among c = sample_among

pub returns-clause-more : goal.returns-clause-more
returns-clause-more c = sample_more
