use Rattle.ballot_record.proofs.LineLaws.{one_group, set_within}
use Rattle.ballot_record.proofs.MarkSets.{IsGroup-choices_in, mark_set-choices_in}
use Rattle.ballot_record.proofs.laws.mark_sets.Goals as goal

pub returns-clause-one_group : goal.returns-clause-one_group
returns-clause-one_group c = one_group

pub returns-clause-group : goal.returns-clause-group
returns-clause-group c = IsGroup-choices_in

pub returns-clause-set : goal.returns-clause-set
returns-clause-set c = mark_set-choices_in

pub returns-clause-offered : goal.returns-clause-offered
returns-clause-offered c = set_within
