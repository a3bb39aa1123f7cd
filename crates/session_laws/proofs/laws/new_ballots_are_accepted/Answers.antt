use Rattle.session_laws.proofs.OnlyAccepted.{all_are_accepted, same_set}
use Rattle.session_laws.proofs.laws.new_ballots_are_accepted.Goals as goal

pub returns-clause-all : goal.returns-clause-all
returns-clause-all c e set after lists = all_are_accepted e set lists after

pub returns-clause-same_set : goal.returns-clause-same_set
returns-clause-same_set c e set x y lists others = same_set e set lists others x y
