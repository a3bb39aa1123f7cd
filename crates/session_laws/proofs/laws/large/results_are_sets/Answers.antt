use Rattle.session_laws.proofs.LargeSets.{result_fits, result_is_set}
use Rattle.session_laws.proofs.laws.large.results_are_sets.Goals as goal

pub returns-clause-set : goal.returns-clause-set
returns-clause-set c = result_is_set

pub returns-clause-within_limit : goal.returns-clause-within_limit
returns-clause-within_limit c = result_fits
