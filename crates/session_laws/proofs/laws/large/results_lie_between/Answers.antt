use Rattle.session_laws.proofs.LargeSets.{result_least, result_most}
use Rattle.session_laws.proofs.laws.large.results_lie_between.Goals as goal

pub returns-clause-least : goal.returns-clause-least
returns-clause-least c = result_least

pub returns-clause-most : goal.returns-clause-most
returns-clause-most c = result_most
