use Rattle.session_laws.proofs.LargeSets.{one_result, result_members}
use Rattle.session_laws.proofs.laws.large.one_result_with_room.Goals as goal

pub returns-clause-members : goal.returns-clause-members
returns-clause-members c = result_members

pub returns-clause-one : goal.returns-clause-one
returns-clause-one c = one_result
