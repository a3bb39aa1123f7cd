use Rattle.part_session.proofs.OneRun.{one_answer, some_answers}
use Rattle.part_session.proofs.laws.a_close_answers.Goals as goal

pub returns-clause-some : goal.returns-clause-some
returns-clause-some c = some_answers

pub returns-clause-one : goal.returns-clause-one
returns-clause-one c = one_answer
