use Rattle.schedule_replay.proofs.OneAnswer.{one_answer}
use Rattle.schedule_replay.proofs.laws.one_answer.Goals as goal

pub returns : goal.returns
returns g c = one_answer
