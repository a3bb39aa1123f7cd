use Rattle.session_laws.proofs.Answered.{line_answered, script_answered}
use Rattle.session_laws.proofs.laws.every_line_is_answered.Goals as goal

pub returns-clause-line : goal.returns-clause-line
returns-clause-line c = line_answered

pub returns-clause-script : goal.returns-clause-script
returns-clause-script c e n s lines is = let play = script_answered e n s lines is in (play.effects, play.end, play.plays)
