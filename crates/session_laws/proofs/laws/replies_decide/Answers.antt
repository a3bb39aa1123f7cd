use Rattle.session_laws.proofs.RepliesDecide.{one_effect, one_play}
use Rattle.session_laws.proofs.laws.replies_decide.Goals as goal

pub returns-clause-line : goal.returns-clause-line
returns-clause-line c = one_effect

pub returns-clause-script : goal.returns-clause-script
returns-clause-script c e n s lines xs ys x y p q same = let play = one_play e n s lines xs ys x y p q same in (play.effects, play.end)
