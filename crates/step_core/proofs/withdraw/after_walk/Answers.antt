use Rattle.std.proofs.Common.{arith}
use Rattle.store_spec.proofs.Common.{began, walked_on}
use Rattle.step_core.proofs.withdraw.after_walk.Goals as goal

pub returns-then-found-number : goal.returns-then-found-number
returns-then-found-number c = λ home. walked_on c.if-found-number.true

pub returns-else-found-number : goal.returns-else-found-number
returns-else-found-number c = λ home. began (omega arith)
