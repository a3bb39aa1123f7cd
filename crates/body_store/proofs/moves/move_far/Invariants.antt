use Rattle.body_store.proofs.Planning.{FarUpTo}
use Rattle.body_store.proofs.moves.move_far.Given as goal

-- what is known of the changes so far
abbrev pub invariant-loop-change : goal.invariant-loop-change
invariant-loop-change l = FarUpTo l.cells l.far l.changes l.initial.moves.items l.moves.items l.change-index
