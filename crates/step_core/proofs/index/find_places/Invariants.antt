use Rattle.step_core.proofs.IndexedCells.{FoundBelow}
use Rattle.step_core.proofs.index.find_places.Given as goal

abbrev pub invariant-loop-place : goal.invariant-loop-place
invariant-loop-place l = FoundBelow l.cells l.numbers l.places l.place
