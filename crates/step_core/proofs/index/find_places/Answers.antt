use Rattle.step_core.proofs.IndexedCells.{all_found}
use Rattle.step_core.proofs.index.find_places.Goals as goal

pub returns : goal.returns
returns c =
    all_found c.args.cells.now c.args.numbers.now c.loop-place.places c.loop-place.place c.loop-place-test.false c.requires.in_order c.requires.each c.loop-place.invariant
