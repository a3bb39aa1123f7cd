use Rattle.image_builder.proofs.cells.CellsRead.into_store.Given as goal
use Rattle.image_builder.specs.Cells.{spelled_ballots}

abbrev pub ghost-from_image : goal.ghost-from_image
ghost-from_image a = spelled_ballots a.election.now a.cells.items a.image.items
