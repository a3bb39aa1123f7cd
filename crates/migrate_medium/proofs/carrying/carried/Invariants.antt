use Rattle.std.proofs.Common.{drop}
use Rattle.store_spec.proofs.Common.{header_size}
use Rattle.body_store.specs.ByNumber.{by_number}
use Rattle.body_store.specs.Held.{spelled_in}
use Rattle.migrate_medium.proofs.carrying.carried.Given as goal

-- the ballots that the image spells
abbrev pub ghost-from_image : goal.ghost-from_image
ghost-from_image a = by_number (spelled_in a.election.now a.cells.items (drop header_size a.image.items))
