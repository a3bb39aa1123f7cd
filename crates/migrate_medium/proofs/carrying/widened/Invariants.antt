use Rattle.std.proofs.Common.{◌≡◌, ◌++◌, take}
use Rattle.store_spec.proofs.Common.{cell_bytes, cells_of, header_of}
use Rattle.std.specs.Prelude.{flat_map}
use Rattle.migrate_medium.proofs.carrying.widened.Given as goal

-- the first cells were put behind the header
abbrev pub invariant-cells : goal.invariant-cells
invariant-cells l = l.image.items ≡ header_of l.election ++ flat_map (cell_bytes l.election l.old.ballots) (take l.cell (cells_of l.election l.old.ballots))
