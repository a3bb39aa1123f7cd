use Rattle.std.proofs.Common.{◌≡◌, ◌++◌, drop}
use Rattle.store_spec.proofs.Common.{string_bytes}
use Rattle.schedule_replay.specs.Replayed.{cell_lines}
use Rattle.schedule_replay.proofs.text.push_cells.Given as goal

-- the lines of the first cells are written
abbrev pub invariant-cells : goal.invariant-cells
invariant-cells l =
    string_bytes l.text ++ cell_lines l.place (drop l.place l.cells)
    ≡ string_bytes l.initial.text ++ cell_lines 0 l.cells
