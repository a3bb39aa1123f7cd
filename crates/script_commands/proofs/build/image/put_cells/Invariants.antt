use Rattle.std.proofs.Common.{◌≡◌, ◌+◌, ◌-◌, ◌≤◌, ◌++◌, drop, length, vec_capacity, vec_len}
use Rattle.store_spec.proofs.Common.{cell_bytes, flat_map}
use Rattle.outside_io.proofs.Written.{IsWritten}
use Rattle.script_commands.specs.Ballots.{ballots_so_far}
use Rattle.script_commands.specs.declared.build.image.TheConstants.{FULL, PIECE}
use Rattle.script_commands.proofs.build.image.put_cells.Given as goal

-- the page and the first cells are written or gathered
abbrev pub invariant-cells : goal.invariant-cells
invariant-cells g l = record {
  within : l.at ≤ length l.cells;
  written : IsWritten (g.K.Sink.taken l.initial.out) (g.K.Sink.taken l.out) l.page.items
      (flat_map (cell_bytes l.election (ballots_so_far l.ballots)) (drop l.at l.cells))
      (l.initial.page.items ++ flat_map (cell_bytes l.election (ballots_so_far l.ballots)) l.cells);
  steady : g.K.Sink.faults l.out ≡ g.K.Sink.faults l.initial.out;
  short : vec_len l.page ≤ FULL;
  room : FULL + PIECE ≤ vec_capacity l.page;
}

abbrev pub decreases-cells : goal.decreases-cells
decreases-cells g l = length l.cells - l.at
