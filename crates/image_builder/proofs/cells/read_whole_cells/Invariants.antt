use Rattle.std.proofs.Common.{◌≡◌, ◌-◌, ◌≤◌, length}
use Rattle.image_builder.proofs.cells.read_whole_cells.Given as goal
use Rattle.image_builder.specs.Cells.{IsEquipped, IsRead, end_read}

-- the cells so far, and where they end
abbrev pub invariant-loop-at : goal.invariant-loop-at
invariant-loop-at l = record {
  read : IsRead l.election l.cells l.bank;
  wide : IsEquipped l.election l.cells;
  end : l.at ≡ end_read l.election l.cells;
  onward : end_read l.election l.fn.cells ≤ l.at;
}

abbrev pub decreases-loop-at : goal.decreases-loop-at
decreases-loop-at l = length l.bank - l.at
