use Rattle.std.proofs.Common.{◌+◌, ◌≤◌, length, take, drop, sym, ◌∙◌, arith}
use Rattle.store_spec.proofs.Common.{cell_size, err_from_is_err_and, length-take-le, take-append-drop}
use Rattle.image_builder.proofs.FirstCells.{refused_behind}
use Rattle.image_builder.proofs.cells.read_whole_cells.Goals as goal
use Rattle.image_builder.specs.Cells.{end_read}
use Rattle.ballot_record.proofs.CellFormat.{number_fits}

pub returns-in_err-read_cell-clause-refused : goal.returns-in_err-read_cell-clause-refused
returns-in_err-read_cell-clause-refused c =
    let e = c.args.election.now in
    let bank = c.args.bank.now in
    let start = end_read e c.args.cells.now in
    let ends = c.loop-at.at + cell_size e in
    let whole : ends ≤ length bank = omega (arith, c.loop-at-test.true, c.cell_bytes-size.ensures.size, c.loop-at.invariant.read.within, c.loop-at.invariant.end) in
    let p = err_from_is_err_and c.from_residual.result c.from_residual.ensures.1 in
    rw (p.1, p.2) (refused_behind e (take ends bank) (take start bank) (drop start bank) (drop ends bank) c.in_err-read_cell.field-0.0
    (omega (arith, length-take-le ends bank whole, length-take-le start bank c.requires.read.within, c.loop-at.invariant.onward, number_fits e))
    (take-append-drop ends bank ∙ sym (take-append-drop start bank)) c.in_err-read_cell.ensures.refused)
