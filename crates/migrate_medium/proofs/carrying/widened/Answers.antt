use Rattle.std.proofs.Common.{◌≡◌, ◌++◌, ℕ, List, append_assoc, get_or, length, replicate, take, ap, ◌∙◌, arith}
use Rattle.store_spec.proofs.Common.{Election, ballot_bytes, ballot_of, cell_bytes, cell_size, cells_of, header_of, option_map_or, slice_index, take_all}
use Rattle.std.specs.Prelude.{flat_map}
use Rattle.body_store.proofs.Images.{pieces_more}
use Rattle.migrate_medium.proofs.Versions.{same_cells, valid_in_cell}
use Rattle.migrate_medium.proofs.carrying.widened.Goals as goal

pub push_cell-requires : goal.push_cell-requires
push_cell-requires c =
    let old = c.args.old.now in
    valid_in_cell c.args.election.now old c.requires c.cells-cell-end.ensures.stored c.record_in.result (slice_index (cells_of old.election old.ballots) c.cells.cell) c.record_in.ensures

pub cells-preserved : goal.cells-preserved
cells-preserved c =
    let e = c.args.election.now in
    let old = c.args.old.now in
    let f = cell_bytes e old.ballots in
    let cells = cells_of e old.ballots in
    let there : ballot_of old.ballots (slice_index (cells_of old.election old.ballots) c.cells.cell) ≡ ballot_of old.ballots (get_or cells c.cells.cell 0) =
    ap (λ (e : Election). ballot_of old.ballots (slice_index (cells_of e old.ballots) c.cells.cell)) c.requires in
    c.in_ok-push_cell.ensures
    ∙ ap (λ found. c.cells.image.items ++ option_map_or (ballot_bytes e) found (replicate (cell_size e) 0)) (c.record_in.ensures ∙ there)
    ∙ ap (λ (bytes : List ℕ). bytes ++ f (get_or cells c.cells.cell 0)) c.cells.invariant
    ∙ append_assoc (header_of e) (flat_map f (take c.cells.cell cells)) (f (get_or cells c.cells.cell 0))
    ∙ ap (λ (bytes : List ℕ). header_of e ++ bytes) (pieces_more f cells c.cells.cell (omega (arith, c.cells-test.true, ap length (same_cells old e c.requires c.cells-cell-end.result.now c.cells-cell-end.ensures.cells))))

pub returns-clause-image : goal.returns-clause-image
returns-clause-image c =
    let e = c.args.election.now in
    let old = c.args.old.now in
    let cells = cells_of e old.ballots in
    c.cells.invariant
    ∙ ap (λ (front : List ℕ). header_of e ++ flat_map (cell_bytes e old.ballots) front)
    (take_all c.cells.cell cells (omega (arith, c.cells-test.false, ap length (same_cells old e c.requires c.cells-cell-end.result.now c.cells-cell-end.ensures.cells))))
