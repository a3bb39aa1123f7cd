use Rattle.std.proofs.Common.{◌≡◌, ◌+◌, ◌*◌, Some, length, sym, ap, ◌∙◌, arith}
use Rattle.store_spec.proofs.Common.{ballot_of, cell_size, header_size}
use Rattle.body_store.proofs.Keeping.{cell_length, cell_spelled, cell_within, shown_layout, shown_size}
use Rattle.body_store.proofs.Spelled.{none_with_zero}
use Rattle.body_store.proofs.lookup.in_cell.Goals as goal
use Rattle.ballot_record.specs.Format.{ballot_at}
use Rattle.body_store.specs.Moves.{cell_in}

pub bounds-cells-cell : goal.bounds-cells-cell
bounds-cells-cell g c = omega (arith, c.requires.1, (shown_layout c.args.election.now g.ballots c.args.image.now c.args.cells.now c.requires.0).size)

pub returns-then-cells-cell-eq0 : goal.returns-then-cells-cell-eq0
returns-then-cells-cell-eq0 g c =
    sym (ap (ballot_of g.ballots) c.if-cells-cell-eq0.true ∙ none_with_zero c.args.election.now g.ballots c.requires.0.listing.valid)

pub bytes_in-bytes-requires : goal.bytes_in-bytes-requires
bytes_in-bytes-requires g c =
    let e = c.args.election.now in
    let size = c.cell_bytes.ensures.size in
    let fits = cell_within e c.args.cell c.requires.1 in
    let same : header_size + c.args.cell * c.cell_bytes.result + c.cell_bytes.result ≡ header_size + c.args.cell * cell_size e + cell_size e =
    ap (λ size. header_size + c.args.cell * size + size) size in
    omega (arith, fits, same, shown_size e g.ballots c.args.image.now c.args.cells.now c.requires.0)

pub of_cell-requires : goal.of_cell-requires
of_cell-requires g c =
    let e = c.args.election.now in
    ap length (c.bytes_in-bytes.ensures ∙ ap (λ size. cell_in size c.args.cell c.args.image.now) c.cell_bytes.ensures.size)
    ∙ cell_length e g.ballots c.args.image.now c.args.cells.now c.args.cell c.requires.0 c.requires.1

pub returns : goal.returns
returns g c =
    ap (λ b. Some b) c.of_cell.ensures
    ∙ ap (λ bytes. Some (ballot_at c.args.election.now bytes))
    (c.bytes_in-bytes.ensures ∙ ap (λ size. cell_in size c.args.cell c.args.image.now) c.cell_bytes.ensures.size)
    ∙ cell_spelled c.args.election.now g.ballots c.args.image.now c.args.cells.now c.args.cell c.requires.0 c.requires.1 c.if-cells-cell-eq0.false
