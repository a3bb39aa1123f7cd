use Rattle.std.proofs.Common.{◌≡◌, ◌≢◌, ⊎_elim, sym, ap, ◌∙◌, arith}
use Rattle.store_spec.proofs.Common.{ballot_of, cases_eq}
use Rattle.std.specs.Option.{option_map}
use Rattle.ballot_record.specs.Record.{ballot}
use Rattle.body_store.proofs.Keeping.{shown_layout}
use Rattle.body_store.proofs.Lookups.{none_found}
use Rattle.body_store.proofs.Spelled.{none_with_zero}
use Rattle.body_store.proofs.lookup.with_number.Goals as goal
use Rattle.layout_def.proofs.OrderedCells.{place_within}

pub cell_with-requires : goal.cell_with-requires
cell_with-requires g c = (shown_layout c.args.election.now g.ballots _ c.args.cells.now c.requires).ordered

pub returns-in_err-cell : goal.returns-in_err-cell
returns-in_err-cell g c =
    ap (option_map ballot) c.from_residual.ensures
    ∙ ⊎_elim
    (λ (zero : c.args.number ≡ 0). sym (ap (ballot_of g.ballots) zero ∙ none_with_zero c.args.election.now g.ballots c.requires.listing.valid))
    (λ (some : c.args.number ≢ 0). none_found g.ballots c.args.number
    (λ among. c.in_err-cell.ensures some ((shown_layout _ g.ballots _ _ c.requires).exactly.each c.args.number among)))
    (cases_eq c.args.number 0)

pub in_cell-requires : goal.in_cell-requires
in_cell-requires g c =
    let cells = c.args.cells.now in
    let found = c.in_ok-cell.ensures in
    let within = place_within cells c.in_ok-cell.cell (λ z. found.0 (sym found.1 ∙ z)) in
    (c.requires, omega (arith, within, (shown_layout _ g.ballots _ cells c.requires).size))

pub returns : goal.returns
returns g c = c.in_cell.ensures ∙ ap (ballot_of g.ballots) c.in_ok-cell.ensures.1
