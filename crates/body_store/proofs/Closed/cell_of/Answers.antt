use Rattle.std.proofs.Common.{◌≡◌, ◌≢◌, Contains, ℕ, ◌<◌, ⊎_elim, List, None, Some, get_or, sym, ap, ◌∙◌, subst, arith}
use Rattle.store_spec.proofs.Common.{Ballot, Election, IsCellOf, IsOrdered, MatchOption, ballot_of, cases_eq, cell_count, cells_of, home_in}
use Rattle.body_store.proofs.Closed.cell_of.Goals as goal
use Rattle.body_store.proofs.Keeping.{cell_spelled, shown_layout}
use Rattle.body_store.proofs.Lookups.{none_found}
use Rattle.body_store.proofs.Spelled.{none_with_zero}
use Rattle.body_store.specs.Contents.{Contents}
use Rattle.body_store.specs.Kept.{IsKept, contents_of}
use Rattle.body_store.specs.declared.Closed.TheInside.{Inside}
use Rattle.layout_def.proofs.OrderedCells.{place_within}

pub cell_with-requires : goal.cell_with-requires
cell_with-requires c =
    let a = c.self.inside in
    let e = a.election.value in
    subst (λ (e : Election). IsOrdered (home_in e) c.numbers.result.now) (sym c.deref.ensures)
    (subst (λ (cells : List ℕ). IsOrdered (home_in e) cells) (sym c.numbers.ensures.value)
    (shown_layout e (contents_of a).ballots a.image.items a.cells c.self.invariant.shown).ordered)

pub returns-in_err-cell : goal.returns-in_err-cell
returns-in_err-cell c =
    let a = c.self.inside in
    let e = a.election.value in
    let ballots = (contents_of a).ballots in
    let shown = c.self.invariant.shown in
    let none : ballot_of ballots c.args.number ≡ None = ⊎_elim
    (λ (zero : c.args.number ≡ 0). ap (ballot_of ballots) zero ∙ none_with_zero e ballots shown.listing.valid)
    (λ (some : c.args.number ≢ 0). sym (none_found ballots c.args.number
    (λ among. c.in_err-cell.ensures some (subst (λ (cells : List ℕ). Contains cells c.args.number) (sym c.numbers.ensures.value)
    ((shown_layout e ballots a.image.items a.cells shown).exactly.each c.args.number among)))))
    (cases_eq c.args.number 0) in
    subst (λ r. MatchOption r (ballot_of c.args.self.now.ballots c.args.number ≡ None)
    (λ bytes. (b : Ballot) × (ballot_of c.args.self.now.ballots c.args.number ≡ Some b) × IsCellOf c.args.self.now.election bytes.now b))
    (sym c.from_residual.ensures)
    (ap (λ (store : Contents). ballot_of store.ballots c.args.number) (sym c.self.view_is) ∙ none)

-- a cell in which a number stands
stands_within : (a : Inside) (cell number : ℕ) → IsKept a → number ≢ 0 → get_or a.cells cell 0 ≡ number → cell < cell_count a.election.value
stands_within a cell number kept some there =
    let within = place_within a.cells cell (λ z. some (sym there ∙ z)) in
    omega (arith, within, (shown_layout a.election.value (contents_of a).ballots a.image.items a.cells kept.shown).size)

pub cell-requires : goal.cell-requires
cell-requires c =
    let a = c.self.inside in
    let found = c.in_ok-cell.ensures in
    subst (λ (store : Contents). c.in_ok-cell.cell < cell_count store.election) c.self.view_is
    (stands_within a c.in_ok-cell.cell c.args.number c.self.invariant found.0 (ap (λ cells. get_or cells c.in_ok-cell.cell 0) (sym c.numbers.ensures.value) ∙ found.1))

pub returns : goal.returns
returns c =
    let a = c.self.inside in
    let own = contents_of a in
    let shown = c.self.invariant.shown in
    let cell = c.in_ok-cell.cell in
    let found = c.in_ok-cell.ensures in
    let there : get_or a.cells cell 0 ≡ c.args.number = ap (λ cells. get_or cells cell 0) (sym c.numbers.ensures.value) ∙ found.1 in
    let within = stands_within a cell c.args.number c.self.invariant found.0 there in
    let spelled = cell_spelled own.election own.ballots a.image.items a.cells cell shown within (λ z. found.0 (sym there ∙ z)) in
    let held = ap (λ (store : Contents). ballot_of store.ballots c.args.number) (sym c.self.view_is) ∙ ap (ballot_of own.ballots) (sym there) ∙ sym spelled in
    let laid = ap (λ (store : Contents). get_or (cells_of store.election store.ballots) cell 0) (sym c.self.view_is) ∙ ap (λ cells. get_or cells cell 0) (sym shown.cells) ∙ there in
    (_, held, c.cell.ensures.held _ (ap (ballot_of c.args.self.now.ballots) laid ∙ held))
