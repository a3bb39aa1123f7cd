use Rattle.std.proofs.Common.{◌≡◌, ℕ, ◌+◌, List, [], ◌∷◌, sym, subst, ◌∙◌, arith}
use Rattle.store_spec.proofs.Common.{Ballot, Election, IsCellOf, cells_of}
use Rattle.body_store.specs.Contents.{Contents, IsStored}
use Rattle.tally_export.proofs.Adding.{ballots_added, few_counts}
use Rattle.tally_export.proofs.Ranges.{AreCells, ballot_there, cell_count_is, few_in, next_in, none_in, past_empty_in}
use Rattle.tally_export.specs.Counted.{AddsBallots, IsTallyOf}
use Rattle.tally_export.specs.Ranges.{ballots_in}
use Rattle.tally_export.proofs.contests.tally_cells.Goals as goal

are : (store : Contents) (cells : List ℕ) → IsStored store → cells ≡ cells_of store.election store.ballots → AreCells store cells
are store cells stored same = record { stored = stored; same = same }

pub past_empty-cell-requires : goal.past_empty-cell-requires
past_empty-cell-requires c =
    let store = c.args.closed.now in
    let cells = c.cells-cells.result.now in
    let count = cell_count_is store cells (are store cells c.cells-cells.ensures.stored c.cells-cells.ensures.cells) in
    (c.requires.0, omega (arith, count, c.requires.1))

pub cells-init : goal.cells-init
cells-init c =
    let store = c.args.closed.now in
    let e = store.election in
    let from = c.args.from in
    let cells = c.cells-cells.result.now in
    let known = are store cells c.cells-cells.ensures.stored c.cells-cells.ensures.cells in
    let past = c.past_empty-cell in
    let nothing : ballots_in store from past.result ≡ [] =
    past_empty_in store cells from from past.result known (omega arith) past.ensures.onward.0
    (omega (arith, past.ensures.onward.1, c.requires.1, cell_count_is store cells known)) past.ensures.empty
    ∙ none_in store from in
    record {
      onward = past.ensures.onward.0;
      within = past.ensures.onward.1;
      some = past.ensures.some;
      counted = subst (λ (bs : List Ballot). IsTallyOf e bs c.of_none-all.result) (sym nothing) (c.of_none-all.ensures e);
    }

pub add_ballot-requires-clause-held : goal.add_ballot-requires-clause-held
add_ballot-requires-clause-held c =
    let store = c.args.closed.now in
    let cells = c.cells-cells.result.now in
    let known = are store cells c.cells-cells.ensures.stored c.cells-cells.ensures.cells in
    let there = ballot_there store cells c.cells.cell known (c.cells.invariant.some c.cells-test.true) in
    (there.0, subst (λ (e : Election). IsCellOf e c.cell.result.now there.0) (sym c.election-election.ensures.election) (c.cell.ensures.held there.0 there.1))

pub add_ballot-requires-clause-room : goal.add_ballot-requires-clause-room
add_ballot-requires-clause-room c =
    let store = c.args.closed.now in
    let stored = c.election-election.ensures.stored in
    few_counts store.election (ballots_in store c.args.from c.cells.cell) c.cells.all stored.election
    (few_in store c.args.from c.cells.cell stored) c.cells.invariant.counted

pub cells-preserved : goal.cells-preserved
cells-preserved c =
    let store = c.args.closed.now in
    let e = store.election in
    let own = c.election-election.result.now in
    let from = c.args.from in
    let cell = c.cells.cell in
    let cells = c.cells-cells.result.now in
    let known = are store cells c.cells-cells.ensures.stored c.cells-cells.ensures.cells in
    let count = cell_count_is store cells known in
    let so_far = c.cells.invariant in
    let past = c.past_empty-cell-in-cells in
    let all = c.add_ballot.new.all in
    let there = ballot_there store cells cell known (so_far.some c.cells-test.true) in
    let b = there.0 in
    let held = c.cell.ensures.held b there.1 in
    let same = c.election-election.ensures.election in
    let added = subst (λ (e : Election). AddsBallots e (b ∷ []) c.cells.all all) same
    (c.add_ballot.ensures b (subst (λ (e : Election). IsCellOf e c.cell.result.now b) (sym same) held)) in
    let more : ballots_in store from past.result ≡ ballots_in store from (cell + 1) =
    past_empty_in store cells from (cell + 1) past.result known (omega (arith, so_far.onward)) past.ensures.onward.0
    (omega (arith, past.ensures.onward.1, c.requires.1, count)) past.ensures.empty in
    let next = next_in store cells from cell b known so_far.onward (omega (arith, count, c.requires.1, c.cells-test.true)) there.1 in
    record {
      onward = omega (arith, so_far.onward, past.ensures.onward.0);
      within = past.ensures.onward.1;
      some = past.ensures.some;
      counted = subst (λ (bs : List Ballot). IsTallyOf e bs all) (sym (more ∙ next))
          (ballots_added e (ballots_in store from cell) (b ∷ []) c.cells.all all so_far.counted added);
    }
