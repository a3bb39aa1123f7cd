use Rattle.std.proofs.Common.{ℕ, List, subst, sym}
use Rattle.store_spec.proofs.Common.{IsLayout, cell_count, home_in, numbers_of}
use Rattle.body_store.proofs.Closed.cells.Goals as goal
use Rattle.body_store.proofs.Keeping.{shown_layout}
use Rattle.body_store.specs.Contents.{Contents}
use Rattle.body_store.specs.Kept.{contents_of}

abbrev HasLayout : Contents → List ℕ → Type 0
HasLayout store cells = IsLayout (home_in store.election) (cell_count store.election) (numbers_of store.ballots) cells

pub returns-clause-layout : goal.returns-clause-layout
returns-clause-layout c =
    let a = c.self.inside in
    let own = contents_of a in
    subst (λ (store : Contents). HasLayout store c.numbers.result.now) c.self.view_is
    (subst (λ (cells : List ℕ). HasLayout own cells) (sym c.numbers.ensures.value)
    (shown_layout own.election own.ballots a.image.items a.cells c.self.invariant.shown))
