use Rattle.std.proofs.Common.{length, ap, ◌∙◌, arith}
use Rattle.store_spec.proofs.Common.{IfOk-weaker, ascending, numbers_in, numbers_of}
use Rattle.body_store.proofs.Closed.in_order.Goals as goal
use Rattle.body_store.proofs.Keeping.{few_cells, shown_layout, shown_numbers}
use Rattle.body_store.specs.Contents.{Contents}
use Rattle.body_store.specs.Kept.{contents_of}

pub in_order-requires : goal.in_order-requires
in_order-requires c =
    let a = c.self.inside in
    let own = contents_of a in
    omega (arith, ap length c.numbers.ensures.value, (shown_layout own.election own.ballots a.image.items a.cells c.self.invariant.shown).size, few_cells own.election c.self.invariant.shown.election)

pub returns-clause-numbers : goal.returns-clause-numbers
returns-clause-numbers c =
    let a = c.self.inside in
    let own = contents_of a in
    IfOk-weaker c.in_order.result _ _
    (λ places is.
    is ∙ ap (λ cells. ascending (numbers_in cells)) c.numbers.ensures.value
    ∙ shown_numbers own.election own.ballots a.image.items a.cells c.self.invariant.stored.set.ascending c.self.invariant.shown
    ∙ ap (λ (store : Contents). numbers_of store.ballots) c.self.view_is)
    c.in_order.ensures.numbers
