use Rattle.std.proofs.Common.{length, ap, ◌∙◌}
use Rattle.store_spec.proofs.Common.{bank_size}
use Rattle.body_store.proofs.Closed.image.Goals as goal
use Rattle.body_store.proofs.Keeping.{shown_size}
use Rattle.body_store.specs.Contents.{Contents}
use Rattle.body_store.specs.Kept.{contents_of}

pub returns-clause-whole : goal.returns-clause-whole
returns-clause-whole c =
    let a = c.self.inside in
    let own = contents_of a in
    ap length c.deref.ensures.value
    ∙ shown_size own.election own.ballots a.image.items a.cells c.self.invariant.shown
    ∙ ap (λ (store : Contents). bank_size store.election) c.self.view_is
