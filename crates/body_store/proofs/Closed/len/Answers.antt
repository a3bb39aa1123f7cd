use Rattle.std.proofs.Common.{length, ap, ◌∙◌}
use Rattle.body_store.proofs.Closed.len.Goals as goal
use Rattle.body_store.proofs.Keeping.{shown_count}
use Rattle.body_store.specs.Contents.{Contents}
use Rattle.body_store.specs.Kept.{contents_of}

pub returns-clause-count : goal.returns-clause-count
returns-clause-count c =
    let a = c.self.inside in
    let own = contents_of a in
    c.self.invariant.counted
    ∙ shown_count own.election own.ballots a.image.items a.cells c.self.invariant.shown
    ∙ ap (λ (store : Contents). length store.ballots) c.self.view_is
