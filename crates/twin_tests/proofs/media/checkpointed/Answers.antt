use Rattle.std.proofs.Common.{List, refl, sym, subst}
use Rattle.store_spec.proofs.Common.{Ballot, Election, IsMediumOf}
use Rattle.twin_tests.proofs.media.checkpointed.Goals as goal

pub checkpoint-requires-clause-medium : goal.checkpoint-requires-clause-medium
checkpoint-requires-clause-medium g c bytes is =
    subst (λ (e : Election). (old : List Ballot) × IsMediumOf e bytes old) (sym c.in_ok-closed.ensures.election)
    (c.in_ok-recover.field-0.ballots, c.in_ok-recover.ensures.medium.related _ bytes refl is)
