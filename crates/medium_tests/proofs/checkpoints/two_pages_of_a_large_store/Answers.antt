use Rattle.std.proofs.Common.{List, [], refl, sym, subst}
use Rattle.store_spec.proofs.Common.{Ballot, Election, IsMediumOf}
use Rattle.medium_tests.proofs.checkpoints.two_pages_of_a_large_store.Goals as goal

pub checkpoint-requires-clause-medium : goal.checkpoint-requires-clause-medium
checkpoint-requires-clause-medium g c bytes is =
    subst (λ (e : Election). (old : List Ballot) × IsMediumOf e bytes old) (sym c.in_ok-closed.ensures)
    ([], c.in_ok-init.ensures.medium.related c.in_ok-disk.disk.recording.bytes.items bytes refl is)

pub checkpoint-requires-2-clause-medium : goal.checkpoint-requires-2-clause-medium
checkpoint-requires-2-clause-medium g c bytes is =
    (c.in_ok-closed.closed.ballots, c.in_ok-checkpoint.ensures.medium.related c.init.new.disk.recording.bytes.items bytes refl is)
