use Rattle.merge_media.proofs.merging.join.Goals as goal

pub returns-clause-joined : goal.returns-clause-joined
returns-clause-joined g c = (c.in-Ok.store.ballots, c.in-Ok.ensures.held, c.in_ok-add.ensures.joined)
