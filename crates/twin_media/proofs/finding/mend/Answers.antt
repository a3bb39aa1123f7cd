use Rattle.recovery.proofs.Paging.{shown_image}
use Rattle.twin_media.proofs.finding.mend.Goals as goal

pub returns-clause-any_moment : goal.returns-clause-any_moment
returns-clause-any_moment g c bytes sees =
    c.make_canonical.ensures.any_moment bytes c.args.held.now.store.ballots sees (shown_image c.args.election.now c.args.held.now.store c.image-made.result.now c.requires.store.0 c.requires.store.1 c.image-made.ensures.image)
