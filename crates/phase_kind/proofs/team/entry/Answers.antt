use Rattle.std.proofs.Common.{get_or}
use Rattle.store_spec.proofs.Common.{slice_get-get_or}
use Rattle.phase_kind.proofs.Teams.{next_within}
use Rattle.phase_kind.proofs.team.entry.Goals as goal

pub returns-clause-within : goal.returns-clause-within
returns-clause-within c =
    let order = c.args.order.now in
    next_within order c.args.places c.args.index (get_or order c.args.index 0) c.requires.within (slice_get-get_or order c.args.index 0 c.requires.there)
