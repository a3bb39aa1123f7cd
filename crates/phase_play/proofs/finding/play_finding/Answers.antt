use Rattle.std.proofs.Common.{map}
use Rattle.phase_play.proofs.Playing.{plays_finding}
use Rattle.phase_play.proofs.finding.play_finding.Goals as goal

pub returns : goal.returns
returns g c =
    plays_finding c.args.closed.now.ballots (map (λ list. list.items) c.args.work.now)
    (map (λ list. list.items) c.in_ok-found.found.items) c.in_ok-found.ensures
