use Rattle.phase_kind.proofs.Teams.{alone_has, alone_have}
use Rattle.phase_kind.proofs.laws.one_worker_is_a_team.Goals as goal

pub returns : goal.returns
returns g c before after = (alone_has g.K.Kind.rests before after, alone_have g.K.Kind.rests before after)
