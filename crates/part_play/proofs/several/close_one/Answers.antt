use Rattle.std.proofs.Common.{Global, Vec, map}
use Rattle.part_play.proofs.Stages.{next_ended}
use Rattle.part_play.proofs.several.close_one.Goals as goal

pub returns : goal.returns
returns g c phases columns same so_far =
    let F = g.row.K-Final.Denot in
    let ended = c.in-Ok.ended in
    let e = c.in-Ok.ensures in
    next_ended g.K.Kind.closes (λ (finals : Vec (Vec F Global) Global). map (λ (list : Vec F Global). list.items) finals.items) phases c.args.phase columns c.args.workers.items c.args.stores.now.items _ c.args.told.now.items _ ended.0 ended.1
    so_far same c.in_ok-push_both.ensures.first c.in_ok-push_both.ensures.second (record { election = e.election; stored = e.stored; told = e.closes })
