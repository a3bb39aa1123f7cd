use Rattle.std.proofs.Common.{ap, subst, List}
use Rattle.store_spec.proofs.Common.{Ballot, IsMediumOf}
use Rattle.body_store.specs.Contents.{Contents}
use Rattle.checkpoint.proofs.fresh.init.Goals as goal
use Rattle.outside_io.specs.Told.{IfTold}

pub returns-in_ok-fill-in-Ok-clause-medium : goal.returns-in_ok-fill-in-Ok-clause-medium
returns-in_ok-fill-in-Ok-clause-medium g c =
    subst (λ (set : List Ballot). IfTold (g.D.Disk.seen c.args.disk.now) (g.D.Disk.seen c.fill.new.disk) (λ _ bytes. IsMediumOf c.args.election.now bytes set))
    (ap (λ (store : Contents). store.ballots) c.in-Ok.ensures) c.in_ok-fill-in-Ok.ensures.medium
