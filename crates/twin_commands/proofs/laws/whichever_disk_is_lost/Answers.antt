use Rattle.std.proofs.Common.{inl, inr, ⊎_elim}
use Rattle.store_spec.proofs.Common.{disk_model}
use Rattle.twin_commands.proofs.Again.{brought_back}
use Rattle.twin_commands.proofs.Standing.{stands_at}
use Rattle.twin_commands.proofs.laws.whichever_disk_is_lost.Goals as goal

pub returns : goal.returns
returns g c e ready after set marks acknowledged tried valid some now loses below m low high image left status report start end runs =
    let model = disk_model g.D.Disk.seen g.D.Disk.calls g.D.Disk.may_leave g.D.Disk.faults in
    let one = stands_at model e ready after set marks acknowledged tried valid some now loses below m low high image left in
    ⊎_elim (λ back. inl (one.0, one.1, back)) inr (brought_back model e image one.0 status report start end valid one.2 runs)
