use Rattle.std.proofs.Common.{[], inl, ◌∙◌}
use Rattle.crash_disk.proofs.Moments.{synced_first}
use Rattle.checkpoint.proofs.Starting.{run_looking}
use Rattle.checkpoint.proofs.fresh.find_unused.Goals as goal
use Rattle.checkpoint.specs.Unused.{IsUntouchedOrNew}

pub returns-clause-any_moment : goal.returns-clause-any_moment
returns-clause-any_moment g c bytes sees =
    let e = c.args.election.now in
    inl (synced_first g.D.Disk.calls g.D.Disk.may_leave c.args.disk.now c.settle.new.disk c.look.new.disk (IsUntouchedOrNew e bytes) c.settle.ensures.crash_images
    (run_looking g.D.Disk.calls g.D.Disk.may_leave e [] bytes c.settle.new.disk c.look.new.disk (c.look.ensures.any_moment bytes (c.in_ok-settle.ensures.same_bytes ∙ sees))))
