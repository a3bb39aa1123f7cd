use Rattle.std.proofs.Common.{sym, ◌∙◌, inl, subst}
use Rattle.store_spec.proofs.Common.{IsMediumOf, IsUnused}
use Rattle.outside_io.proofs.Told.{told_holds}
use Rattle.outside_io.specs.Told.{IfTold}
use Rattle.crash_disk.proofs.Moments.{synced_first}
use Rattle.checkpoint.proofs.Starting.{run_filling, run_looking}
use Rattle.checkpoint.proofs.fresh.fill.Goals as goal
use Rattle.checkpoint.specs.Unused.{IsUntouchedOr}

pub fill_unused-requires-clause-unused : goal.fill_unused-requires-clause-unused
fill_unused-requires-clause-unused g c bytes sees =
    told_holds (IsUnused c.args.election.now) bytes (sym c.look.ensures.same_bytes ∙ sees) c.in_ok-look.ensures.unused

pub returns-in_err-look-clause-any_moment : goal.returns-in_err-look-clause-any_moment
returns-in_err-look-clause-any_moment g c bytes sees =
    let e = c.args.election.now in
    let ballots = c.args.closed.now.ballots in
    inl (synced_first g.D.Disk.calls g.D.Disk.may_leave c.args.disk.now c.settle.new.disk c.look.new.disk (IsUntouchedOr e ballots bytes) c.settle.ensures.crash_images
    (run_looking g.D.Disk.calls g.D.Disk.may_leave e ballots bytes c.settle.new.disk c.look.new.disk (c.look.ensures.any_moment bytes (c.in_ok-settle.ensures.same_bytes ∙ sees))))

pub returns-in_err-fill_unused-clause-any_moment : goal.returns-in_err-fill_unused-clause-any_moment
returns-in_err-fill_unused-clause-any_moment g c bytes sees =
    let e = c.args.election.now in
    let ballots = c.args.closed.now.ballots in
    let synced = c.in_ok-settle.ensures.same_bytes ∙ sees in
    let unused = told_holds (IsUnused e) bytes synced c.in_ok-look.ensures.unused in
    inl (synced_first g.D.Disk.calls g.D.Disk.may_leave c.args.disk.now c.settle.new.disk c.fill_unused.new.disk (IsUntouchedOr e ballots bytes) c.settle.ensures.crash_images
    (run_filling g.D.Disk.calls g.D.Disk.may_leave e ballots bytes c.settle.new.disk c.look.new.disk c.fill_unused.new.disk unused
    (c.look.ensures.any_moment bytes synced) (c.fill_unused.ensures.any_moment bytes (c.look.ensures.same_bytes ∙ synced))))

pub returns-clause-medium : goal.returns-clause-medium
returns-clause-medium g c =
    subst (λ o. IfTold o (g.D.Disk.seen c.fill_unused.new.disk) (λ _ bytes. IsMediumOf c.args.election.now bytes c.args.closed.now.ballots))
    (c.look.ensures.same_bytes ∙ c.in_ok-settle.ensures.same_bytes) c.in_ok-fill_unused.ensures.medium

pub returns-clause-any_moment : goal.returns-clause-any_moment
returns-clause-any_moment g c bytes sees =
    let e = c.args.election.now in
    let ballots = c.args.closed.now.ballots in
    let synced = c.in_ok-settle.ensures.same_bytes ∙ sees in
    let unused = told_holds (IsUnused e) bytes synced c.in_ok-look.ensures.unused in
    inl (synced_first g.D.Disk.calls g.D.Disk.may_leave c.args.disk.now c.settle.new.disk c.fill_unused.new.disk (IsUntouchedOr e ballots bytes) c.settle.ensures.crash_images
    (run_filling g.D.Disk.calls g.D.Disk.may_leave e ballots bytes c.settle.new.disk c.look.new.disk c.fill_unused.new.disk unused
    (c.look.ensures.any_moment bytes synced) (c.fill_unused.ensures.any_moment bytes (c.look.ensures.same_bytes ∙ synced))))
