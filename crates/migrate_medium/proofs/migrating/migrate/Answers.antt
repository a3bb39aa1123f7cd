use Rattle.std.proofs.Common.{refl}
use Rattle.store_spec.proofs.Common.{disk_model}
use Rattle.migrate_medium.proofs.Filled.{refuses_memory, refuses_target, run_filled}
use Rattle.migrate_medium.proofs.migrating.migrate.Goals as goal
use Rattle.migrate_medium.specs.Migrating.{MigrateRefuses}
use Rattle.migrate_medium.specs.declared.fault.MigrateFault.TheVariants.{Memory}
use Rattle.recovery.proofs.OneByOne.{handed_on}

pub returns-in_err-fill-clause-refused : goal.returns-in_err-fill-clause-refused
returns-in_err-fill-clause-refused g c =
    refuses_target (disk_model g.A.Disk.seen g.A.Disk.calls g.A.Disk.may_leave g.A.Disk.faults) (disk_model g.B.Disk.seen g.B.Disk.calls g.B.Disk.may_leave g.B.Disk.faults)
    c.args.election.now c.in-Some.form c.in-Some.ensures.same c.args.from.now c.in_ok-old.old.ballots c.in_ok-old.ensures.held c.old_store.new.from c.args.to.now c.fill.new.disk
    (c.in-Some.ensures.some.0 refl) c.from_residual-in_err-fill.result c.in_err-fill.field-0.0 c.from_residual-in_err-fill.ensures.1 c.in_err-fill.ensures.refused c.in_err-fill.ensures.calls.fault.rose

pub returns-in_err-fill-clause-any_moment : goal.returns-in_err-fill-clause-any_moment
returns-in_err-fill-clause-any_moment g c bytes sees =
    run_filled (disk_model g.A.Disk.seen g.A.Disk.calls g.A.Disk.may_leave g.A.Disk.faults) (disk_model g.B.Disk.seen g.B.Disk.calls g.B.Disk.may_leave g.B.Disk.faults)
    c.args.election.now c.in-Some.form c.in-Some.ensures.same c.args.from.now c.in_ok-old.old.ballots c.in_ok-old.ensures.held c.in_ok-store.store.ballots c.in_ok-store.ensures.same
    bytes c.args.to.now c.fill.new.disk (c.fill.ensures.any_moment bytes sees)

pub returns-clause-any_moment : goal.returns-clause-any_moment
returns-clause-any_moment g c bytes sees =
    run_filled (disk_model g.A.Disk.seen g.A.Disk.calls g.A.Disk.may_leave g.A.Disk.faults) (disk_model g.B.Disk.seen g.B.Disk.calls g.B.Disk.may_leave g.B.Disk.faults)
    c.args.election.now c.in-Some.form c.in-Some.ensures.same c.args.from.now c.in_ok-old.old.ballots c.in_ok-old.ensures.held c.in_ok-store.store.ballots c.in_ok-store.ensures.same
    bytes c.args.to.now c.fill.new.disk (c.fill.ensures.any_moment bytes sees)

pub returns-in_err-store-clause-refused : goal.returns-in_err-store-clause-refused
returns-in_err-store-clause-refused g c =
    let old = disk_model g.A.Disk.seen g.A.Disk.calls g.A.Disk.may_leave g.A.Disk.faults in
    let target = disk_model g.B.Disk.seen g.B.Disk.calls g.B.Disk.may_leave g.B.Disk.faults in
    let e = c.args.election.now in
    handed_on c.from_residual-in_err-store.result (MigrateRefuses old target e c.args.from.now c.old_store.new.from c.args.to.now c.args.to.now) Memory c.from_residual-in_err-store.ensures.1
    (refuses_memory old target e c.in-Some.form c.in-Some.ensures.same c.args.from.now c.in_ok-old.old.ballots c.in_ok-old.ensures.held c.old_store.new.from c.args.to.now c.args.to.now (c.in-Some.ensures.some.0 refl))
