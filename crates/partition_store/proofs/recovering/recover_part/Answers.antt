use Rattle.std.proofs.Common.{inr, sym, subst, ◌∙◌}
use Rattle.store_spec.proofs.Common.{disk_model}
use Rattle.partition_store.proofs.Recoveries.{keeps_set, medium_now, recovered, refuses_recovery, spared}
use Rattle.partition_store.proofs.Seeking.{belongs, foreign_in, none_of}
use Rattle.partition_store.proofs.recovering.recover_part.Goals as goal
use Rattle.partition_store.specs.Foreign.{IsForeignIn}
use Rattle.partition_store.specs.Recovering.{RefusesRecovery}

pub returns-then-is_some-clause-refused : goal.returns-then-is_some-clause-refused
returns-then-is_some-clause-refused g c =
    let model = disk_model g.D.Disk.seen g.D.Disk.calls g.D.Disk.may_leave g.D.Disk.faults in
    keeps_set model c.args.election.now c.args.disk.now c.recover.new.disk c.in-Ok.store.ballots c.in-Ok.ensures.held c.in-Ok.ensures.medium (c.in-Ok.ensures.calls.fault.steady (λ failed. cc))

pub returns-in-Err-clause-refused : goal.returns-in-Err-clause-refused
returns-in-Err-clause-refused g c =
    let model = disk_model g.D.Disk.seen g.D.Disk.calls g.D.Disk.may_leave g.D.Disk.faults in
    let e = c.args.election.now in
    let old = c.args.disk.now in
    let new = c.recover.new.disk in
    let why = c.in-Err.why in
    subst (RefusesRecovery model e c.args.index old new) (sym c.recovery_fault.ensures)
    (refuses_recovery model e old new c.recover.result c.args.index why c.in-Err.is g.met.D.Disk.seen_is_crash_image c.recover.ensures.calls.told c.in-Err.ensures.unchanged
    (spared model e old new why c.in-Err.ensures.unharmed) c.recover.ensures.calls.fault)

pub returns-in-Err-clause-run : goal.returns-in-Err-clause-run
returns-in-Err-clause-run g c =
    let model = disk_model g.D.Disk.seen g.D.Disk.calls g.D.Disk.may_leave g.D.Disk.faults in
    record {
      told = c.recover.ensures.calls.told;
      later = c.recover.ensures.calls.later;
      throughout = spared model c.args.election.now c.args.disk.now c.recover.new.disk c.in-Err.why c.in-Err.ensures.unharmed;
      once_synced = λ bytes sees. inr (c.recover.ensures.any_moment bytes sees);
    }

pub returns-then-is_some-clause-run : goal.returns-then-is_some-clause-run
returns-then-is_some-clause-run g c =
    let model = disk_model g.D.Disk.seen g.D.Disk.calls g.D.Disk.may_leave g.D.Disk.faults in
    record {
      told = c.recover.ensures.calls.told;
      later = c.recover.ensures.calls.later;
      throughout = recovered model c.args.election.now c.args.disk.now c.recover.new.disk c.in-Ok.store.ballots c.in-Ok.ensures.held c.recover.ensures.any_moment;
      once_synced = λ bytes sees. inr (c.recover.ensures.any_moment bytes sees);
    }

pub returns-clause-run : goal.returns-clause-run
returns-clause-run g c =
    let model = disk_model g.D.Disk.seen g.D.Disk.calls g.D.Disk.may_leave g.D.Disk.faults in
    record {
      told = c.recover.ensures.calls.told;
      later = c.recover.ensures.calls.later;
      throughout = recovered model c.args.election.now c.args.disk.now c.recover.new.disk c.in-Ok.store.ballots c.in-Ok.ensures.held c.recover.ensures.any_moment;
      once_synced = λ bytes sees. inr (c.recover.ensures.any_moment bytes sees);
    }

pub returns-clause-recovered : goal.returns-clause-recovered
returns-clause-recovered g c =
    let model = disk_model g.D.Disk.seen g.D.Disk.calls g.D.Disk.may_leave g.D.Disk.faults in
    let set = c.in-Ok.store.ballots in
    record {
      held = c.in-Ok.ensures.held;
      medium = medium_now model c.args.election.now c.args.disk.now c.recover.new.disk set c.in-Ok.ensures.medium c.in-Ok.ensures.settled;
      no_fault = c.in-Ok.ensures.calls.fault.steady (λ failed. cc);
    }

pub returns-clause-own : goal.returns-clause-own
returns-clause-own g c =
    let set = c.in-Ok.store.ballots in
    let found = foreign_in c.in-Ok.store.election c.args.bits c.args.index set c.cells.result.now c.least_foreign.result c.cells.ensures.layout.exactly c.cells.ensures.stored.set.valid c.least_foreign.ensures in
    belongs c.args.bits c.args.index set (subst (IsForeignIn c.args.bits c.args.index set) (none_of c.least_foreign.result (sym c.is_some.ensures ∙ c.if-is_some.false)) found)
