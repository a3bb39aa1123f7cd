use Rattle.std.proofs.Common.{◌≡◌, ◌<◌, ◌≤◌, ap, arith}
use Rattle.store_spec.proofs.Common.{IfErr-weaker, IfOk-weaker, disk_model, last_count, on_ok_weaker}
use Rattle.std.specs.Option.{is_some}
use Rattle.partition_store.proofs.Opened.{Runs, against_behind, all_run_behind, left_behind, left_looked, only_looked, opened_behind, runs_behind, runs_looked, written_behind, written_looked}
use Rattle.partition_store.proofs.store.PartStore.open.Goals as goal
use Rattle.partition_store.specs.Opening.{HoldsThroughout, IsAgainst, IsOpened, LeavesOf, WritesBehindLooks}
use Rattle.partition_store.specs.Recovering.{RefusesAll}
use Rattle.partition_store.proofs.SideBySide.{zip_joined, zip_weaker}
use Rattle.recovery.proofs.OneByOne.{handed_on}
use Rattle.recovery.specs.ReadsOnly.{WritesNothing}

pub returns-in_err-look_all-clause-left : goal.returns-in_err-look_all-clause-left
returns-in_err-look_all-clause-left g c =
    let first = disk_model g.A.Disk.seen g.A.Disk.calls g.A.Disk.may_leave g.A.Disk.faults in
    let further = disk_model g.B.Disk.seen g.B.Disk.calls g.B.Disk.may_leave g.B.Disk.faults in
    let e = c.args.election.now in
    let one = c.args.disk.now in
    let more = c.args.more.now in
    let fault = c.in_err-look_all.field-0.0 in
    handed_on c.from_residual.result (LeavesOf first further e one c.look_all.new.disk more c.look_all.new.more) fault c.from_residual.ensures.1
    (left_looked first further e one c.look_all.new.disk more c.look_all.new.more fault g.met.A.Disk.seen_is_crash_image g.met.B.Disk.seen_is_crash_image
    c.look_all.ensures.reads c.look_all.ensures.others_read c.in_err-look_all.ensures.refused)

pub returns-in_err-look_all-clause-unwritten : goal.returns-in_err-look_all-clause-unwritten
returns-in_err-look_all-clause-unwritten g c =
    let first = disk_model g.A.Disk.seen g.A.Disk.calls g.A.Disk.may_leave g.A.Disk.faults in
    let further = disk_model g.B.Disk.seen g.B.Disk.calls g.B.Disk.may_leave g.B.Disk.faults in
    let e = c.args.election.now in
    let one = c.args.disk.now in
    let more = c.args.more.now in
    let fault = c.in_err-look_all.field-0.0 in
    handed_on c.from_residual.result (WritesBehindLooks first further e one c.look_all.new.disk more c.look_all.new.more) fault c.from_residual.ensures.1
    (written_looked first further e one c.look_all.new.disk more c.look_all.new.more (c.look_all.ensures.reads, c.look_all.ensures.others_read) fault)

pub returns-in_err-look_all-clause-others_at_any_moment : goal.returns-in_err-look_all-clause-others_at_any_moment
returns-in_err-look_all-clause-others_at_any_moment g c =
    let further = disk_model g.B.Disk.seen g.B.Disk.calls g.B.Disk.may_leave g.B.Disk.faults in
    let e = c.args.election.now in
    zip_weaker (Runs further e) (HoldsThroughout further e) (λ x y run. run.throughout) c.args.more.now c.look_all.new.more
    (runs_looked further e c.args.more.now c.look_all.new.more c.look_all.ensures.others_read)

pub returns-in_err-look_all-clause-others_told : goal.returns-in_err-look_all-clause-others_told
returns-in_err-look_all-clause-others_told g c =
    zip_weaker (WritesNothing g.B.Disk.seen g.B.Disk.calls g.B.Disk.may_leave) (λ old new. is_some (g.B.Disk.seen new) ≡ is_some (g.B.Disk.seen old)) (λ x y reads. ap is_some reads.same_bytes)
    c.args.more.now c.look_all.new.more c.look_all.ensures.others_read

pub returns-in_err-look_all-clause-looked : goal.returns-in_err-look_all-clause-looked
returns-in_err-look_all-clause-looked g c =
    let first = disk_model g.A.Disk.seen g.A.Disk.calls g.A.Disk.may_leave g.A.Disk.faults in
    let further = disk_model g.B.Disk.seen g.B.Disk.calls g.B.Disk.may_leave g.B.Disk.faults in
    only_looked first further c.args.election.now c.from_residual.result (λ f. f ≡ c.in_err-look_all.field-0.0) c.args.disk.now c.look_all.new.disk c.args.more.now c.look_all.new.more c.from_residual.ensures.1 c.look_all.ensures.reads c.look_all.ensures.others_read

pub returns-clause-looked : goal.returns-clause-looked
returns-clause-looked g c = record {
  looked = (c.look_all.new.disk, c.look_all.new.more);
  reads = c.look_all.ensures.reads;
  others_read = c.look_all.ensures.others_read;
  steady = λ same. c.in_ok-look_all.ensures.steady;
  others_steady = λ same. c.in_ok-look_all.ensures.others_steady;
  recovers = c.recover_all.ensures.run;
  others_recover = c.recover_all.ensures.others_run;
  called = c.recover_all.ensures.called;
  others_called = c.recover_all.ensures.others_called;
}

pub returns-clause-opened : goal.returns-clause-opened
returns-clause-opened g c =
    let first = disk_model g.A.Disk.seen g.A.Disk.calls g.A.Disk.may_leave g.A.Disk.faults in
    let further = disk_model g.B.Disk.seen g.B.Disk.calls g.B.Disk.may_leave g.B.Disk.faults in
    let e = c.args.election.now in
    let one = c.args.disk.now in
    let more = c.args.more.now in
    IfOk-weaker c.recover_all.result (IsOpened first further e c.look_all.new.disk c.recover_all.new.disk c.look_all.new.more c.recover_all.new.more)
    (IsOpened first further e one c.recover_all.new.disk more c.recover_all.new.more)
    (opened_behind first further e one c.look_all.new.disk c.recover_all.new.disk more c.look_all.new.more c.recover_all.new.more c.look_all.ensures.reads c.in_ok-look_all.ensures.steady c.look_all.ensures.others_read c.in_ok-look_all.ensures.others_steady)
    c.recover_all.ensures.opened

pub returns-clause-refused : goal.returns-clause-refused
returns-clause-refused g c =
    let first = disk_model g.A.Disk.seen g.A.Disk.calls g.A.Disk.may_leave g.A.Disk.faults in
    let further = disk_model g.B.Disk.seen g.B.Disk.calls g.B.Disk.may_leave g.B.Disk.faults in
    let e = c.args.election.now in
    let one = c.args.disk.now in
    let more = c.args.more.now in
    IfErr-weaker c.recover_all.result (RefusesAll first further e c.look_all.new.disk c.recover_all.new.disk c.look_all.new.more c.recover_all.new.more)
    (IsAgainst first further e one c.recover_all.new.disk more c.recover_all.new.more)
    (against_behind first further e one c.look_all.new.disk c.recover_all.new.disk more c.look_all.new.more c.recover_all.new.more c.look_all.ensures.reads c.in_ok-look_all.ensures.steady c.look_all.ensures.others_read c.in_ok-look_all.ensures.others_steady
    c.in_ok-look_all.ensures.held)
    c.recover_all.ensures.refused

pub returns-clause-left : goal.returns-clause-left
returns-clause-left g c =
    let first = disk_model g.A.Disk.seen g.A.Disk.calls g.A.Disk.may_leave g.A.Disk.faults in
    let further = disk_model g.B.Disk.seen g.B.Disk.calls g.B.Disk.may_leave g.B.Disk.faults in
    let e = c.args.election.now in
    let one = c.args.disk.now in
    let more = c.args.more.now in
    IfErr-weaker c.recover_all.result (RefusesAll first further e c.look_all.new.disk c.recover_all.new.disk c.look_all.new.more c.recover_all.new.more)
    (LeavesOf first further e one c.recover_all.new.disk more c.recover_all.new.more)
    (left_behind first further e one c.look_all.new.disk c.recover_all.new.disk more c.look_all.new.more c.recover_all.new.more c.look_all.ensures.reads c.in_ok-look_all.ensures.steady c.look_all.ensures.others_read c.in_ok-look_all.ensures.others_steady)
    c.recover_all.ensures.refused

pub returns-clause-unwritten : goal.returns-clause-unwritten
returns-clause-unwritten g c =
    let first = disk_model g.A.Disk.seen g.A.Disk.calls g.A.Disk.may_leave g.A.Disk.faults in
    let further = disk_model g.B.Disk.seen g.B.Disk.calls g.B.Disk.may_leave g.B.Disk.faults in
    let e = c.args.election.now in
    let one = c.args.disk.now in
    let more = c.args.more.now in
    IfErr-weaker c.recover_all.result (RefusesAll first further e c.look_all.new.disk c.recover_all.new.disk c.look_all.new.more c.recover_all.new.more)
    (WritesBehindLooks first further e one c.recover_all.new.disk more c.recover_all.new.more)
    (written_behind first further e one c.look_all.new.disk c.recover_all.new.disk more c.look_all.new.more c.recover_all.new.more c.look_all.ensures.reads c.in_ok-look_all.ensures.steady c.look_all.ensures.others_read c.in_ok-look_all.ensures.others_steady
    c.in_ok-look_all.ensures.held)
    c.recover_all.ensures.refused

pub returns-clause-any_moment : goal.returns-clause-any_moment
returns-clause-any_moment g c =
    let first = disk_model g.A.Disk.seen g.A.Disk.calls g.A.Disk.may_leave g.A.Disk.faults in
    let further = disk_model g.B.Disk.seen g.B.Disk.calls g.B.Disk.may_leave g.B.Disk.faults in
    let e = c.args.election.now in
    let one = c.args.disk.now in
    let more = c.args.more.now in
    (runs_behind first e one c.look_all.new.disk c.recover_all.new.disk c.look_all.ensures.reads c.recover_all.ensures.run).throughout

pub returns-clause-others_at_any_moment : goal.returns-clause-others_at_any_moment
returns-clause-others_at_any_moment g c =
    let first = disk_model g.A.Disk.seen g.A.Disk.calls g.A.Disk.may_leave g.A.Disk.faults in
    let further = disk_model g.B.Disk.seen g.B.Disk.calls g.B.Disk.may_leave g.B.Disk.faults in
    let e = c.args.election.now in
    let one = c.args.disk.now in
    let more = c.args.more.now in
    zip_weaker (Runs further e) (HoldsThroughout further e) (λ x y run. run.throughout) more c.recover_all.new.more
    (all_run_behind further e more c.look_all.new.more c.recover_all.new.more c.look_all.ensures.others_read c.recover_all.ensures.others_run)

pub returns-clause-others_told : goal.returns-clause-others_told
returns-clause-others_told g c =
    let first = disk_model g.A.Disk.seen g.A.Disk.calls g.A.Disk.may_leave g.A.Disk.faults in
    let further = disk_model g.B.Disk.seen g.B.Disk.calls g.B.Disk.may_leave g.B.Disk.faults in
    let e = c.args.election.now in
    let one = c.args.disk.now in
    let more = c.args.more.now in
    zip_weaker (Runs further e) (λ old new. is_some (g.B.Disk.seen new) ≡ is_some (g.B.Disk.seen old)) (λ x y run. run.told) more c.recover_all.new.more
    (all_run_behind further e more c.look_all.new.more c.recover_all.new.more c.look_all.ensures.others_read c.recover_all.ensures.others_run)

pub returns-clause-others_later : goal.returns-clause-others_later
returns-clause-others_later g c =
    let first = disk_model g.A.Disk.seen g.A.Disk.calls g.A.Disk.may_leave g.A.Disk.faults in
    let further = disk_model g.B.Disk.seen g.B.Disk.calls g.B.Disk.may_leave g.B.Disk.faults in
    let e = c.args.election.now in
    let one = c.args.disk.now in
    let more = c.args.more.now in
    zip_weaker (Runs further e) (λ old new. g.B.Disk.calls old ≤ g.B.Disk.calls new) (λ x y run. run.later) more c.recover_all.new.more
    (all_run_behind further e more c.look_all.new.more c.recover_all.new.more c.look_all.ensures.others_read c.recover_all.ensures.others_run)

pub returns-clause-others_called : goal.returns-clause-others_called
returns-clause-others_called g c =
    let R : g.row.B.Denot → g.row.B.Denot → Type 0 = λ old new. g.B.Disk.calls new < last_count → g.B.Disk.calls old < g.B.Disk.calls new in
    on_ok_weaker c.recover_all.result
    (zip_joined (λ old new. g.B.Disk.calls old ≤ g.B.Disk.calls new) R R (λ x y z le called lt. let more = called lt in omega (arith, le)) c.args.more.now c.look_all.new.more c.recover_all.new.more c.look_all.ensures.others_later)
    c.recover_all.ensures.others_called

pub returns-clause-others_lead : goal.returns-clause-others_lead
returns-clause-others_lead g c =
    zip_joined g.B.Disk.leads_to g.B.Disk.leads_to g.B.Disk.leads_to g.met.B.Disk.leads_on c.args.more.now c.look_all.new.more c.recover_all.new.more c.look_all.ensures.others_lead c.recover_all.ensures.others_lead
