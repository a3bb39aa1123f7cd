use Rattle.std.proofs.Common.{◌∷◌, length, sym, ap, subst, ◌∙◌, arith}
use Rattle.store_spec.proofs.Common.{IsElection, disk_model}
use Rattle.body_store.specs.Contents.{Contents}
use Rattle.merge_media.proofs.Merged.{begun_run, merged_run, refuses_all, refuses_begun, refuses_joining}
use Rattle.merge_media.proofs.Throughout.{begun_throughout, merged_throughout}
use Rattle.merge_media.proofs.merging.merge.Goals as goal
use Rattle.merge_media.specs.Merging.{MergeRefuses}
use Rattle.recovery.proofs.OneByOne.{handed_on, zip_same}
use Rattle.recovery.proofs.OnlyReading.{nothing_called}
use Rattle.recovery.proofs.Recovered.{medium_now, medium_then}
use Rattle.recovery.specs.ReadsOnly.{WritesNothing}

pub returns-in_err-union-clause-any_moment : goal.returns-in_err-union-clause-any_moment
returns-in_err-union-clause-any_moment g c bytes set sees holds =
    begun_run (disk_model g.A.Disk.seen g.A.Disk.calls g.A.Disk.may_leave g.A.Disk.faults) (disk_model g.B.Disk.seen g.B.Disk.calls g.B.Disk.may_leave g.B.Disk.faults)
    c.args.election.now c.args.more.now c.args.disk.now c.begin.new.disk c.begin.new.disk bytes set sees holds (c.begin.ensures.any_moment bytes sees)

pub returns-in_err-union-clause-refused : goal.returns-in_err-union-clause-refused
returns-in_err-union-clause-refused g c =
    let target = disk_model g.A.Disk.seen g.A.Disk.calls g.A.Disk.may_leave g.A.Disk.faults in
    let further = disk_model g.B.Disk.seen g.B.Disk.calls g.B.Disk.may_leave g.B.Disk.faults in
    let e = c.args.election.now in
    handed_on c.from_residual.result (MergeRefuses target further e c.args.disk.now c.begin.new.disk c.args.more.now c.args.more.now) c.in_err-union.field-0.0 c.from_residual.ensures.1
    (refuses_begun target further e c.args.disk.now c.begin.new.disk c.args.more.now c.in_err-union.field-0.0 c.in_err-union.ensures.refused)

pub returns-in_err-join_each-clause-refused : goal.returns-in_err-join_each-clause-refused
returns-in_err-join_each-clause-refused g c =
    let target = disk_model g.A.Disk.seen g.A.Disk.calls g.A.Disk.may_leave g.A.Disk.faults in
    let further = disk_model g.B.Disk.seen g.B.Disk.calls g.B.Disk.may_leave g.B.Disk.faults in
    let e = c.args.election.now in
    let begun = c.in_ok-union.ensures.begun in
    handed_on c.from_residual-in_err-join_each.result (MergeRefuses target further e c.args.disk.now c.begin.new.disk c.args.more.now c.join_each.new.more) c.in_err-join_each.field-0.0 c.from_residual-in_err-join_each.ensures.1
    (refuses_joining target further e c.args.disk.now c.begin.new.disk c.args.more.now c.join_each.new.more begun.0 c.in_err-join_each.field-0.0 begun.1 c.in_err-join_each.ensures.refused)

pub returns-in_err-union-clause-reads : goal.returns-in_err-union-clause-reads
returns-in_err-union-clause-reads g c =
    zip_same (WritesNothing g.B.Disk.seen g.B.Disk.calls g.B.Disk.may_leave) (nothing_called g.B.Disk.seen g.B.Disk.calls g.B.Disk.may_leave) c.args.more.now

pub returns-in_err-union-clause-others_lead : goal.returns-in_err-union-clause-others_lead
returns-in_err-union-clause-others_lead g c = zip_same g.B.Disk.leads_to g.met.B.Disk.leads_to_itself c.args.more.now

pub returns-in_err-join_each-clause-any_moment : goal.returns-in_err-join_each-clause-any_moment
returns-in_err-join_each-clause-any_moment g c bytes set sees holds =
    begun_run (disk_model g.A.Disk.seen g.A.Disk.calls g.A.Disk.may_leave g.A.Disk.faults) (disk_model g.B.Disk.seen g.B.Disk.calls g.B.Disk.may_leave g.B.Disk.faults)
    c.args.election.now c.args.more.now c.args.disk.now c.begin.new.disk c.begin.new.disk bytes set sees holds (c.begin.ensures.any_moment bytes sees)

pub returns-in_err-store-clause-any_moment : goal.returns-in_err-store-clause-any_moment
returns-in_err-store-clause-any_moment g c bytes set sees holds =
    begun_run (disk_model g.A.Disk.seen g.A.Disk.calls g.A.Disk.may_leave g.A.Disk.faults) (disk_model g.B.Disk.seen g.B.Disk.calls g.B.Disk.may_leave g.B.Disk.faults)
    c.args.election.now c.args.more.now c.args.disk.now c.begin.new.disk c.begin.new.disk bytes set sees holds (c.begin.ensures.any_moment bytes sees)

pub returns-in_err-store-clause-refused : goal.returns-in_err-store-clause-refused
returns-in_err-store-clause-refused g c =
    let target = disk_model g.A.Disk.seen g.A.Disk.calls g.A.Disk.may_leave g.A.Disk.faults in
    let further = disk_model g.B.Disk.seen g.B.Disk.calls g.B.Disk.may_leave g.B.Disk.faults in
    let e = c.args.election.now in
    let begun = c.in_ok-union.ensures.begun in
    let joined = c.in_ok-join_each.ensures.joined in
    handed_on c.from_residual-in_err-store.result (MergeRefuses target further e c.args.disk.now c.begin.new.disk c.args.more.now c.join_each.new.more) c.in_err-store.field-0.0 c.from_residual-in_err-store.ensures.1
    (refuses_all target further e c.args.disk.now c.begin.new.disk c.args.more.now c.join_each.new.more begun.0 joined.0 c.in_err-store.field-0.0
    (record { recovered = begun.1; each = joined.1; none_rose = c.in_ok-join_each.ensures.steady }) (c.in_err-store.ensures.refused (begun.0 ∷ joined.0) (joined.2 begun.0 begun.2)))

pub checkpoint-requires-clause-medium : goal.checkpoint-requires-clause-medium
checkpoint-requires-clause-medium g c =
    let begun = c.in_ok-union.ensures.begun in
    medium_now c.args.election.now c.in_ok-store.store.election begun.0 (g.A.Disk.seen c.args.disk.now) (g.A.Disk.seen c.begin.new.disk) c.in_ok-store.ensures.election begun.1.medium

pub returns-in-Ok-clause-merged : goal.returns-in-Ok-clause-merged
returns-in-Ok-clause-merged g c =
    let begun = c.in_ok-union.ensures.begun in
    let joined = c.in_ok-join_each.ensures.joined in
    let store = c.in_ok-store.store in
    record {
      set = begun.0;
      sets = joined.0;
      held = begun.1.held;
      each = joined.1;
      union = store.ballots;
      is = c.in_ok-store.ensures.union (begun.0 ∷ joined.0) (joined.2 begun.0 begun.2);
      count_is = ap length c.in_ok-store.ensures.same ∙ sym c.len.ensures;
      medium = medium_then c.args.election.now store.election begun.0 store.ballots (g.A.Disk.seen c.args.disk.now) (g.A.Disk.seen c.begin.new.disk) (g.A.Disk.seen c.checkpoint.new.disk)
          c.in_ok-store.ensures.election begun.1.medium c.in-Ok.ensures.medium;
      settled = c.in-Ok.ensures.settled;
      no_fault = c.in-Ok.ensures.calls.fault.steady ∙ begun.1.no_fault;
      none_rose = c.in_ok-join_each.ensures.steady;
    }

pub returns-in-Ok-clause-any_moment : goal.returns-in-Ok-clause-any_moment
returns-in-Ok-clause-any_moment g c bytes set sees holds =
    let begun = c.in_ok-union.ensures.begun in
    let joined = c.in_ok-join_each.ensures.joined in
    let own = c.in_ok-store.ensures.election in
    let valid = subst IsElection own (subst (λ (s : Contents). IsElection s.election) c.store.view_is c.store.invariant.stored.election) in
    merged_run (disk_model g.A.Disk.seen g.A.Disk.calls g.A.Disk.may_leave g.A.Disk.faults) (disk_model g.B.Disk.seen g.B.Disk.calls g.B.Disk.may_leave g.B.Disk.faults)
    c.args.election.now c.args.more.now c.args.disk.now c.begin.new.disk c.checkpoint.new.disk bytes set sees holds begun.0 joined.0 c.in_ok-store.store valid own begun.1 joined.1
    (c.in_ok-store.ensures.union (begun.0 ∷ joined.0) (joined.2 begun.0 begun.2)) c.begin.ensures.called (c.in_ok-union.ensures.once_synced bytes sees) c.checkpoint.ensures.any_moment

pub returns-clause-any_moment : goal.returns-clause-any_moment
returns-clause-any_moment g c bytes set sees holds =
    let begun = c.in_ok-union.ensures.begun in
    let joined = c.in_ok-join_each.ensures.joined in
    let own = c.in_ok-store.ensures.election in
    let valid = subst IsElection own (subst (λ (s : Contents). IsElection s.election) c.store.view_is c.store.invariant.stored.election) in
    merged_run (disk_model g.A.Disk.seen g.A.Disk.calls g.A.Disk.may_leave g.A.Disk.faults) (disk_model g.B.Disk.seen g.B.Disk.calls g.B.Disk.may_leave g.B.Disk.faults)
    c.args.election.now c.args.more.now c.args.disk.now c.begin.new.disk c.checkpoint.new.disk bytes set sees holds begun.0 joined.0 c.in_ok-store.store valid own begun.1 joined.1
    (c.in_ok-store.ensures.union (begun.0 ∷ joined.0) (joined.2 begun.0 begun.2)) c.begin.ensures.called (c.in_ok-union.ensures.once_synced bytes sees) c.checkpoint.ensures.any_moment

pub returns-clause-refused : goal.returns-clause-refused
returns-clause-refused g c =
    let begun = c.in_ok-union.ensures.begun in
    let joined = c.in_ok-join_each.ensures.joined in (
      λ lt. let more = c.in-Err.ensures.calls.fault.rose lt in omega (arith, c.begin.ensures.never_falls),
      c.in_ok-join_each.ensures.steady,
      (begun.0, joined.0, begun.1.held, joined.1, c.in_ok-store.store.ballots, c.in_ok-store.ensures.union (begun.0 ∷ joined.0) (joined.2 begun.0 begun.2)),
    )

pub returns-in_err-union-clause-throughout : goal.returns-in_err-union-clause-throughout
returns-in_err-union-clause-throughout g c =
    begun_throughout (disk_model g.A.Disk.seen g.A.Disk.calls g.A.Disk.may_leave g.A.Disk.faults) (disk_model g.B.Disk.seen g.B.Disk.calls g.B.Disk.may_leave g.B.Disk.faults)
    c.args.election.now c.args.disk.now c.begin.new.disk c.args.more.now c.begin.ensures.throughout

pub returns-in_err-join_each-clause-throughout : goal.returns-in_err-join_each-clause-throughout
returns-in_err-join_each-clause-throughout g c =
    begun_throughout (disk_model g.A.Disk.seen g.A.Disk.calls g.A.Disk.may_leave g.A.Disk.faults) (disk_model g.B.Disk.seen g.B.Disk.calls g.B.Disk.may_leave g.B.Disk.faults)
    c.args.election.now c.args.disk.now c.begin.new.disk c.args.more.now c.begin.ensures.throughout

pub returns-in_err-store-clause-throughout : goal.returns-in_err-store-clause-throughout
returns-in_err-store-clause-throughout g c =
    begun_throughout (disk_model g.A.Disk.seen g.A.Disk.calls g.A.Disk.may_leave g.A.Disk.faults) (disk_model g.B.Disk.seen g.B.Disk.calls g.B.Disk.may_leave g.B.Disk.faults)
    c.args.election.now c.args.disk.now c.begin.new.disk c.args.more.now c.begin.ensures.throughout

pub returns-in-Ok-clause-throughout : goal.returns-in-Ok-clause-throughout
returns-in-Ok-clause-throughout g c =
    let begun = c.in_ok-union.ensures.begun in
    let joined = c.in_ok-join_each.ensures.joined in
    merged_throughout (disk_model g.A.Disk.seen g.A.Disk.calls g.A.Disk.may_leave g.A.Disk.faults) (disk_model g.B.Disk.seen g.B.Disk.calls g.B.Disk.may_leave g.B.Disk.faults)
    c.args.election.now c.args.disk.now c.begin.new.disk c.args.more.now c.checkpoint.new.disk begun.0 joined.0 c.in_ok-store.store c.in_ok-store.ensures.election begun.1 joined.1
    (c.in_ok-store.ensures.union (begun.0 ∷ joined.0) (joined.2 begun.0 begun.2)) c.begin.ensures.throughout c.checkpoint.ensures.any_moment

pub returns-clause-throughout : goal.returns-clause-throughout
returns-clause-throughout g c =
    let begun = c.in_ok-union.ensures.begun in
    let joined = c.in_ok-join_each.ensures.joined in
    merged_throughout (disk_model g.A.Disk.seen g.A.Disk.calls g.A.Disk.may_leave g.A.Disk.faults) (disk_model g.B.Disk.seen g.B.Disk.calls g.B.Disk.may_leave g.B.Disk.faults)
    c.args.election.now c.args.disk.now c.begin.new.disk c.args.more.now c.checkpoint.new.disk begun.0 joined.0 c.in_ok-store.store c.in_ok-store.ensures.election begun.1 joined.1
    (c.in_ok-store.ensures.union (begun.0 ∷ joined.0) (joined.2 begun.0 begun.2)) c.begin.ensures.throughout c.checkpoint.ensures.any_moment
