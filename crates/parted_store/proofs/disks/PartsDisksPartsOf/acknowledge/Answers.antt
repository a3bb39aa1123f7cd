use Rattle.std.proofs.Common.{◌≡◌, ◌≤◌, ◌-◌, ◌^◌, inl, inr, List, length, refl, subst, arith}
use Rattle.store_spec.proofs.Common.{disk_model, share}
use Rattle.parted_store.proofs.Lifting.{checkpointed_up, counts_within, failed_up, later_counts, steady_counts}
use Rattle.parted_store.proofs.disks.PartsDisksPartsOf.acknowledge.Goals as goal
use Rattle.parted_store.specs.Slots.{models_of}
use Rattle.parted_store.specs.Views.{both_of}
use Rattle.partition_store.specs.Parted.{joined}

pub returns-in-Ok-clause-done : goal.returns-in-Ok-clause-done
returns-in-Ok-clause-done g c =
    let one = disk_model g.A.Disk.seen g.A.Disk.calls g.A.Disk.may_leave g.A.Disk.faults in
    let other = disk_model g.B.Disk.seen g.B.Disk.calls g.B.Disk.may_leave g.B.Disk.faults in
    let bits = g.P.PartCount.bits in
    let disks = c.args.self.now in
    let size : length disks.more.now ≡ 2 ^ bits - 1 = omega (arith, disks.many) in
    checkpointed_up (models_of one other) both_of bits (2 ^ bits - 1) (length disks.more.now) c.args.store.now.store c.store.result.now
    c.store.ensures.store c.store.ensures.bits size disks _ c.in-Ok.ensures.done

pub returns-in-Err-clause-failed : goal.returns-in-Err-clause-failed
returns-in-Err-clause-failed g c =
    let one = disk_model g.A.Disk.seen g.A.Disk.calls g.A.Disk.may_leave g.A.Disk.faults in
    let other = disk_model g.B.Disk.seen g.B.Disk.calls g.B.Disk.may_leave g.B.Disk.faults in
    let bits = g.P.PartCount.bits in
    let disks = c.args.self.now in
    let size : length disks.more.now ≡ 2 ^ bits - 1 = omega (arith, disks.many) in (
      c.in-Err.part,
      failed_up (models_of one other) both_of bits (2 ^ bits - 1) (length disks.more.now) c.args.store.now.store c.store.result.now
          c.store.ensures.store c.store.ensures.bits size disks _ c.in-Err.part c.in-Err.ensures.failed,
    )

pub returns-in-Ok-clause-leads : goal.returns-in-Ok-clause-leads
returns-in-Ok-clause-leads g c =
    let one = disk_model g.A.Disk.seen g.A.Disk.calls g.A.Disk.may_leave g.A.Disk.faults in
    let other = disk_model g.B.Disk.seen g.B.Disk.calls g.B.Disk.may_leave g.B.Disk.faults in
    let bits = g.P.PartCount.bits in
    let disks = c.args.self.now in
    let store = c.store.result.now in
    let size : length disks.more.now ≡ 2 ^ bits - 1 = omega (arith, disks.many) in
    record {
      same_first = refl;
      same_more = refl;
      first = c.in-Ok.ensures.leads;
      more = c.in-Ok.ensures.others_lead;
      faults = steady_counts (models_of one other) (2 ^ bits - 1) (length disks.more.now) (share store.bits) store.election (joined store.sets)
          (disks.first.now, disks.more.now) (c.renew_parts.new.first, c.renew_parts.new.more) size c.in-Ok.ensures.done;
      told = inl refl;
    }

pub returns-in-Err-clause-leads : goal.returns-in-Err-clause-leads
returns-in-Err-clause-leads g c =
    let one = disk_model g.A.Disk.seen g.A.Disk.calls g.A.Disk.may_leave g.A.Disk.faults in
    let other = disk_model g.B.Disk.seen g.B.Disk.calls g.B.Disk.may_leave g.B.Disk.faults in
    let bits = g.P.PartCount.bits in
    let disks = c.args.self.now in
    let store = c.store.result.now in
    let size : length disks.more.now ≡ 2 ^ bits - 1 = omega (arith, disks.many) in
    let old : g.row.A.Denot × List g.row.B.Denot = (disks.first.now, disks.more.now) in
    let did = c.in-Err.ensures.failed in
    record {
      same_first = refl;
      same_more = refl;
      first = c.in-Err.ensures.leads;
      more = c.in-Err.ensures.others_lead;
      faults = later_counts (models_of one other) (2 ^ bits - 1) (length disks.more.now) (share store.bits) store.election (joined store.sets)
          old (c.renew_parts.new.first, c.renew_parts.new.more) c.in-Err.part size
          (λ j. counts_within one other g.met.A.Disk.counted_faults g.met.B.Disk.counted_faults j old) did;
      told = inr (c.in-Err.part, record { within = subst (λ n. c.in-Err.part ≤ n) size did.within; told = refl; rose = did.failed.rose });
    }
