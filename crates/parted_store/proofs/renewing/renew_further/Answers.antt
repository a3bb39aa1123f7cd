use Rattle.std.proofs.Common.{◌+◌, ◌<◌, [], get_or, length, refl, subst, sym, arith}
use Rattle.store_spec.proofs.Common.{disk_model}
use Rattle.any_store.proofs.Acknowledging.{on_err, on_ok}
use Rattle.any_store.specs.Checkpointed.{IsMediumNow}
use Rattle.body_store.specs.Contents.{Contents}
use Rattle.parted_store.proofs.Slots.{checkpointed_part, failed_part}
use Rattle.parted_store.proofs.Stepping.{leads_next, medium_next, renewed_next, still_next, stops_next}
use Rattle.parted_store.proofs.renewing.renew_further.Goals as goal
use Rattle.recovery.proofs.OneByOne.{zip_same}

pub disks-init : goal.disks-init
disks-init g c = record {
  done = λ i lt. absurd (omega (arith, lt));
  still = λ j le. refl;
  leads = zip_same g.B.Disk.leads_to g.met.B.Disk.leads_to_itself c.args.more.now;
}

pub renew_part-renewed-requires : goal.renew_part-renewed-requires
renew_part-renewed-requires g c =
    let model = disk_model g.B.Disk.seen g.B.Disk.calls g.B.Disk.may_leave g.B.Disk.faults in
    let e = c.args.store.now.election in
    let first = c.args.more.now in
    let l = c.disks in
    let x = c.index-more-place.result in
    let lt : l.place < length l.more = omega (arith, l.auto.more, c.disks-test.true) in
    let before : l.place < length first = omega (arith, l.auto.more, lt) in
    let there = c.requires.media l.place before in (
      there.0,
      subst (λ (part : Contents). IsMediumNow model part.election there.0 (get_or l.more l.place x)) (sym c.part-part.ensures.part)
          (medium_next first l.more l.place x x lt l.invariant.still model e there.0 there.1),
    )

pub returns-then-is_err-clause-failed : goal.returns-then-is_err-clause-failed
returns-then-is_err-clause-failed g c =
    let model = disk_model g.B.Disk.seen g.B.Disk.calls g.B.Disk.may_leave g.B.Disk.faults in
    let store = c.args.store.now in
    let l = c.disks in
    let x = c.index-more-place.result in
    let y = c.renew_part-renewed.new.disk in
    let lt : l.place < length l.more = omega (arith, l.auto.more, c.disks-test.true) in (
      l.place,
      refl,
      stops_next c.args.more.now l.more l.place x y lt l.invariant.still model store.election store.sets l.auto.more l.invariant.done
          (failed_part model store.election (get_or store.sets (l.place + 1) []) (get_or l.more l.place x) y c.part-part.result.now c.part-part.ensures.part
          (on_err c.renew_part-renewed.result (sym c.if-is_err.ensures.value) c.renew_part-renewed.ensures.failed)),
    )

pub returns-then-is_err-clause-leads : goal.returns-then-is_err-clause-leads
returns-then-is_err-clause-leads g c =
    let l = c.disks in
    let lt : l.place < length l.more = omega (arith, l.auto.more, c.disks-test.true) in
    leads_next c.args.more.now l.more l.place c.index-more-place.result c.renew_part-renewed.new.disk lt l.invariant.still
    g.B.Disk.leads_to l.invariant.leads c.renew_part-renewed.ensures.leads

pub disks-preserved : goal.disks-preserved
disks-preserved g c =
    let model = disk_model g.B.Disk.seen g.B.Disk.calls g.B.Disk.may_leave g.B.Disk.faults in
    let store = c.args.store.now in
    let first = c.args.more.now in
    let l = c.disks in
    let x = c.index-more-place.result in
    let y = c.renew_part-renewed.new.disk in
    let lt : l.place < length l.more = omega (arith, l.auto.more, c.disks-test.true) in
    record {
      done = renewed_next first l.more l.place x y lt l.invariant.still model store.election store.sets l.invariant.done
          (checkpointed_part model store.election (get_or store.sets (l.place + 1) []) (get_or l.more l.place x) y c.part-part.result.now c.part-part.ensures.part
          (on_ok c.renew_part-renewed.result (sym c.if-is_err.ensures.value) c.renew_part-renewed.ensures.done));
      still = still_next first l.more l.place x y lt l.invariant.still;
      leads = leads_next first l.more l.place x y lt l.invariant.still g.B.Disk.leads_to l.invariant.leads c.renew_part-renewed.ensures.leads;
    }
