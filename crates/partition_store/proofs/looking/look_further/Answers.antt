use Rattle.std.proofs.Common.{◌≡◌, ◌<◌, ◌≤◌, ◌+◌, ◌++◌, ◌∷◌, [], Some, get_or, length, refl, sym, ap, subst, set, take, ◌∙◌, arith}
use Rattle.store_spec.proofs.Common.{AllZip, AllZip-long, disk_model, length-take, take-set}
use Rattle.partition_store.proofs.Looks.{none_failed, refuses_further}
use Rattle.partition_store.proofs.Seeking.{first_more}
use Rattle.partition_store.proofs.looking.look_further.Goals as goal
use Rattle.partition_store.specs.Foreign.{IsFirstForeign}
use Rattle.partition_store.specs.Opening.{RefusesParts}
use Rattle.partition_store.proofs.SideBySide.{zip_next}
use Rattle.recovery.proofs.OneByOne.{handed_on, rest_still, stands_now, stood_there, zip_more, zip_same, zip_take}
use Rattle.recovery.proofs.OnlyReading.{nothing_called}
use Rattle.recovery.specs.Media.{HoldsIfTold}
use Rattle.recovery.specs.ReadsOnly.{WritesNothing}

pub loop-place-init : goal.loop-place-init
loop-place-init g c = record {
  found = ([], tt, λ set found. found);
  steady = zip_same (λ old new. g.B.Disk.faults new ≡ g.B.Disk.faults old) (λ disk. refl) c.args.more.now;
  reads = zip_same (WritesNothing g.B.Disk.seen g.B.Disk.calls g.B.Disk.may_leave) (nothing_called g.B.Disk.seen g.B.Disk.calls g.B.Disk.may_leave) c.args.more.now;
  later = zip_same (λ old new. g.B.Disk.calls old ≤ g.B.Disk.calls new) (λ disk. omega arith) c.args.more.now;
  leads = zip_same g.B.Disk.leads_to g.met.B.Disk.leads_to_itself c.args.more.now;
  rest = refl;
}

pub returns-in_err-number-clause-refused : goal.returns-in_err-number-clause-refused
returns-in_err-number-clause-refused g c =
    let model = disk_model g.B.Disk.seen g.B.Disk.calls g.B.Disk.may_leave g.B.Disk.faults in
    let e = c.args.election.now in
    let first = c.args.more.now in
    let now = c.loop-place.more in
    let place = c.loop-place.place in
    let fault = c.in_err-number.field-0.0 in
    let x = c.index-more-place.result in
    let old = get_or now place x in
    let lt : place < length now = omega (arith, c.loop-place.auto.more) in
    let there = stood_there first now place x c.loop-place.auto.more c.loop-place.invariant.rest lt c.index-more-place.is ∙ ap Some c.index-more-place.is in
    handed_on c.from_residual.result (RefusesParts model e first (set now place c.look_part.new.disk)) fault c.from_residual.ensures.1
    (refuses_further model e first (set now place c.look_part.new.disk) fault
    (record {
      place = place;
      sets = c.loop-place.invariant.found.0;
      earlier = c.loop-place.invariant.found.1;
      none_rose = subst (λ now. AllZip (λ old new. g.B.Disk.faults new ≡ g.B.Disk.faults old) (take place first) now) (sym (take-set now place c.look_part.new.disk))
          (zip_take (λ old new. g.B.Disk.faults new ≡ g.B.Disk.faults old) first now place c.loop-place.invariant.steady);
      later = rest_still first now place c.look_part.new.disk c.loop-place.invariant.rest;
      old = old;
      there = there;
      new = c.look_part.new.disk;
      there_now = stands_now now place c.look_part.new.disk lt;
      refused = c.in_err-number.ensures.refused;
    })
    (λ is. zip_next (λ old new. g.B.Disk.faults new ≡ g.B.Disk.faults old) first now place x c.look_part.new.disk c.loop-place.auto.more c.loop-place.invariant.rest lt c.index-more-place.is
    c.loop-place.invariant.steady (none_failed model e (place + 1) old c.look_part.new.disk fault c.in_err-number.ensures.refused is)))

pub returns-in_err-number-clause-reads : goal.returns-in_err-number-clause-reads
returns-in_err-number-clause-reads g c =
    zip_next (WritesNothing g.B.Disk.seen g.B.Disk.calls g.B.Disk.may_leave) c.args.more.now c.loop-place.more c.loop-place.place c.index-more-place.result c.look_part.new.disk
    c.loop-place.auto.more c.loop-place.invariant.rest (omega (arith, c.loop-place.auto.more)) c.index-more-place.is c.loop-place.invariant.reads c.look_part.ensures.reads

pub returns-in_err-number-clause-later : goal.returns-in_err-number-clause-later
returns-in_err-number-clause-later g c =
    zip_next (λ old new. g.B.Disk.calls old ≤ g.B.Disk.calls new) c.args.more.now c.loop-place.more c.loop-place.place c.index-more-place.result c.look_part.new.disk
    c.loop-place.auto.more c.loop-place.invariant.rest (omega (arith, c.loop-place.auto.more)) c.index-more-place.is c.loop-place.invariant.later c.look_part.ensures.later

pub returns-in_err-number-clause-leads : goal.returns-in_err-number-clause-leads
returns-in_err-number-clause-leads g c =
    zip_next g.B.Disk.leads_to c.args.more.now c.loop-place.more c.loop-place.place c.index-more-place.result c.look_part.new.disk
    c.loop-place.auto.more c.loop-place.invariant.rest (omega (arith, c.loop-place.auto.more)) c.index-more-place.is c.loop-place.invariant.leads c.look_part.ensures.leads

pub loop-place-preserved : goal.loop-place-preserved
loop-place-preserved g c =
    let model = disk_model g.B.Disk.seen g.B.Disk.calls g.B.Disk.may_leave g.B.Disk.faults in
    let e = c.args.election.now in
    let first = c.args.more.now in
    let now = c.loop-place.more in
    let place = c.loop-place.place in
    let x = c.index-more-place.result in
    let lt : place < length now = omega (arith, c.loop-place.auto.more) in
    let so_far = c.loop-place.invariant.found in
    let one = c.in_ok-number.ensures.found in
    let there = stood_there first now place x c.loop-place.auto.more c.loop-place.invariant.rest lt c.index-more-place.is ∙ ap Some c.index-more-place.is in
    let size : length so_far.0 ≡ place = AllZip-long (HoldsIfTold model e) (take place first) so_far.0 so_far.1 ∙ length-take place first ∙ omega (arith, c.loop-place.auto.more) in
    let calls : AllZip (λ old new. g.B.Disk.calls old ≤ g.B.Disk.calls new) first (set now place c.look_part.new.disk) =
    zip_next (λ old new. g.B.Disk.calls old ≤ g.B.Disk.calls new) first now place x c.look_part.new.disk c.loop-place.auto.more c.loop-place.invariant.rest lt c.index-more-place.is
    c.loop-place.invariant.later c.look_part.ensures.later in
    record {
      found = (
        so_far.0 ++ one.0 ∷ [],
        zip_more (HoldsIfTold model e) first so_far.0 place (get_or now place x) one.0 there so_far.1 one.1,
        λ set found. subst (IsFirstForeign c.args.bits (set ∷ (so_far.0 ++ one.0 ∷ []))) (sym c.first_of-foreign.ensures)
            (first_more c.args.bits (set ∷ so_far.0) one.0 c.loop-place.foreign (place + 1) c.in_ok-number.number (omega (arith, size)) (so_far.2 set found) one.2),
      );
      steady = zip_next (λ old new. g.B.Disk.faults new ≡ g.B.Disk.faults old) first now place x c.look_part.new.disk c.loop-place.auto.more c.loop-place.invariant.rest lt c.index-more-place.is
          c.loop-place.invariant.steady c.in_ok-number.ensures.steady;
      reads = zip_next (WritesNothing g.B.Disk.seen g.B.Disk.calls g.B.Disk.may_leave) first now place x c.look_part.new.disk c.loop-place.auto.more c.loop-place.invariant.rest lt c.index-more-place.is
          c.loop-place.invariant.reads c.look_part.ensures.reads;
      later = calls;
      leads = zip_next g.B.Disk.leads_to first now place x c.look_part.new.disk c.loop-place.auto.more c.loop-place.invariant.rest lt c.index-more-place.is
          c.loop-place.invariant.leads c.look_part.ensures.leads;
      rest = rest_still first now place c.look_part.new.disk c.loop-place.invariant.rest;
    }
