use Rattle.std.proofs.Common.{◌≡◌, ◌+◌, ◌++◌, ◌∷◌, [], Some, get_or, refl, sym, ap, subst, set, take, ◌∙◌, arith}
use Rattle.store_spec.proofs.Common.{AllZip, disk_model, get_or_from_slice_get, take-set}
use Rattle.merge_media.proofs.Media.{joined_behind, none_failed, refuses_further}
use Rattle.merge_media.proofs.merging.join_each.Goals as goal
use Rattle.merge_media.specs.Merging.{RefusesFurther}
use Rattle.recovery.proofs.OneByOne.{handed_on, rest_still, stands_now, stood_there, zip_more, zip_same, zip_set, zip_take}
use Rattle.recovery.proofs.OnlyReading.{nothing_called}
use Rattle.recovery.specs.Media.{HoldsIfTold}
use Rattle.recovery.specs.ReadsOnly.{WritesNothing}

pub loop-place-init : goal.loop-place-init
loop-place-init g c = record {
  joined = ([], tt, λ set j. j);
  election = refl;
  few = omega (arith, c.requires.one);
  steady = zip_same (λ old new. g.B.Disk.faults new ≡ g.B.Disk.faults old) (λ disk. refl) c.args.more.now;
  reads = zip_same (WritesNothing g.B.Disk.seen g.B.Disk.calls g.B.Disk.may_leave) (nothing_called g.B.Disk.seen g.B.Disk.calls g.B.Disk.may_leave) c.args.more.now;
  leads = zip_same g.B.Disk.leads_to g.met.B.Disk.leads_to_itself c.args.more.now;
  rest = refl;
}

pub returns-in_err-join-clause-refused : goal.returns-in_err-join-clause-refused
returns-in_err-join-clause-refused g c =
    let model = disk_model g.B.Disk.seen g.B.Disk.calls g.B.Disk.may_leave g.B.Disk.faults in
    let e = c.args.election.now in
    let first = c.args.more.now in
    let now = c.loop-place.more in
    let place = c.loop-place.place in
    let fault = c.in_err-join.field-0.0 in
    let old = get_or now place c.index-more-place.result in
    let last = set now place c.join.new.disk in
    let there = stood_there first now place c.index-more-place.result c.loop-place.auto.more c.loop-place.invariant.rest (omega (arith, c.loop-place.auto.more)) c.index-more-place.is ∙ ap Some c.index-more-place.is in
    handed_on c.from_residual.result (RefusesFurther model e first last) fault c.from_residual.ensures.1
    (refuses_further model e first last fault
    (record {
      place = place;
      sets = c.loop-place.invariant.joined.0;
      earlier = c.loop-place.invariant.joined.1;
      none_rose = subst (λ now. AllZip (λ old new. g.B.Disk.faults new ≡ g.B.Disk.faults old) (take place first) now) (sym (take-set now place c.join.new.disk))
          (zip_take (λ old new. g.B.Disk.faults new ≡ g.B.Disk.faults old) first now place c.loop-place.invariant.steady);
      later = rest_still first now place c.join.new.disk c.loop-place.invariant.rest;
      old = old;
      there = there;
      new = c.join.new.disk;
      there_now = stands_now now place c.join.new.disk (omega (arith, c.loop-place.auto.more));
      refused = c.in_err-join.ensures.refused;
    })
    (λ is. zip_set (λ old new. g.B.Disk.faults new ≡ g.B.Disk.faults old) first now place old c.join.new.disk c.loop-place.invariant.steady (get_or_from_slice_get first place old old there)
    (none_failed model e (place + 1) old c.join.new.disk fault c.in_err-join.ensures.refused is)))

pub returns-in_err-join-clause-reads : goal.returns-in_err-join-clause-reads
returns-in_err-join-clause-reads g c =
    let first = c.args.more.now in
    let now = c.loop-place.more in
    let place = c.loop-place.place in
    let old = get_or now place c.index-more-place.result in
    let there = stood_there first now place c.index-more-place.result c.loop-place.auto.more c.loop-place.invariant.rest (omega (arith, c.loop-place.auto.more)) c.index-more-place.is ∙ ap Some c.index-more-place.is in
    zip_set (WritesNothing g.B.Disk.seen g.B.Disk.calls g.B.Disk.may_leave) first now place old c.join.new.disk c.loop-place.invariant.reads
    (get_or_from_slice_get first place old old there) c.join.ensures.reads

pub returns-in_err-join-clause-leads : goal.returns-in_err-join-clause-leads
returns-in_err-join-clause-leads g c =
    let first = c.args.more.now in
    let now = c.loop-place.more in
    let place = c.loop-place.place in
    let old = get_or now place c.index-more-place.result in
    let there = stood_there first now place c.index-more-place.result c.loop-place.auto.more c.loop-place.invariant.rest (omega (arith, c.loop-place.auto.more)) c.index-more-place.is ∙ ap Some c.index-more-place.is in
    zip_set g.B.Disk.leads_to first now place old c.join.new.disk c.loop-place.invariant.leads
    (get_or_from_slice_get first place old old there) c.join.ensures.leads

pub loop-place-preserved : goal.loop-place-preserved
loop-place-preserved g c =
    let model = disk_model g.B.Disk.seen g.B.Disk.calls g.B.Disk.may_leave g.B.Disk.faults in
    let e = c.args.election.now in
    let first = c.args.more.now in
    let now = c.loop-place.more in
    let place = c.loop-place.place in
    let old = get_or now place c.index-more-place.result in
    let so_far = c.loop-place.invariant.joined in
    let one = c.in_ok-join.ensures.joined in
    let there = stood_there first now place c.index-more-place.result c.loop-place.auto.more c.loop-place.invariant.rest (omega (arith, c.loop-place.auto.more)) c.index-more-place.is ∙ ap Some c.index-more-place.is in
    record {
      joined = (
        so_far.0 ++ one.0 ∷ [],
        zip_more (HoldsIfTold model e) first so_far.0 place old one.0 there so_far.1 one.1,
        λ set j. joined_behind set one.0 so_far.0 c.join.new.union.ballots c.join.new.union.dispute (one.2 (set ∷ so_far.0) (so_far.2 set j)),
      );
      election = c.join.ensures.election ∙ c.loop-place.invariant.election;
      few = omega (arith, c.join.ensures.count, c.loop-place.invariant.few);
      steady = zip_set (λ old new. g.B.Disk.faults new ≡ g.B.Disk.faults old) first now place old c.join.new.disk c.loop-place.invariant.steady
          (get_or_from_slice_get first place old old there) c.in_ok-join.ensures.steady;
      reads = zip_set (WritesNothing g.B.Disk.seen g.B.Disk.calls g.B.Disk.may_leave) first now place old c.join.new.disk c.loop-place.invariant.reads
          (get_or_from_slice_get first place old old there) c.join.ensures.reads;
      leads = zip_set g.B.Disk.leads_to first now place old c.join.new.disk c.loop-place.invariant.leads
          (get_or_from_slice_get first place old old there) c.join.ensures.leads;
      rest = rest_still first now place c.join.new.disk c.loop-place.invariant.rest;
    }
