use Rattle.std.proofs.Common.{◌≡◌, ◌<◌, ◌+◌, ◌++◌, ◌∷◌, List, [], Some, EachIndex, get_or, length, length-append, refl, sym, ap, subst, set, take, ◌∙◌, arith}
use Rattle.store_spec.proofs.Common.{All-push, AllZip, append-nil, disk_model, last_count, take_all}
use Rattle.body_store.specs.Contents.{Contents, IsStored}
use Rattle.partition_store.proofs.Keeping.{own_more, sets_more}
use Rattle.partition_store.proofs.Recoveries.{kept_still, recovered_keeps, recovered_more, recovers_still, refuses_recoveries}
use Rattle.partition_store.proofs.recovering.recover_further.Goals as goal
use Rattle.partition_store.specs.Opening.{Recovers}
use Rattle.partition_store.specs.Parted.{BelongsTo}
use Rattle.partition_store.specs.PartedKept.{AreStores, sets_of}
use Rattle.partition_store.specs.Recovering.{KeepsSteady, RefusesRecoveries}
use Rattle.partition_store.specs.declared.fault.PartFault.TheVariants.{Memory}
use Rattle.partition_store.proofs.SideBySide.{zip_next, zip_taken}
use Rattle.recovery.proofs.OneByOne.{handed_on, rest_still, stood_there, zip_same}

pub loop-place-init : goal.loop-place-init
loop-place-init g c =
    let model = disk_model g.B.Disk.seen g.B.Disk.calls g.B.Disk.may_leave g.B.Disk.faults in
    let e = c.args.election.now in
    let stores = c.args.parts.now.items in
    record {
      recovered = ([], record { each = tt; media = tt; none_rose = tt }, sym (append-nil (sets_of stores)));
      many = c.requires.one;
      own = λ part lt.
          let here : 0 ≡ part = omega (arith, c.requires.one) in
          subst (λ part. BelongsTo c.args.bits part (get_or (sets_of stores) part [])) here c.requires.own;
      stores = c.requires.stores;
      keeps = zip_same (KeepsSteady model e) (kept_still model e) c.args.more.now;
      run = zip_same (Recovers model e) (recovers_still model e) c.args.more.now;
      called = tt;
      leads = zip_same g.B.Disk.leads_to g.met.B.Disk.leads_to_itself c.args.more.now;
      rest = refl;
    }

pub returns-in_err-store-clause-refused : goal.returns-in_err-store-clause-refused
returns-in_err-store-clause-refused g c =
    let model = disk_model g.B.Disk.seen g.B.Disk.calls g.B.Disk.may_leave g.B.Disk.faults in
    let e = c.args.election.now in
    let first = c.args.more.now in
    let now = c.loop-place.more in
    let place = c.loop-place.place in
    let fault = c.in_err-store.field-0.0 in
    let x = c.index-more-place.result in
    let y = c.recover_part.new.disk in
    let lt : place < length now = omega (arith, c.loop-place.auto.more) in
    let there = stood_there first now place x c.loop-place.auto.more c.loop-place.invariant.rest lt c.index-more-place.is ∙ ap Some c.index-more-place.is in
    handed_on c.from_residual.result (RefusesRecoveries model e first (set now place y)) fault c.from_residual.ensures.1
    (refuses_recoveries model e first now place (get_or now place x) y fault there lt c.loop-place.invariant.keeps
    (λ kept. zip_next (KeepsSteady model e) first now place x y c.loop-place.auto.more c.loop-place.invariant.rest lt c.index-more-place.is c.loop-place.invariant.keeps kept)
    c.in_err-store.ensures.refused)

pub returns-in_err-store-clause-run : goal.returns-in_err-store-clause-run
returns-in_err-store-clause-run g c =
    let model = disk_model g.B.Disk.seen g.B.Disk.calls g.B.Disk.may_leave g.B.Disk.faults in
    zip_next (Recovers model c.args.election.now) c.args.more.now c.loop-place.more c.loop-place.place c.index-more-place.result c.recover_part.new.disk
    c.loop-place.auto.more c.loop-place.invariant.rest (omega (arith, c.loop-place.auto.more)) c.index-more-place.is c.loop-place.invariant.run c.recover_part.ensures.run

pub returns-in_err-store-clause-leads : goal.returns-in_err-store-clause-leads
returns-in_err-store-clause-leads g c =
    zip_next g.B.Disk.leads_to c.args.more.now c.loop-place.more c.loop-place.place c.index-more-place.result c.recover_part.new.disk
    c.loop-place.auto.more c.loop-place.invariant.rest (omega (arith, c.loop-place.auto.more)) c.index-more-place.is c.loop-place.invariant.leads c.recover_part.ensures.leads

pub returns-in_err-join-clause-refused : goal.returns-in_err-join-clause-refused
returns-in_err-join-clause-refused g c =
    let model = disk_model g.B.Disk.seen g.B.Disk.calls g.B.Disk.may_leave g.B.Disk.faults in
    let e = c.args.election.now in
    let first = c.args.more.now in
    let now = c.loop-place.more in
    let place = c.loop-place.place in
    let x = c.index-more-place.result in
    let y = c.recover_part.new.disk in
    let lt : place < length now = omega (arith, c.loop-place.auto.more) in
    handed_on c.from_residual-in_err-join.result (RefusesRecoveries model e first (set now place y)) Memory c.from_residual-in_err-join.ensures.1
    (zip_next (KeepsSteady model e) first now place x y c.loop-place.auto.more c.loop-place.invariant.rest lt c.index-more-place.is c.loop-place.invariant.keeps
    (recovered_keeps model e (get_or now place x) y c.in_ok-store.store.ballots c.recover_part.ensures.run.told c.in_ok-store.ensures.recovered))

pub returns-in_err-join-clause-run : goal.returns-in_err-join-clause-run
returns-in_err-join-clause-run g c =
    let model = disk_model g.B.Disk.seen g.B.Disk.calls g.B.Disk.may_leave g.B.Disk.faults in
    zip_next (Recovers model c.args.election.now) c.args.more.now c.loop-place.more c.loop-place.place c.index-more-place.result c.recover_part.new.disk
    c.loop-place.auto.more c.loop-place.invariant.rest (omega (arith, c.loop-place.auto.more)) c.index-more-place.is c.loop-place.invariant.run c.recover_part.ensures.run

pub returns-in_err-join-clause-leads : goal.returns-in_err-join-clause-leads
returns-in_err-join-clause-leads g c =
    zip_next g.B.Disk.leads_to c.args.more.now c.loop-place.more c.loop-place.place c.index-more-place.result c.recover_part.new.disk
    c.loop-place.auto.more c.loop-place.invariant.rest (omega (arith, c.loop-place.auto.more)) c.index-more-place.is c.loop-place.invariant.leads c.recover_part.ensures.leads

pub loop-place-preserved : goal.loop-place-preserved
loop-place-preserved g c =
    let model = disk_model g.B.Disk.seen g.B.Disk.calls g.B.Disk.may_leave g.B.Disk.faults in
    let e = c.args.election.now in
    let first = c.args.more.now in
    let now = c.loop-place.more in
    let place = c.loop-place.place in
    let x = c.index-more-place.result in
    let y = c.recover_part.new.disk in
    let old = get_or now place x in
    let store = c.in_ok-store.store in
    let parts = c.loop-place.parts.items in
    let so_far = c.loop-place.invariant.recovered in
    let lt : place < length now = omega (arith, c.loop-place.auto.more) in
    let there = stood_there first now place x c.loop-place.auto.more c.loop-place.invariant.rest lt c.index-more-place.is ∙ ap Some c.index-more-place.is in
    let joined = c.in_ok-join.ensures in
    let here : place + 1 ≡ length parts = sym c.loop-place.invariant.many in
    record {
      recovered = (
        so_far.0 ++ store.ballots ∷ [],
        recovered_more model e first now place old y so_far.0 store.ballots there lt so_far.1 c.in_ok-store.ensures.recovered,
        ap sets_of joined ∙ sets_more c.args.parts.now.items parts so_far.0 store so_far.2,
      );
      many = ap length joined ∙ length-append parts (store ∷ []) ∙ ap (λ n. n + 1) c.loop-place.invariant.many;
      own = subst (λ (stores : List Contents). EachIndex stores (λ part. BelongsTo c.args.bits part (get_or (sets_of stores) part []))) (sym joined)
          (own_more c.args.bits parts store c.loop-place.invariant.own (subst (λ part. BelongsTo c.args.bits part store.ballots) here c.in_ok-store.ensures.own));
      stores = subst (AreStores e) (sym joined) (All-push (λ (store : Contents). (store.election ≡ e) × IsStored store) parts store c.loop-place.invariant.stores c.in_ok-store.ensures.store);
      keeps = zip_next (KeepsSteady model e) first now place x y c.loop-place.auto.more c.loop-place.invariant.rest lt c.index-more-place.is c.loop-place.invariant.keeps
          (recovered_keeps model e old y store.ballots c.recover_part.ensures.run.told c.in_ok-store.ensures.recovered);
      run = zip_next (Recovers model e) first now place x y c.loop-place.auto.more c.loop-place.invariant.rest lt c.index-more-place.is c.loop-place.invariant.run c.recover_part.ensures.run;
      called = zip_taken (λ old new. g.B.Disk.calls new < last_count → g.B.Disk.calls old < g.B.Disk.calls new) first now place old y there lt c.loop-place.invariant.called c.in_ok-store.ensures.called;
      leads = zip_next g.B.Disk.leads_to first now place x y c.loop-place.auto.more c.loop-place.invariant.rest lt c.index-more-place.is c.loop-place.invariant.leads c.recover_part.ensures.leads;
      rest = rest_still first now place y c.loop-place.invariant.rest;
    }

pub returns-clause-called : goal.returns-clause-called
returns-clause-called g c =
    let R : g.row.B.Denot → g.row.B.Denot → Type 0 = λ old new. g.B.Disk.calls new < last_count → g.B.Disk.calls old < g.B.Disk.calls new in
    let first = c.args.more.now in
    let now = c.loop-place.more in
    let place = c.loop-place.place in
    subst (λ xs. AllZip R xs now) (take_all place first (omega (arith, c.loop-place-test.false, c.loop-place.auto.more)))
    (subst (λ ys. AllZip R (take place first) ys) (take_all place now (omega (arith, c.loop-place-test.false, c.loop-place.auto.more))) c.loop-place.invariant.called)
