use Rattle.std.proofs.Common.{◌≡◌, ◌<◌, ◌++◌, ◌∷◌, List, [], length, sym, ap, subst, ◌∙◌, arith}
use Rattle.store_spec.proofs.Common.{AllZip-long, disk_model, length-map}
use Rattle.body_store.specs.Contents.{Contents}
use Rattle.partition_store.proofs.Keeping.{are_parts, own_election}
use Rattle.partition_store.proofs.Opened.{no_room, opened, refuses_first, refuses_rest}
use Rattle.partition_store.proofs.Recoveries.{recovered_keeps, recovers_still}
use Rattle.partition_store.proofs.recovering.recover_all.Goals as goal
use Rattle.partition_store.specs.Opening.{Recovers}
use Rattle.partition_store.specs.PartedKept.{AreStores, sets_of}
use Rattle.partition_store.specs.Recovering.{RefusesAll}
use Rattle.partition_store.specs.declared.fault.PartFault.TheVariants.{Memory}
use Rattle.recovery.proofs.OneByOne.{handed_on, zip_same}
use Rattle.recovery.specs.Media.{HoldsIfTold}

pub returns-in_err-first-clause-refused : goal.returns-in_err-first-clause-refused
returns-in_err-first-clause-refused g c =
    let first = disk_model g.A.Disk.seen g.A.Disk.calls g.A.Disk.may_leave g.A.Disk.faults in
    let further = disk_model g.B.Disk.seen g.B.Disk.calls g.B.Disk.may_leave g.B.Disk.faults in
    let e = c.args.election.now in
    handed_on c.from_residual.result (RefusesAll first further e c.args.disk.now c.recover_part.new.disk c.args.more.now c.args.more.now) c.in_err-first.field-0.0 c.from_residual.ensures.1
    (refuses_first first further e c.args.disk.now c.recover_part.new.disk c.args.more.now c.in_err-first.field-0.0 c.in_err-first.ensures.refused)

pub returns-in_err-first-clause-others_run : goal.returns-in_err-first-clause-others_run
returns-in_err-first-clause-others_run g c =
    let further = disk_model g.B.Disk.seen g.B.Disk.calls g.B.Disk.may_leave g.B.Disk.faults in
    zip_same (Recovers further c.args.election.now) (recovers_still further c.args.election.now) c.args.more.now

pub returns-in_err-first-clause-others_lead : goal.returns-in_err-first-clause-others_lead
returns-in_err-first-clause-others_lead g c = zip_same g.B.Disk.leads_to g.met.B.Disk.leads_to_itself c.args.more.now

pub returns-in_err-join-clause-refused : goal.returns-in_err-join-clause-refused
returns-in_err-join-clause-refused g c =
    let first = disk_model g.A.Disk.seen g.A.Disk.calls g.A.Disk.may_leave g.A.Disk.faults in
    let further = disk_model g.B.Disk.seen g.B.Disk.calls g.B.Disk.may_leave g.B.Disk.faults in
    let e = c.args.election.now in
    handed_on c.from_residual-in_err-join.result (RefusesAll first further e c.args.disk.now c.recover_part.new.disk c.args.more.now c.args.more.now) Memory c.from_residual-in_err-join.ensures.1
    (no_room first further e c.args.disk.now c.recover_part.new.disk c.args.more.now
    (recovered_keeps first e c.args.disk.now c.recover_part.new.disk c.in_ok-first.first.ballots c.recover_part.ensures.run.told c.in_ok-first.ensures.recovered))

pub returns-in_err-join-clause-others_run : goal.returns-in_err-join-clause-others_run
returns-in_err-join-clause-others_run g c =
    let further = disk_model g.B.Disk.seen g.B.Disk.calls g.B.Disk.may_leave g.B.Disk.faults in
    zip_same (Recovers further c.args.election.now) (recovers_still further c.args.election.now) c.args.more.now

pub returns-in_err-join-clause-others_lead : goal.returns-in_err-join-clause-others_lead
returns-in_err-join-clause-others_lead g c = zip_same g.B.Disk.leads_to g.met.B.Disk.leads_to_itself c.args.more.now

pub returns-in_err-recover_further-clause-refused : goal.returns-in_err-recover_further-clause-refused
returns-in_err-recover_further-clause-refused g c =
    let first = disk_model g.A.Disk.seen g.A.Disk.calls g.A.Disk.may_leave g.A.Disk.faults in
    let further = disk_model g.B.Disk.seen g.B.Disk.calls g.B.Disk.may_leave g.B.Disk.faults in
    let e = c.args.election.now in
    let fault = c.in_err-recover_further.field-0.0 in
    handed_on c.from_residual-in_err-recover_further.result (RefusesAll first further e c.args.disk.now c.recover_part.new.disk c.args.more.now c.recover_further.new.more) fault
    c.from_residual-in_err-recover_further.ensures.1
    (refuses_rest first further e c.args.disk.now c.recover_part.new.disk c.args.more.now c.recover_further.new.more fault
    (recovered_keeps first e c.args.disk.now c.recover_part.new.disk c.in_ok-first.first.ballots c.recover_part.ensures.run.told c.in_ok-first.ensures.recovered)
    c.in_err-recover_further.ensures.refused)

pub of_parts-requires-clause-parts : goal.of_parts-requires-clause-parts
of_parts-requires-clause-parts g c =
    let further = disk_model g.B.Disk.seen g.B.Disk.calls g.B.Disk.may_leave g.B.Disk.faults in
    let rest = c.in_ok-recover_further.ensures.recovered in
    are_parts c.args.bits (length c.args.more.now) c.recover_further.new.parts.items c.in_ok-first.first.ballots rest.0 c.requires.bits c.requires.further
    (AllZip-long (HoldsIfTold further c.args.election.now) c.args.more.now rest.0 rest.1.each)
    (rest.2 ∙ ap (λ (stores : List Contents). sets_of stores ++ rest.0) c.in_ok-join.ensures ∙ ap (λ (items : List Contents). sets_of (items ++ c.in_ok-first.first ∷ []) ++ rest.0) c.new-parts.ensures.items) c.in_ok-recover_further.ensures.own

pub of_parts-requires-clause-stores : goal.of_parts-requires-clause-stores
of_parts-requires-clause-stores g c =
    let rest = c.in_ok-recover_further.ensures.recovered in
    let stores = c.recover_further.new.parts.items in
    let are : sets_of stores ≡ c.in_ok-first.first.ballots ∷ rest.0 = rest.2 ∙ ap (λ (stores : List Contents). sets_of stores ++ rest.0) c.in_ok-join.ensures ∙ ap (λ (items : List Contents). sets_of (items ++ c.in_ok-first.first ∷ []) ++ rest.0) c.new-parts.ensures.items in
    let some : 0 < length stores = omega (arith, ap length are, length-map stores (λ (s : Contents). s.ballots)) in
    subst (λ e. AreStores e stores) (sym (own_election c.args.election.now stores c.in_ok-recover_further.ensures.stores some)) c.in_ok-recover_further.ensures.stores

pub returns-clause-opened : goal.returns-clause-opened
returns-clause-opened g c =
    let first = disk_model g.A.Disk.seen g.A.Disk.calls g.A.Disk.may_leave g.A.Disk.faults in
    let further = disk_model g.B.Disk.seen g.B.Disk.calls g.B.Disk.may_leave g.B.Disk.faults in
    let e = c.args.election.now in
    let rest = c.in_ok-recover_further.ensures.recovered in
    let stores = c.recover_further.new.parts.items in
    let set = c.in_ok-first.first.ballots in
    let are : sets_of stores ≡ set ∷ rest.0 = rest.2 ∙ ap (λ (stores : List Contents). sets_of stores ++ rest.0) c.in_ok-join.ensures ∙ ap (λ (items : List Contents). sets_of (items ++ c.in_ok-first.first ∷ []) ++ rest.0) c.new-parts.ensures.items in
    let some : 0 < length stores = omega (arith, ap length are, length-map stores (λ (s : Contents). s.ballots)) in
    opened first further e c.args.disk.now c.recover_part.new.disk c.args.more.now c.recover_further.new.more stores set rest.0 c.args.bits c.of_parts.result c.of_parts.ensures.parted c.of_parts.ensures.store
    (own_election e stores c.in_ok-recover_further.ensures.stores some) are c.in_ok-first.ensures.recovered rest.1
