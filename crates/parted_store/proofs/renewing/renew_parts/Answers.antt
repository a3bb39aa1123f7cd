use Rattle.std.proofs.Common.{[], get_or, refl, sym}
use Rattle.store_spec.proofs.Common.{disk_model}
use Rattle.any_store.proofs.Acknowledging.{on_err, on_ok}
use Rattle.parted_store.proofs.AllParts.{failed_if, first_failed, further_media, renewed_if}
use Rattle.parted_store.proofs.Slots.{checkpointed_part, failed_part}
use Rattle.parted_store.proofs.renewing.renew_parts.Goals as goal
use Rattle.recovery.proofs.OneByOne.{zip_same}

pub returns-then-is_err-clause-failed : goal.returns-then-is_err-clause-failed
returns-then-is_err-clause-failed g c =
    let one = disk_model g.A.Disk.seen g.A.Disk.calls g.A.Disk.may_leave g.A.Disk.faults in
    let other = disk_model g.B.Disk.seen g.B.Disk.calls g.B.Disk.may_leave g.B.Disk.faults in
    let store = c.args.store.now in
    let first = c.args.first.now in
    let now = c.renew_part-renewed.new.disk in
    first_failed one other store.election store.bits store.sets c.part-part.ensures.parted.parts first now c.args.more.now c.args.more.now refl
    (failed_part one store.election (get_or store.sets 0 []) first now c.part-part.result.now c.part-part.ensures.part
    (on_err c.renew_part-renewed.result (sym c.if-is_err.ensures.value) c.renew_part-renewed.ensures.failed))

pub returns-then-is_err-clause-others_lead : goal.returns-then-is_err-clause-others_lead
returns-then-is_err-clause-others_lead g c = zip_same g.B.Disk.leads_to g.met.B.Disk.leads_to_itself c.args.more.now

pub renew_further-requires-clause-media : goal.renew_further-requires-clause-media
renew_further-requires-clause-media g c =
    let one = disk_model g.A.Disk.seen g.A.Disk.calls g.A.Disk.may_leave g.A.Disk.faults in
    let other = disk_model g.B.Disk.seen g.B.Disk.calls g.B.Disk.may_leave g.B.Disk.faults in
    further_media one other c.args.store.now.election c.args.store.now.bits c.args.first.now c.args.more.now c.requires.media

pub returns-clause-done : goal.returns-clause-done
returns-clause-done g c =
    let one = disk_model g.A.Disk.seen g.A.Disk.calls g.A.Disk.may_leave g.A.Disk.faults in
    let other = disk_model g.B.Disk.seen g.B.Disk.calls g.B.Disk.may_leave g.B.Disk.faults in
    let store = c.args.store.now in
    let first = c.args.first.now in
    let now = c.renew_part-renewed.new.disk in
    renewed_if one other store.election store.bits store.sets c.part-part.ensures.parted.parts first now c.args.more.now c.renew_further.new.more
    c.renew_further.result
    (checkpointed_part one store.election (get_or store.sets 0 []) first now c.part-part.result.now c.part-part.ensures.part
    (on_ok c.renew_part-renewed.result (sym c.if-is_err.ensures.value) c.renew_part-renewed.ensures.done))
    c.renew_further.ensures.done

pub returns-clause-failed : goal.returns-clause-failed
returns-clause-failed g c =
    let one = disk_model g.A.Disk.seen g.A.Disk.calls g.A.Disk.may_leave g.A.Disk.faults in
    let other = disk_model g.B.Disk.seen g.B.Disk.calls g.B.Disk.may_leave g.B.Disk.faults in
    let store = c.args.store.now in
    let first = c.args.first.now in
    let now = c.renew_part-renewed.new.disk in
    failed_if one other store.election store.bits store.sets c.part-part.ensures.parted.parts first now c.args.more.now c.renew_further.new.more
    c.renew_further.result
    (checkpointed_part one store.election (get_or store.sets 0 []) first now c.part-part.result.now c.part-part.ensures.part
    (on_ok c.renew_part-renewed.result (sym c.if-is_err.ensures.value) c.renew_part-renewed.ensures.done))
    c.renew_further.ensures.failed
