use Rattle.std.proofs.Common.{◌≡◌, ◌+◌, ◌-◌, ◌^◌, ◌∙◌, List, Option, ℕ, arith, length, map, refl, sym, ap, subst}
use Rattle.store_spec.proofs.Common.{Election, begun, disk_model, share}
use Rattle.any_store.specs.Checkpointed.{IsMediumNow}
use Rattle.outside_io.specs.Outside.{input, output}
use Rattle.part_commands.proofs.Handling.{handled, status_is}
use Rattle.part_commands.proofs.part.handle.Goals as goal
use Rattle.part_commands.specs.Handled.{EndsAs, Handles}
use Rattle.parted_store.specs.Slots.{along, models_of}
use Rattle.parted_store.specs.Views.{both_of}
use Rattle.partition_store.specs.Parted.{Parted, bits_of, joined}
use Rattle.phase_gate.specs.Around.{around}
use Rattle.run_outcome.specs.Status.{ended}
use Rattle.session_commands.specs.Session.{reported}

pub play-answer-requires-clause-media : goal.play-answer-requires-clause-media
play-answer-requires-clause-media g c κs within =
    let model = disk_model g.D.Disk.seen g.D.Disk.calls g.D.Disk.may_leave g.D.Disk.faults in
    let set = joined c.args.store.sets in
    let own : c.args.store.election ≡ c.writing-session.result.election = sym (c.writing-session.ensures.election ∙ ap (λ (s : Parted). s.election) c.new.ensures) in (
      set,
      λ i few. subst (λ (e : Election). IsMediumNow (along (models_of model model i) both_of) e (share g.P.PartCount.bits i set) c.new-disks.result) own
          (c.new-disks.ensures.media c.args.store.election set c.requires.media i few),
    )

pub returns : goal.returns
returns g c =
    let model = disk_model g.D.Disk.seen g.D.Disk.calls g.D.Disk.may_leave g.D.Disk.faults in
    let bits = g.P.PartCount.bits in
    let start = c.new-disks.result in
    let now = c.play-answer.new.disks in
    let lead = c.play-answer.ensures.leads in
    let first_is : c.disk-1.given.0 ≡ now.first.now = c.disk-1.given.1 (sym (lead.same_first ∙ ap (λ r. r.ghost_name) c.new-disks.ensures.first)) in
    let more_is : c.more-1.given.0 ≡ now.more.now = c.more-1.given.1.1 (sym (lead.same_more ∙ ap (λ r. r.ghost_name) c.new-disks.ensures.more)) in
    let first_was : start.first.now ≡ c.args.disk.now = ap (λ r. r.now) c.new-disks.ensures.first in
    let more_was : start.more.now ≡ c.args.more.now = ap (λ r. r.now) c.new-disks.ensures.more in
    let e = c.args.store.election in
    let set = joined c.args.store.sets in
    let a = ended c.told.result in
    let was = c.args.report.now in
    let report = reported c.play-answer.new.report in
    let old = input g.S.Source.left g.S.Source.faults c.args.script.now in
    let new = input g.S.Source.left g.S.Source.faults c.play-answer.new.script in
    let sink = output g.K.Sink.taken g.K.Sink.faults c.args.out.now in
    let sunk = output g.K.Sink.taken g.K.Sink.faults c.play-answer.new.out in
    let session = c.writing-session in
    let size : 2 ^ bits - 1 ≡ length start.more.now = omega (arith, start.many) in
    let goes : Handles model e set a report old new sink sunk start.first.now now.first.now start.more.now now.more.now = record {
      answer = c.play-answer.result;
      is = status_is model a (2 ^ bits - 1) start.first.now now.first.now start.more.now now.more.now size c.play-answer.result now.failed
          (subst (λ (failed : Option ℕ). EndsAs c.play-answer.result failed a) c.failed.ensures c.told.ensures) c.play-answer.ensures.fails;
      goes_on = λ from same.
          handled model both_of bits e set c.play-answer.result old new sink start (around sunk now c.play-answer.new.report) session.result.writing session.result.election session.result.state
          was.marks.items (map (λ list. list.items) was.others.items) c.len.result (length start.more.now) session.ensures.writing (session.ensures.election ∙ ap (λ (s : Parted). s.election) c.new.ensures)
          (session.ensures.begun ∙ ap (λ (s : Parted). begun (joined s.sets)) c.new.ensures) (ap (λ r. r.marks) c.requires.report) (ap (λ r. r.others) c.requires.report) c.len.ensures.count size
          (sym (ap (λ (more : List g.row.D.Denot). bits_of (length more)) more_was ∙ c.requires.parts)) c.play-answer.ensures.ends from
          (record {
            first = record { ref_ptr = start.first.ref_ptr; ghost_name = start.first.ghost_name; now = from.0 };
            more = record { ref_ptr = start.more.ref_ptr; ghost_name = start.more.ghost_name; now = from.1 };
            failed = start.failed;
            count = start.count;
            many = let many : length from.1 + 1 ≡ 2 ^ bits = omega (arith, same, start.many) in many;
          })
          refl;
      rows = c.play-answer.ensures.others.0;
      no_pair = c.play-answer.ensures.begun ∙ ap (λ r. r.begun) c.requires.report;
    } in
    subst (λ d. Handles model e set a report old new sink sunk c.args.disk.now d c.args.more.now c.more-1.given.0) (sym first_is)
    (subst (λ ds. Handles model e set a report old new sink sunk c.args.disk.now now.first.now c.args.more.now ds) (sym more_is)
    (subst (λ d. Handles model e set a report old new sink sunk d now.first.now c.args.more.now now.more.now) first_was
    (subst (λ ds. Handles model e set a report old new sink sunk start.first.now now.first.now ds now.more.now) more_was goes)))
