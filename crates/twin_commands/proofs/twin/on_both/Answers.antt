use Rattle.std.proofs.Common.{◌≡◌, ℕ, ◌+◌, ◌<◌, ◌∙◌, ◌⊎◌, Err, sym, ap, subst}
use Rattle.store_spec.proofs.Common.{disk_model, last_count}
use Rattle.outside_io.specs.Outside.{input, output}
use Rattle.phase_gate.specs.Around.{with_rows}
use Rattle.run_outcome.specs.Status.{ended}
use Rattle.session_commands.specs.Session.{reported}
use Rattle.twin_commands.proofs.twin.on_both.Goals as goal
use Rattle.any_store.specs.Checkpointed.{IsMediumNow}
use Rattle.twin_commands.proofs.Continuing.{continues}
use Rattle.session_run.specs.declared.fault.RunFault.TheVariants as run
use Rattle.twin_commands.proofs.Both.{both, both_lead}
use Rattle.twin_commands.specs.Twin.{Continues, FailsSync, SyncsAndGoesOn, around_disk}
use Rattle.twin_media.specs.TwinLaws.{twin-itself}
use Rattle.twin_media.specs.Views.{state_of}

pub returns : goal.returns
returns g c =
    let m = disk_model g.A.Disk.seen g.A.Disk.calls g.A.Disk.may_leave g.A.Disk.faults in
    let n = disk_model g.B.Disk.seen g.B.Disk.calls g.B.Disk.may_leave g.B.Disk.faults in
    let start = c.new-twin.result in
    let now = c.on_twin.new.twin in
    let lead = c.on_twin.ensures.leads in
    let first_is : c.first-1.given.0 ≡ now.first.now = c.first-1.given.1 (sym (lead.same_first ∙ ap (λ r. r.ghost_name) c.new-twin.ensures.first)) in
    let second_is : c.second-1.given.0 ≡ now.second.now = c.second-1.given.1 (sym (lead.same_second ∙ ap (λ r. r.ghost_name) c.new-twin.ensures.second)) in
    let first_was : start.first.now ≡ c.args.first.now = ap (λ r. r.now) c.new-twin.ensures.first in
    let second_was : start.second.now ≡ c.args.second.now = ap (λ r. r.now) c.new-twin.ensures.second in
    let e = c.args.store.election in
    let set = c.args.store.ballots in
    let a = ended c.on_twin.result in
    let report = reported c.on_twin.new.report in
    let old = input g.S.Source.left g.S.Source.faults c.args.script.now in
    let new = input g.S.Source.left g.S.Source.faults c.on_twin.new.script in
    let sink = output g.K.Sink.taken g.K.Sink.faults c.args.out.now in
    let sunk = output g.K.Sink.taken g.K.Sink.faults c.on_twin.new.out in
    let twin = both m g.A.Disk.leads_to n g.B.Disk.leads_to state_of in
    let answer = c.on_twin.ensures.ends.0 in
    let Either : ℕ × ℕ → Type 0 = λ begun. ((answer ≡ Err run.DiskFault) × FailsSync twin old new sink sunk (reported c.args.report.now) report start now)
    ⊎ SyncsAndGoesOn twin (both_lead m g.A.Disk.leads_to n g.B.Disk.leads_to state_of) e set c.args.paired answer begun old new sink (with_rows (around_disk sunk now report.marks report.held) report.others) report start in
    let one : c.calls.result ≡ g.A.Disk.calls start.first.now = c.calls.ensures ∙ sym (ap g.A.Disk.calls first_was) in
    let two : c.calls-2.result ≡ g.B.Disk.calls start.second.now = c.calls-2.ensures ∙ sym (ap g.B.Disk.calls second_was) in
    let either : Either (g.A.Disk.calls start.first.now, g.B.Disk.calls start.second.now) =
    subst (λ k. Either (k, g.B.Disk.calls start.second.now)) one (subst (λ k. Either (c.calls.result, k)) two c.on_twin.ensures.ends.1) in
    let goes : Continues m n e set c.args.paired a report old new sink sunk start.first.now now.first.now start.second.now now.second.now =
    continues m g.A.Disk.leads_to n g.B.Disk.leads_to state_of (record {
      counted = λ t. t.counted;
      bounded = g.met.B.Disk.counted_calls;
      alike = λ t. t.alike;
      itself = λ t. twin-itself m g.A.Disk.leads_to n g.B.Disk.leads_to g.met.A.Disk.leads_to_itself g.met.B.Disk.leads_to_itself (state_of t);
    }) start now
    (record {
      none = c.new-twin.ensures.failed;
      calls = c.new-twin.ensures.calls ∙ sym (ap g.A.Disk.calls first_was);
      passed = c.new-twin.ensures.passed ∙ sym (ap g.A.Disk.calls first_was);
      first_begun = c.new-twin.ensures.first_begun ∙ sym (ap g.A.Disk.calls first_was);
      second_begun = c.new-twin.ensures.second_begun ∙ sym (ap g.B.Disk.calls second_was);
      few = subst (λ d. g.A.Disk.calls d + 2 < last_count) (sym first_was) c.requires.few;
      alike = ap g.A.Disk.seen first_was ∙ c.requires.alike ∙ sym (ap g.B.Disk.seen second_was);
      settled = c.new-twin.ensures.settled;
      law = g.met.A.Disk.seen_is_crash_image;
      other_law = g.met.B.Disk.seen_is_crash_image;
    })
    lead c.args.store c.requires.stored c.requires.election
    (subst (IsMediumNow m e set) (sym first_was) c.requires.first_medium) (subst (IsMediumNow n e set) (sym second_was) c.requires.second_medium)
    now.alike c.new-twin.ensures.faults now.named c.args.paired a report old new sink sunk answer
    c.on_twin.ensures.ends.2 c.on_twin.ensures.ends.3 c.on_twin.ensures.ends.4 (reported c.args.report.now) c.requires.report either in
    subst (λ d. Continues m n e set c.args.paired a report old new sink sunk c.args.first.now d c.args.second.now c.second-1.given.0) (sym first_is)
    (subst (λ d. Continues m n e set c.args.paired a report old new sink sunk c.args.first.now now.first.now c.args.second.now d) (sym second_is)
    (subst (λ d. Continues m n e set c.args.paired a report old new sink sunk d now.first.now c.args.second.now now.second.now) first_was
    (subst (λ d. Continues m n e set c.args.paired a report old new sink sunk start.first.now now.first.now d now.second.now) second_was goes)))
