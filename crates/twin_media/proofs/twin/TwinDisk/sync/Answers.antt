use Rattle.std.proofs.Common.{ap, arith}
use Rattle.twin_media.proofs.Calls.{one-call, steps-same, to-same, failed-keeps, on-err, failed-outcome}
use Rattle.twin_media.specs.Views.{state_of}
use Rattle.twin_media.proofs.twin.TwinDisk.sync.Goals as goal

pub returns-in_err-counted-2-clause-unsettled : goal.returns-in_err-counted-2-clause-unsettled
returns-in_err-counted-2-clause-unsettled g c =
    let first = g.A.Disk in
    let second = g.B.Disk in
    let twin = c.args.self.now in
    let begun = c.in_ok-begin.ensures in
    let same_first = ap (λ r. r.now) begun.first in
    let same_second = ap (λ r. r.now) begun.second in
    let keeps = failed-outcome c.sync-outcome-2.result c.counted-2.result c.in_err-counted-2.field-0.0 _ c.counted-2.ensures.outcome c.in_err-counted-2.was c.sync-outcome-2.ensures.unsettled in
    on-err c.from_residual-in_err-counted-2.result _
    (failed-keeps first.calls first.may_leave second.calls second.may_leave (λ twin. state_of twin) _ _
    (one-call first.calls second.calls _ _ twin.counted begun.none begun.first_counts begun.first_begun begun.second_begun begun.calls (omega arith))
    begun.passed
    (steps-same first.calls first.may_leave _ _ _ same_first begun.first_counts c.sync-outcome.ensures.crash_images)
    (steps-same second.calls second.may_leave _ _ _ same_second begun.second_counts c.sync-outcome-2.ensures.crash_images)
    (to-same second.calls second.may_leave _ _ _ same_second begun.second_counts keeps))
