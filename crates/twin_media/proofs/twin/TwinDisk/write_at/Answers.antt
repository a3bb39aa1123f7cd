use Rattle.std.proofs.Common.{◌≡◌, ◌∙◌, length, ap, inl, inr, arith}
use Rattle.crash_disk.proofs.TornBytes.{torn-same}
use Rattle.twin_media.proofs.Calls.{one-call, refused-adds, steps-torn, stayed-torn, to-torn, exactly-to, write-tears, write-exactly, passed-outcome}
use Rattle.twin_media.specs.Views.{state_of}
use Rattle.twin_media.proofs.twin.TwinDisk.write_at.Goals as goal

-- the call was refused
pub returns-in_err-begin-clause-crash_images : goal.returns-in_err-begin-clause-crash_images
returns-in_err-begin-clause-crash_images g c =
    let first = g.A.Disk in
    let second = g.B.Disk in
    let began = c.begin.ensures in
    refused-adds first.calls first.may_leave second.calls second.may_leave (λ twin. state_of twin) _ _ _ c.args.self.now.counted
    (ap (λ r. r.now) began.first) (ap (λ r. r.now) began.second) began.first_begun began.second_begun began.passed began.calls
    (λ image left. (image, left, torn-same c.args.at (length c.args.bytes.now) image))

-- it failed on the first disk
pub returns-in_err-counted-clause-crash_images : goal.returns-in_err-counted-clause-crash_images
returns-in_err-counted-clause-crash_images g c =
    let first = g.A.Disk in
    let second = g.B.Disk in
    let at = c.args.at in
    let n = length c.args.bytes.now in
    let twin = c.args.self.now in
    let begun = c.in_ok-begin.ensures in
    write-tears first.calls first.may_leave second.calls second.may_leave (λ twin. state_of twin) at n _ _
    (one-call first.calls second.calls _ _ twin.counted begun.none begun.first_counts begun.first_begun begun.second_begun begun.calls (omega arith))
    (inl begun.passed)
    (steps-torn first.calls first.may_leave at n _ _ _ (ap (λ r. r.now) begun.first) begun.first_counts c.write_at-outcome.ensures.crash_images)
    (stayed-torn second.calls second.may_leave at n _ _ (ap (λ r. r.now) begun.second))

-- it failed on the second
pub returns-in_err-counted-2-clause-crash_images : goal.returns-in_err-counted-2-clause-crash_images
returns-in_err-counted-2-clause-crash_images g c =
    let first = g.A.Disk in
    let second = g.B.Disk in
    let at = c.args.at in
    let n = length c.args.bytes.now in
    let twin = c.args.self.now in
    let begun = c.in_ok-begin.ensures in
    write-tears first.calls first.may_leave second.calls second.may_leave (λ twin. state_of twin) at n _ _
    (one-call first.calls second.calls _ _ twin.counted begun.none begun.first_counts begun.first_begun begun.second_begun begun.calls (omega arith))
    (inl begun.passed)
    (steps-torn first.calls first.may_leave at n _ _ _ (ap (λ r. r.now) begun.first) begun.first_counts c.write_at-outcome.ensures.crash_images)
    (steps-torn second.calls second.may_leave at n _ _ _ (ap (λ r. r.now) begun.second) begun.second_counts c.write_at-outcome-2.ensures.crash_images)

-- it succeeded on both
pub returns-clause-any_bytes : goal.returns-clause-any_bytes
returns-clause-any_bytes g c =
    let first = g.A.Disk in
    let second = g.B.Disk in
    let at = c.args.at in
    let n = length c.args.bytes.now in
    let twin = c.args.self.now in
    let begun = c.in_ok-begin.ensures in
    let ended = c.end.new.self in
    let same_first = ap (λ r. r.now) begun.first in
    let same_second = ap (λ r. r.now) begun.second in
    let first_wrote = exactly-to first.calls first.may_leave at n _ _ _ (ap (λ r. r.now) c.end.ensures.first) (passed-outcome c.write_at-outcome.result c.counted.result c.in_ok-counted.field-0 _ c.counted.ensures.outcome c.in_ok-counted.was c.write_at-outcome.ensures.any_bytes) in
    let second_wrote = exactly-to second.calls second.may_leave at n _ _ _ (ap (λ r. r.now) c.end.ensures.second) (passed-outcome c.write_at-outcome-2.result c.counted-2.result c.in_ok-counted-2.field-0 _ c.counted-2.ensures.outcome c.in_ok-counted-2.was c.write_at-outcome-2.ensures.any_bytes) in
    let all : ended.passed ≡ first.calls ended.first.now = omega (arith, ended.counted.all_passed c.end.ensures.failed, ended.counted.first_passed, ended.counted.first_counted) in
    write-exactly first.calls first.may_leave second.calls second.may_leave (λ twin. state_of twin) at n _ _
    (one-call first.calls second.calls _ _ twin.counted begun.none begun.first_counts (c.end.ensures.first_begun ∙ begun.first_begun) (c.end.ensures.second_begun ∙ begun.second_begun) (c.end.ensures.calls ∙ begun.calls) (omega (arith, begun.passed, c.end.ensures.passed)))
    (inr all)
    (steps-torn first.calls first.may_leave at n _ _ _ same_first begun.first_counts first_wrote.at_most)
    (steps-torn second.calls second.may_leave at n _ _ _ same_second begun.second_counts second_wrote.at_most)
    (to-torn first.calls first.may_leave at n _ _ _ same_first begun.first_counts first_wrote)
    (to-torn second.calls second.may_leave at n _ _ _ same_second begun.second_counts second_wrote)

pub returns-clause-crash_images : goal.returns-clause-crash_images
returns-clause-crash_images g c = (returns-clause-any_bytes g c).at_most
