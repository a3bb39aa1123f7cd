use Rattle.crash_disk.proofs.Moments.{started, goes_on_write, goes_on_same, torn-after_write, settled-torn}
use Rattle.store_spec.proofs.Common.{IsTorn}
use Rattle.crash_disk.proofs.laws.two_writes_and_a_sync.Goals as goal

pub returns : goal.returns
returns g c settled one two synced bytes at n from k then j is_settled sees begins ends begins_next ends_next first next last =
    let calls = g.D.Disk.calls in
    let may_leave = g.D.Disk.may_leave in
    let untorn = settled-torn calls may_leave g.D.Disk.seen at n settled bytes is_settled sees in
    let once = torn-after_write calls may_leave at n from k bytes settled one untorn begins ends first in
    let run = started calls may_leave settled (IsTorn at n bytes) untorn in
    let run_one = goes_on_write calls may_leave at n from k bytes settled settled one (IsTorn at n bytes) run untorn begins ends first (λ c torn. torn) in
    let run_two = goes_on_write calls may_leave at n then j bytes settled one two (IsTorn at n bytes) run_one once begins_next ends_next next (λ c torn. torn) in
    goes_on_same calls may_leave settled two synced (IsTorn at n bytes) run_two last
