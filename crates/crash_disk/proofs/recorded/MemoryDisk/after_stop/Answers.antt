use Rattle.std.proofs.Common.{◌≡◌, ℕ, List, Option, Some, sym, subst}
use Rattle.store_spec.proofs.Common.{IfOk-weaker, IfSome}
use Rattle.crash_disk.proofs.Stops.{left_now}
use Rattle.crash_disk.proofs.recorded.MemoryDisk.after_stop.Goals as goal
use Rattle.crash_disk.specs.Notes.{left_of}
use Rattle.crash_disk.specs.Recorded.{recorded_sees}
use Rattle.crash_disk.specs.Stop.{moment_of}

pub returns-clause-image : goal.returns-clause-image
returns-clause-image c =
    let m = c.args.self.now.recording in
    let moment = moment_of c.args.calls c.args.inside in
    let bytes = c.in_ok-bytes.bytes.items in
    let image : left_of m moment bytes = subst (λ (xs : List ℕ). left_of m moment xs) (sym c.in_ok-bytes.ensures.left) (left_now m c.args.torn moment).image in
    IfOk-weaker c.new-2.result (λ stopped. recorded_sees stopped ≡ Some bytes) (λ stopped. IfSome (recorded_sees stopped) (left_of m moment))
    (λ stopped is. subst (λ (o : Option (List ℕ)). IfSome o (left_of m moment)) (sym is) image) c.new-2.ensures.bytes
