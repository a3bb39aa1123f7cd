use Rattle.std.proofs.Common.{length, arith}
use Rattle.store_spec.proofs.Common.{IsTorn}
use Rattle.crash_disk.proofs.Moments.{started, goes_on_write, goes_on_same, settled-torn}
use Rattle.disk_tests.proofs.layer.replace.Goals as goal

pub returns-in_err-write_at-clause-any_moment : goal.returns-in_err-write_at-clause-any_moment
returns-in_err-write_at-clause-any_moment g c old sees =
    let calls = g.D.Disk.calls in
    let leaves = g.D.Disk.may_leave in
    let at = c.args.at in
    let n = length c.args.bytes.now in
    let disk = c.args.disk.now in
    let untorn = settled-torn calls leaves g.D.Disk.seen at n disk old c.requires.settled sees in
    goes_on_write calls leaves at n at n old disk disk c.write_at.new.self (IsTorn at n old) (started calls leaves disk (IsTorn at n old) untorn) untorn (omega arith) (omega arith) c.write_at.ensures.crash_images (λ _ torn. torn)

pub returns-clause-any_moment : goal.returns-clause-any_moment
returns-clause-any_moment g c old sees =
    let calls = g.D.Disk.calls in
    let leaves = g.D.Disk.may_leave in
    let at = c.args.at in
    let n = length c.args.bytes.now in
    let disk = c.args.disk.now in
    let untorn = settled-torn calls leaves g.D.Disk.seen at n disk old c.requires.settled sees in
    let written = goes_on_write calls leaves at n at n old disk disk c.write_at.new.self (IsTorn at n old) (started calls leaves disk (IsTorn at n old) untorn) untorn (omega arith) (omega arith) c.write_at.ensures.crash_images (λ _ torn. torn) in
    goes_on_same calls leaves disk c.write_at.new.self c.sync.new.self (IsTorn at n old) written c.sync.ensures.crash_images
