use Rattle.std.proofs.Common.{◌≡◌, ◌∙◌, arith}
use Rattle.store_spec.proofs.Common.{IsUnused, bank_size}
use Rattle.checkpoint.proofs.Pages.{on_ok, pages_begin}
use Rattle.checkpoint.proofs.Starting.{banks_told}
use Rattle.checkpoint.proofs.fresh.write_banks.Goals as goal
use Rattle.crash_disk.proofs.Moments.{goes_on_same, joined}

pub write_each_page-requires-2-clause-begins : goal.write_each_page-requires-2-clause-begins
write_each_page-requires-2-clause-begins g c y is =
    let e = c.args.election.now in
    let here = pages_begin (g.D.Disk.seen c.write_each_page.new.disk) (g.D.Disk.seen c.args.disk.now) c.args.made.now 0 (bank_size e) c.requires.whole (λ x _. omega arith) c.in_ok-write_each_page.ensures.written y is in
    omega (arith, here)

pub returns-clause-written : goal.returns-clause-written
returns-clause-written g c =
    let e = c.args.election.now in
    on_ok (g.D.Disk.seen c.settle.new.disk ≡ g.D.Disk.seen c.write_each_page-2.new.disk) c.settle.result c.settle.ensures.same_bytes
    (λ same. same ∙ banks_told (g.D.Disk.seen c.write_each_page-2.new.disk) (g.D.Disk.seen c.write_each_page.new.disk) (g.D.Disk.seen c.args.disk.now) c.args.made.now (bank_size e) c.requires.whole c.in_ok-write_each_page.ensures.written c.in_ok-write_each_page-2.ensures.written)

pub returns-clause-any_moment : goal.returns-clause-any_moment
returns-clause-any_moment g c =
    let P = IsUnused c.args.election.now in
    goes_on_same g.D.Disk.calls g.D.Disk.may_leave c.args.disk.now c.write_each_page-2.new.disk c.settle.new.disk P
    (joined g.D.Disk.calls g.D.Disk.may_leave c.args.disk.now c.write_each_page.new.disk c.write_each_page-2.new.disk P c.write_each_page.ensures.any_moment c.write_each_page-2.ensures.any_moment)
    c.settle.ensures.crash_images
