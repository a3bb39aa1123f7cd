use Rattle.std.proofs.Common.{◌≡◌, ap, ◌∙◌, [], ◌∷◌}
use Rattle.store_spec.proofs.Common.{gate_place, open_gate, option_map, overwritten}
use Rattle.bank_medium.specs.Banks.{bank_named, place_of}
use Rattle.checkpoint.proofs.Filling.{run_opening, run_pages, run_settling}
use Rattle.checkpoint.proofs.Pages.{on_ok}
use Rattle.checkpoint.proofs.Renewing.{filled_told}
use Rattle.checkpoint.proofs.renewal.fill_bank.Goals as goal

pub returns-in_err-write_pages-clause-any_moment : goal.returns-in_err-write_pages-clause-any_moment
returns-in_err-write_pages-clause-any_moment g c old sees =
    let e = c.args.election.now in
    let bank = bank_named c.args.bank in
    let image = c.args.made.now in
    run_pages g.D.Disk.calls g.D.Disk.may_leave e bank image old (c.requires.size old sees) c.args.disk.now c.write_pages.new.disk c.requires.whole (c.requires.closed old sees) (c.write_pages.ensures.any_moment old sees)

pub returns-in_err-settle-clause-any_moment : goal.returns-in_err-settle-clause-any_moment
returns-in_err-settle-clause-any_moment g c old sees =
    let e = c.args.election.now in
    let bank = bank_named c.args.bank in
    let image = c.args.made.now in
    let long = c.requires.size old sees in
    let pages = run_pages g.D.Disk.calls g.D.Disk.may_leave e bank image old long c.args.disk.now c.write_pages.new.disk c.requires.whole (c.requires.closed old sees) (c.write_pages.ensures.any_moment old sees) in
    run_settling g.D.Disk.calls g.D.Disk.may_leave e bank image old long c.args.disk.now c.write_pages.new.disk c.settle.new.disk pages c.settle.ensures.crash_images

pub returns-clause-any_moment : goal.returns-clause-any_moment
returns-clause-any_moment g c old sees =
    let e = c.args.election.now in
    let bank = bank_named c.args.bank in
    let image = c.args.made.now in
    let long = c.requires.size old sees in
    let pages = run_pages g.D.Disk.calls g.D.Disk.may_leave e bank image old long c.args.disk.now c.write_pages.new.disk c.requires.whole (c.requires.closed old sees) (c.write_pages.ensures.any_moment old sees) in
    let settled = run_settling g.D.Disk.calls g.D.Disk.may_leave e bank image old long c.args.disk.now c.write_pages.new.disk c.settle.new.disk pages c.settle.ensures.crash_images in
    let sees_mid = c.in_ok-settle.ensures.same_bytes ∙ c.in_ok-write_pages.ensures.written ∙ ap (option_map (overwritten (place_of e c.args.bank) image)) sees in
    run_opening g.D.Disk.calls g.D.Disk.may_leave e bank image old long c.args.disk.now c.settle.new.disk c.open_gate.new.disk c.requires.whole settled (c.open_gate.ensures.any_moment (overwritten (place_of e c.args.bank) image old) sees_mid)

pub returns-clause-renewed : goal.returns-clause-renewed
returns-clause-renewed g c =
    let e = c.args.election.now in
    let bank = bank_named c.args.bank in
    let image = c.args.made.now in
    on_ok (g.D.Disk.seen c.open_gate.new.disk ≡ option_map (overwritten (gate_place e bank) (open_gate ∷ [])) (g.D.Disk.seen c.settle.new.disk)) c.open_gate.result c.open_gate.ensures.written
    (λ opened. record {
      told = c.open_gate.ensures.calls.told ∙ c.settle.ensures.calls.told ∙ c.write_pages.ensures.calls.told;
      related = filled_told e bank image (g.D.Disk.seen c.args.disk.now) (g.D.Disk.seen c.write_pages.new.disk) (g.D.Disk.seen c.settle.new.disk) (g.D.Disk.seen c.open_gate.new.disk) c.requires.whole c.requires.size c.in_ok-write_pages.ensures.written c.in_ok-settle.ensures.same_bytes opened;
    })
