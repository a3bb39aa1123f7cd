use Rattle.std.proofs.Common.{◌+◌, ◌*◌, ◌≤◌, length, ◌∙◌, arith, refl, rules}
use Rattle.store_spec.proofs.Common.{bank_size, common_steps, slice_range}
use Rattle.bank_medium.specs.Banks.{bank_named, place_of}
use Rattle.checkpoint.proofs.Pages.{page_long, page_next, whole_pages}
use Rattle.checkpoint.proofs.Renewing.{bank_ends}
use Rattle.checkpoint.proofs.Starting.{run_page}
use Rattle.checkpoint.proofs.fresh.write_each_page.Goals as goal

pub returns-in_err-write_page-clause-any_moment : goal.returns-in_err-write_page-clause-any_moment
returns-in_err-write_page-clause-any_moment g c =
    let e = c.args.election.now in
    let p = place_of e c.args.bank in
    let at = c.loop-at.at in
    let count = c.min-count.result in
    let k = length (slice_range c.args.made.now at (at + count)) in
    let long = page_long c.args.made.now at count (omega (arith, c.min-count.ensures, c.loop-at-test.true)) in
    let within : p + at + k ≤ 2 * bank_size e = omega (arith, long, c.requires.whole, c.min-count.ensures, c.loop-at-test.true, bank_ends e (bank_named c.args.bank)) in
    run_page g.D.Disk.calls g.D.Disk.may_leave e c.args.disk.now c.loop-at.disk c.write_page.new.disk (p + at) k within c.loop-at.invariant.unused c.write_page.ensures.crash_images

pub loop-at-init : goal.loop-at-init
loop-at-init g c = record { few = omega arith; written = grind (arith, common_steps); unused = search rules; no_fault = refl; leads = g.met.D.Disk.leads_to_itself c.args.disk.now }

pub loop-at-preserved : goal.loop-at-preserved
loop-at-preserved g c =
    let e = c.args.election.now in
    let p = place_of e c.args.bank in
    let at = c.loop-at.at in
    let count = c.min-count.result in
    let image = c.args.made.now in
    let within : at + count ≤ length image = omega (arith, c.min-count.ensures, c.loop-at-test.true) in
    let k = length (slice_range image at (at + count)) in
    let ends : p + at + k ≤ 2 * bank_size e = omega (arith, page_long image at count within, c.requires.whole, c.min-count.ensures, c.loop-at-test.true, bank_ends e (bank_named c.args.bank)) in
    record {
      few = omega (arith, c.min-count.ensures, c.loop-at-test.true);
      written = page_next (g.D.Disk.seen c.write_page.new.disk) (g.D.Disk.seen c.loop-at.disk) (g.D.Disk.seen c.args.disk.now) image p at count within c.requires.begins c.loop-at.invariant.written c.in_ok-write_page.ensures.written;
      unused = run_page g.D.Disk.calls g.D.Disk.may_leave e c.args.disk.now c.loop-at.disk c.write_page.new.disk (p + at) k ends c.loop-at.invariant.unused c.write_page.ensures.crash_images;
      no_fault = c.in_ok-write_page.ensures.calls.fault.steady ∙ c.loop-at.invariant.no_fault;
      leads = g.met.D.Disk.leads_on _ _ _ c.loop-at.invariant.leads c.write_page.ensures.calls.leads;
    }

pub returns-clause-written : goal.returns-clause-written
returns-clause-written g c =
    let e = c.args.election.now in
    let all : bank_size e ≤ c.loop-at.at = omega (arith, c.requires.whole, c.loop-at-test.false) in
    whole_pages (g.D.Disk.seen c.loop-at.disk) (g.D.Disk.seen c.args.disk.now) c.args.made.now (place_of e c.args.bank) c.loop-at.at (bank_size e) c.requires.whole all c.loop-at.invariant.written
