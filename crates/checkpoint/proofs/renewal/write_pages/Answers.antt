use Rattle.std.proofs.Common.{◌+◌, ◌≤◌, length, take, ◌∙◌, arith}
use Rattle.store_spec.proofs.Common.{IsTorn, bank_size, overwritten}
use Rattle.bank_medium.specs.Banks.{bank_named, place_of}
use Rattle.checkpoint.proofs.Pages.{page_next, unread_told, whole_pages, written_told}
use Rattle.checkpoint.proofs.Renewing.{bank_within}
use Rattle.checkpoint.proofs.renewal.write_pages.Goals as goal
use Rattle.crash_disk.proofs.Moments.{joined}

pub renew_page-requires-clause-unread : goal.renew_page-requires-clause-unread
renew_page-requires-clause-unread g c =
    let e = c.args.election.now in
    unread_told g.D.Disk.calls g.D.Disk.may_leave g.D.Disk.seen e c.args.bank c.args.disk.now c.loop-at.disk (g.met.D.Disk.crash_images_told c.loop-at.disk)
    (written_told (g.D.Disk.seen c.loop-at.disk) (g.D.Disk.seen c.args.disk.now) (overwritten (place_of e c.args.bank) (take c.loop-at.at c.args.made.now)) c.loop-at.invariant.written)
    c.requires.closed c.loop-at.invariant.torn

pub returns-in_err-renew_page-clause-any_moment : goal.returns-in_err-renew_page-clause-any_moment
returns-in_err-renew_page-clause-any_moment g c old sees =
    let so_far = c.loop-at.invariant.torn old sees in
    joined g.D.Disk.calls g.D.Disk.may_leave c.args.disk.now c.loop-at.disk c.renew_page.new.disk (IsTorn (place_of c.args.election.now c.args.bank) (bank_size c.args.election.now) old) so_far (c.renew_page.ensures.any_moment old so_far.now)

pub loop-at-preserved : goal.loop-at-preserved
loop-at-preserved g c =
    let e = c.args.election.now in
    let p = place_of e c.args.bank in
    let at = c.loop-at.at in
    let count = c.min-count.result in
    let image = c.args.made.now in
    let within : at + count ≤ length image = omega (arith, c.min-count.ensures, c.loop-at-test.true) in
    record {
      few = omega (arith, c.min-count.ensures, c.loop-at-test.true);
      written = page_next (g.D.Disk.seen c.renew_page.new.disk) (g.D.Disk.seen c.loop-at.disk) (g.D.Disk.seen c.args.disk.now) image p at count within (λ x is. omega (arith, c.requires.size x is, bank_within e (bank_named c.args.bank))) c.loop-at.invariant.written c.in_ok-renew_page.ensures.written;
      torn = λ old sees.
          let so_far = c.loop-at.invariant.torn old sees in
          joined g.D.Disk.calls g.D.Disk.may_leave c.args.disk.now c.loop-at.disk c.renew_page.new.disk (IsTorn p (bank_size e) old) so_far (c.renew_page.ensures.any_moment old so_far.now);
      later = omega (arith, c.loop-at.invariant.later, c.renew_page.ensures.calls.later);
      no_fault = c.in_ok-renew_page.ensures.calls.fault.steady ∙ c.loop-at.invariant.no_fault;
      leads = g.met.D.Disk.leads_on _ _ _ c.loop-at.invariant.leads c.renew_page.ensures.calls.leads;
    }

pub returns-clause-written : goal.returns-clause-written
returns-clause-written g c =
    let e = c.args.election.now in
    let all : bank_size e ≤ c.loop-at.at = omega (arith, c.requires.whole, c.loop-at-test.false) in
    whole_pages (g.D.Disk.seen c.loop-at.disk) (g.D.Disk.seen c.args.disk.now) c.args.made.now (place_of e c.args.bank) c.loop-at.at (bank_size e) c.requires.whole all c.loop-at.invariant.written
