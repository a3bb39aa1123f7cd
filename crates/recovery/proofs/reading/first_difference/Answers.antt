use Rattle.std.proofs.Common.{ℕ, ◌+◌, subst, arith, ◌∙◌}
use Rattle.store_spec.proofs.Common.{IfSome, slice_range}
use Rattle.bank_medium.specs.Banks.{bank_named, bytes_of}
use Rattle.checkpoint.proofs.Pages.{page_long}
use Rattle.recovery.proofs.Differences.{none_of}
use Rattle.recovery.proofs.OnlyReading.{nothing_on}
use Rattle.recovery.proofs.Paging.{agrees_told, differs_told, whole_told}
use Rattle.recovery.proofs.reading.first_difference.Goals as goal
use Rattle.recovery.specs.Differing.{IsFirstDifference}

pub returns-in-Some-clause-difference : goal.returns-in-Some-clause-difference
returns-in-Some-clause-difference g c =
    let e = c.args.election.now in
    let made = c.args.made.now in
    let at = c.loop-at.at in
    let long = page_long made at c.min-count.result (omega (arith, c.min-count.ensures, c.loop-at-test.true)) in
    let here = subst (λ (j : ℕ). IfSome (g.D.Disk.seen c.loop-at.disk) (λ bytes. IsFirstDifference (slice_range (bytes_of e c.args.bank bytes) at (at + j)) (slice_range made at (at + c.min-count.result)) c.in_ok-place.field-0)) long c.in_ok-place.ensures.difference in
    differs_told e (bank_named c.args.bank) made (g.D.Disk.seen c.args.disk.now) (g.D.Disk.seen c.loop-at.disk) at c.min-count.result
    c.in-Some.place c.in_ok-place.field-0 c.in-Some.is c.loop-at.invariant.reads.same_bytes c.loop-at.invariant.same here

pub loop-at-preserved : goal.loop-at-preserved
loop-at-preserved g c =
    let e = c.args.election.now in
    let made = c.args.made.now in
    let at = c.loop-at.at in
    let long = page_long made at c.min-count.result (omega (arith, c.min-count.ensures, c.loop-at-test.true)) in
    let here = subst (λ (j : ℕ). IfSome (g.D.Disk.seen c.loop-at.disk) (λ bytes. IsFirstDifference (slice_range (bytes_of e c.args.bank bytes) at (at + j)) (slice_range made at (at + c.min-count.result)) c.in_ok-place.field-0)) long c.in_ok-place.ensures.difference in
    record {
      few = omega (arith, c.min-count.ensures, c.loop-at-test.true);
      same = agrees_told e (bank_named c.args.bank) made (g.D.Disk.seen c.args.disk.now) (g.D.Disk.seen c.loop-at.disk) at c.min-count.result c.in_ok-place.field-0 (none_of c.in_ok-place.field-0 c.in_default.not-Some) c.loop-at.invariant.reads.same_bytes c.loop-at.invariant.same here;
      reads = nothing_on g.D.Disk.seen g.D.Disk.calls g.D.Disk.may_leave c.args.disk.now c.loop-at.disk c.page_difference.new.disk c.loop-at.invariant.reads c.page_difference.ensures.same_bytes c.page_difference.ensures.crash_images;
      no_fault = c.in_ok-place.ensures.calls.fault.steady ∙ c.loop-at.invariant.no_fault;
      leads = g.met.D.Disk.leads_on _ _ _ c.loop-at.invariant.leads c.page_difference.ensures.calls.leads;
    }

pub returns-clause-difference : goal.returns-clause-difference
returns-clause-difference g c =
    let e = c.args.election.now in
    whole_told e (bank_named c.args.bank) c.args.made.now (g.D.Disk.seen c.args.disk.now) c.loop-at.at c.requires.size c.requires.whole
    (omega (arith, c.requires.whole, c.loop-at-test.false)) c.loop-at.invariant.same
