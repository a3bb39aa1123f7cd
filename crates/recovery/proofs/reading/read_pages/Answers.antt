use Rattle.std.proofs.Common.{◌≡◌, ℕ, ◌+◌, ◌-◌, ◌≤◌, ◌++◌, List, length, take, drop, arith, ap, refl, subst, ◌∙◌}
use Rattle.store_spec.proofs.Common.{IfSome, err_from_is_err_and, length-drop, length-take-le, slice_range}
use Rattle.std.proofs.lemmas.Slice.{take-put_mid}
use borrow.Rule.Slice.PartMut.{put_mid, same_len_mid}
use Rattle.bank_medium.specs.Banks.{bank_named, bytes_of}
use Rattle.image_builder.specs.Feeding.{Feeding}
use Rattle.recovery.proofs.OnlyReading.{nothing_on}
use Rattle.recovery.proofs.Paging.{IsFedFrom, all_told, fed_more, refused_told}
use Rattle.recovery.proofs.reading.read_pages.Goals as goal

-- the next page is kept behind those before it
kept_more : (made page : List ℕ) (at count : ℕ) → at + count ≤ length made → length page ≡ count → take (at + count) (put_mid at (at + count - at) made page) ≡ take at made ++ page
kept_more made page at count within long = take-put_mid at (at + count - at) made page (at + count) (omega arith) (omega arith)

pub judge-requires-clause-judged : goal.judge-requires-clause-judged
judge-requires-clause-judged g c =
    let at = c.loop-at.at in
    let count = c.min-count.result in
    let made = c.loop-at.made in
    let page = c.read_page.new.out in
    let within : at + count ≤ length made = omega (arith, c.loop-at.invariant.long, c.min-count.ensures, c.loop-at-test.true) in
    let long : length page ≡ count = omega (arith, c.read_page.auto.out, length-take-le (at + count - at) (drop at made) (omega (arith, within, length-drop at made))) in
    (take at made, page, c.loop-at.invariant.judged, kept_more made page at count within long)

pub returns-in_err-judge-clause-refused : goal.returns-in_err-judge-clause-refused
returns-in_err-judge-clause-refused g c =
    let e = c.args.election.now in
    let at = c.loop-at.at in
    let count = c.min-count.result in
    let made = c.loop-at.made in
    let page = c.read_page.new.out in
    let within : at + count ≤ length made = omega (arith, c.loop-at.invariant.long, c.min-count.ensures, c.loop-at-test.true) in
    let k = length (take (at + count - at) (drop at made)) in
    let long : length page ≡ count = omega (arith, c.read_page.auto.out, length-take-le (at + count - at) (drop at made) (omega (arith, within, length-drop at made))) in
    let refused = c.in_err-judge.ensures.refused (take at made) page c.loop-at.invariant.judged (kept_more made page at count within long) in
    let p = err_from_is_err_and c.from_residual-in_err-judge.result c.from_residual-in_err-judge.ensures.1 in
    rw (p.1, p.2)
    (refused_told e (bank_named c.args.bank) (g.D.Disk.seen c.args.disk.now) (g.D.Disk.seen c.loop-at.disk) at k (record { election = e; fed = take at made }) page c.in_err-judge.field-0.0
    c.loop-at.invariant.reads.same_bytes c.loop-at.invariant.fed c.requires.from c.in_ok-read_page.ensures.read refused)

pub loop-at-preserved : goal.loop-at-preserved
loop-at-preserved g c =
    let e = c.args.election.now in
    let at = c.loop-at.at in
    let count = c.min-count.result in
    let made = c.loop-at.made in
    let page = c.read_page.new.out in
    let feeding : List ℕ → Feeding = λ bytes. record { election = e; fed = bytes } in
    let within : at + count ≤ length made = omega (arith, c.loop-at.invariant.long, c.min-count.ensures, c.loop-at-test.true) in
    let k = length (take (at + count - at) (drop at made)) in
    let asked : k ≡ count = omega (arith, within, length-take-le (at + count - at) (drop at made) (omega (arith, within, length-drop at made))) in
    let kept : k ≡ length page = omega (arith, c.read_page.auto.out) in
    let long : length page ≡ count = omega (arith, asked, kept) in
    let all = kept_more made page at count within long in
    let here = subst (λ (j : ℕ). IfSome (g.D.Disk.seen c.loop-at.disk) (λ bytes. page ≡ slice_range (bytes_of e c.args.bank bytes) at (at + j))) kept c.in_ok-read_page.ensures.read in
    let next = feeding (take (at + count) (put_mid at (at + count - at) made page)) in
    let fed = fed_more e (bank_named c.args.bank) (g.D.Disk.seen c.args.disk.now) (g.D.Disk.seen c.loop-at.disk) at (length page) (feeding (take at made)) next page c.loop-at.invariant.reads.same_bytes refl c.loop-at.invariant.fed here (ap feeding all) in
    record {
      few = omega (arith, c.min-count.ensures, c.loop-at-test.true);
      long = same_len_mid at (at + count - at) made page c.read_page.auto.out ∙ c.loop-at.invariant.long;
      judged = c.in_ok-judge.ensures.judged;
      fed = subst (λ (n : ℕ). IsFedFrom e (bank_named c.args.bank) (g.D.Disk.seen c.args.disk.now) (at + n) next) long fed;
      reads = nothing_on g.D.Disk.seen g.D.Disk.calls g.D.Disk.may_leave c.args.disk.now c.loop-at.disk c.read_page.new.disk c.loop-at.invariant.reads c.read_page.ensures.same_bytes c.read_page.ensures.crash_images;
      no_fault = c.in_ok-read_page.ensures.calls.fault.steady ∙ c.loop-at.invariant.no_fault;
      leads = g.met.D.Disk.leads_on _ _ _ c.loop-at.invariant.leads c.read_page.ensures.calls.leads;
    }

pub returns-clause-read : goal.returns-clause-read
returns-clause-read g c =
    all_told c.args.election.now (bank_named c.args.bank) (g.D.Disk.seen c.args.disk.now) c.loop-at.at c.loop-at.made
    (omega (arith, c.requires.whole, c.loop-at-test.false)) (c.loop-at.invariant.long ∙ c.requires.whole) c.loop-at.invariant.fed c.requires.from
