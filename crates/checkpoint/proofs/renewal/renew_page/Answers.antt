use Rattle.std.proofs.Common.{◌≡◌, ◌+◌, ◌≤◌, ℕ, List, Option, length, refl, ◌∙◌, subst}
use Rattle.store_spec.proofs.Common.{IfSome, bank_size, option_map, overwritten, slice_range}
use Rattle.bank_medium.specs.Banks.{place_of}
use Rattle.checkpoint.proofs.Pages.{page_moment, page_same}
use Rattle.checkpoint.proofs.renewal.renew_page.Goals as goal

-- a page that was read, and is the one that is to be written
stands : (new old : Option (List ℕ)) (found page : List ℕ) (p n at j : ℕ) → new ≡ old → found ≡ page → j ≡ length page → at + length page ≤ n
    → IfSome old (λ bytes. found ≡ slice_range (slice_range bytes p (p + n)) at (at + j))
    → new ≡ option_map (overwritten (p + at) page) old
stands new old found page p n at j kept same both within read =
    let there = subst (λ i. IfSome old (λ bytes. found ≡ slice_range (slice_range bytes p (p + n)) at (at + i))) both read in
    kept ∙ page_same old page p n at (length page) within refl (subst (λ (xs : List ℕ). IfSome old (λ bytes. xs ≡ slice_range (slice_range bytes p (p + n)) at (at + length page))) same there)

pub returns-then-same_bytes-clause-written : goal.returns-then-same_bytes-clause-written
returns-then-same_bytes-clause-written g c =
    let e = c.args.election.now in
    let page = c.args.page.now in
    let same : c.read_page.new.out ≡ page = c.same_bytes.ensures.0 c.if-same_bytes.true in
    stands (g.D.Disk.seen c.read_page.new.disk) (g.D.Disk.seen c.args.disk.now) c.read_page.new.out page (place_of e c.args.bank) (bank_size e) c.args.at (length c.args.found.now)
    c.read_page.ensures.same_bytes same c.requires.one_page c.requires.within c.in_ok-read_page.ensures.read

pub returns-clause-any_moment : goal.returns-clause-any_moment
returns-clause-any_moment g c start torn =
    page_moment g.D.Disk.calls g.D.Disk.may_leave g.D.Disk.seen c.args.election.now c.args.bank c.args.at (length c.args.page.now) start c.args.disk.now c.read_page.new.disk c.write_page.new.disk c.requires.within torn c.read_page.ensures.crash_images c.write_page.ensures.crash_images
