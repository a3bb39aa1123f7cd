use Rattle.std.proofs.Common.{◌≡◌, subst}
use Rattle.crash_disk.proofs.Moments.{weaker}
use Rattle.checkpoint.specs.Unused.{IsUnusedOrHolds}
use Rattle.twin_media.proofs.Kept.{filling_kept}
use Rattle.twin_media.proofs.finding.make.Goals as goal
use Rattle.twin_media.specs.Finding.{IsFound}
use Rattle.twin_media.specs.Pairing.{IsKeptOr}

pub renew-requires-clause-held : goal.renew-requires-clause-held
renew-requires-clause-held g c bytes sees = subst (λ found. IsFound c.args.election.now found bytes) c.in-Some.is (c.requires.found bytes sees)

pub fill_unused-requires-clause-unused : goal.fill_unused-requires-clause-unused
fill_unused-requires-clause-unused g c bytes sees = subst (λ found. IsFound c.args.election.now found bytes) c.in-None.is (c.requires.found bytes sees)

pub returns-in-None-clause-any_moment : goal.returns-in-None-clause-any_moment
returns-in-None-clause-any_moment g c bytes sees =
    let e = c.args.election.now in
    let set = c.args.store.now.ballots in
    let unused = subst (λ found. IsFound e found bytes) c.in-None.is (c.requires.found bytes sees) in
    weaker g.D.Disk.calls g.D.Disk.may_leave c.args.disk.now c.fill_unused.new.disk (IsUnusedOrHolds e set) (IsKeptOr e (λ other. other ≡ set) bytes)
    (filling_kept e bytes set unused) (c.fill_unused.ensures.any_moment bytes sees)
