use Rattle.std.proofs.Common.{◌≡◌}
use Rattle.store_spec.proofs.Common.{option_map}
use Rattle.crash_disk.proofs.Moments.{settled-only, started}
use Rattle.twin_media.proofs.Kept.{found_kept}
use Rattle.twin_media.proofs.pairing.make_both.Goals as goal
use Rattle.twin_media.specs.Pairing.{IsKeptOr}

pub returns-in-Err-clause-second_moments : goal.returns-in-Err-clause-second_moments
returns-in-Err-clause-second_moments g c bytes sees =
    let e = c.args.election.now in
    let set = c.args.store.now.ballots in
    started g.B.Disk.calls g.B.Disk.may_leave c.args.second.now (IsKeptOr e (λ other. other ≡ set) bytes)
    (λ image left. found_kept e bytes (λ other. other ≡ set) (option_map (λ held. held.now) c.args.two) (c.requires.second_found bytes sees) image
    (settled-only g.B.Disk.calls g.B.Disk.may_leave g.B.Disk.seen c.args.second.now bytes image c.requires.second_settled sees left))
