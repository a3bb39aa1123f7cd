use Rattle.std.proofs.Common.{◌≡◌, ℕ, List, inr, ⊎_elim, refl, sym, subst}
use Rattle.store_spec.proofs.Common.{Election, HoldsSet, IsMediumOf, LeavesOnly}
use Rattle.std.specs.Prelude.{◌⊎◌}
use Rattle.checkpoint.proofs.Pages.{on_ok, told_back}
use Rattle.crash_disk.proofs.Moments.{joined, weaker}
use Rattle.outside_io.specs.Told.{IfTold}
use Rattle.recovery.proofs.Recovered.{medium_now, medium_then}
use Rattle.twin_media.proofs.Kept.{mended_kept}
use Rattle.twin_media.proofs.finding.renew.Goals as goal
use Rattle.twin_media.specs.Pairing.{IsKeptOr}

pub returns-then-same_set-clause-medium : goal.returns-then-same_set-clause-medium
returns-then-same_set-clause-medium g c =
    let same = c.same_set.ensures.0 c.if-same_set.true in
    subst (λ set. IfTold (g.D.Disk.seen c.args.disk.now) (g.D.Disk.seen c.mend.new.disk) (λ _ bytes. IsMediumOf c.args.election.now bytes set)) same c.in_ok-mend.ensures.medium

pub checkpoint-requires-clause-medium : goal.checkpoint-requires-clause-medium
checkpoint-requires-clause-medium g c =
    medium_now c.args.election.now c.args.store.now.election c.args.held.now.store.ballots (g.D.Disk.seen c.args.disk.now) (g.D.Disk.seen c.mend.new.disk) c.requires.own c.in_ok-mend.ensures.medium

pub returns-clause-medium : goal.returns-clause-medium
returns-clause-medium g c =
    let e = c.args.election.now in
    let set = c.args.store.now.ballots in
    on_ok (IfTold (g.D.Disk.seen c.mend.new.disk) (g.D.Disk.seen c.checkpoint.new.disk) (λ _ bytes. IsMediumOf c.args.store.now.election bytes set)) c.checkpoint.result c.checkpoint.ensures.medium
    (medium_then e c.args.store.now.election c.args.held.now.store.ballots set (g.D.Disk.seen c.args.disk.now) (g.D.Disk.seen c.mend.new.disk) (g.D.Disk.seen c.checkpoint.new.disk) c.requires.own c.in_ok-mend.ensures.medium)

pub returns-clause-any_moment : goal.returns-clause-any_moment
returns-clause-any_moment g c bytes sees =
    let e = c.args.election.now in
    let held = c.args.held.now in
    let set = c.args.store.now.ballots in
    let own = c.requires.own in
    let P = IsKeptOr e (λ other. other ≡ set) bytes in
    let mid = told_back (g.D.Disk.seen c.mend.new.disk) (g.D.Disk.seen c.args.disk.now) bytes (sym c.in_ok-mend.ensures.medium.told) sees in
    let medium = c.in_ok-mend.ensures.medium.related bytes mid.0 sees mid.1 in
    let kept = mended_kept e (λ other. other ≡ set) held bytes (c.requires.held bytes sees) in
    let Either : Election → List ℕ → Type 0 = λ e image. HoldsSet e image held.store.ballots ⊎ HoldsSet e image set in
    joined g.D.Disk.calls g.D.Disk.may_leave c.args.disk.now c.mend.new.disk c.checkpoint.new.disk P
    (weaker g.D.Disk.calls g.D.Disk.may_leave c.args.disk.now c.mend.new.disk (λ image. HoldsSet e image held.store.ballots) P kept (c.mend.ensures.any_moment bytes sees))
    (weaker g.D.Disk.calls g.D.Disk.may_leave c.mend.new.disk c.checkpoint.new.disk (Either e) P
    (λ image either. ⊎_elim (kept image) (λ new. inr (inr (set, refl, new))) either)
    (subst (λ e. LeavesOnly g.D.Disk.calls g.D.Disk.may_leave c.mend.new.disk c.checkpoint.new.disk (Either e)) own
    (c.checkpoint.ensures.any_moment mid.0 held.store.ballots mid.1 (subst (λ e. IsMediumOf e mid.0 held.store.ballots) (sym own) medium))))
