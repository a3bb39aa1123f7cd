use Rattle.std.proofs.Common.{◌≡◌, ◌⊎◌, ℕ, List, Option, sym, subst, ap, ◌∙◌}
use Rattle.store_spec.proofs.Common.{A, B, Ballot, Election, ForSome, HoldsSet, IsMediumOf, LeavesOnly, OnOk, image_of}
use Rattle.checkpoint.proofs.Pages.{on_ok, stored_fits, told_back}
use Rattle.checkpoint.proofs.TwoBanks.{medium_long, medium_open, mid_long, mid_open, renewed_told, run_first, run_second}
use Rattle.checkpoint.proofs.medium.checkpoint.Goals as goal
use Rattle.checkpoint.specs.Renewal.{IsHalfRenewed, IsRenewed}
use Rattle.outside_io.specs.Told.{IfTold}
use Rattle.body_store.specs.Contents.{Contents}

-- a medium of the store's election is one of this, which is the same
given : (store : Contents) (e : Election) (seen : Option (List ℕ)) → e ≡ store.election → ForSome seen (λ bytes. (old : List Ballot) × IsMediumOf store.election bytes old)
    → ForSome seen (λ bytes. (old : List Ballot) × IsMediumOf e bytes old)
given store e seen own medium = subst (λ (e : Election). ForSome seen (λ bytes. (old : List Ballot) × IsMediumOf e bytes old)) (sym own) medium

pub renew_bank-requires-clause-size : goal.renew_bank-requires-clause-size
renew_bank-requires-clause-size g c =
    let fits = stored_fits c.election-election.result.now c.args.closed.now c.election-election.ensures.election c.election-election.ensures.stored in
    medium_long c.election-election.result.now c.args.closed.now.ballots (g.D.Disk.seen c.args.disk.now) fits (given c.args.closed.now c.election-election.result.now (g.D.Disk.seen c.args.disk.now) c.election-election.ensures.election c.requires.medium)

pub renew_bank-requires-clause-opened : goal.renew_bank-requires-clause-opened
renew_bank-requires-clause-opened g c =
    let fits = stored_fits c.election-election.result.now c.args.closed.now c.election-election.ensures.election c.election-election.ensures.stored in
    medium_open c.election-election.result.now c.args.closed.now.ballots (g.D.Disk.seen c.args.disk.now) fits (given c.args.closed.now c.election-election.result.now (g.D.Disk.seen c.args.disk.now) c.election-election.ensures.election c.requires.medium) B

pub returns-in_err-renew_bank-clause-any_moment : goal.returns-in_err-renew_bank-clause-any_moment
returns-in_err-renew_bank-clause-any_moment g c bytes old sees was =
    let e = c.election-election.result.now in
    let fits = stored_fits e c.args.closed.now c.election-election.ensures.election c.election-election.ensures.stored in
    let is = c.image-made.ensures.image ∙ ap (λ e. image_of e c.args.closed.now.ballots) (sym c.election-election.ensures.election) in
    let half = subst (λ (xs : List ℕ). LeavesOnly g.D.Disk.calls g.D.Disk.may_leave c.args.disk.now c.renew_bank.new.disk (IsHalfRenewed e B xs bytes)) is (c.renew_bank.ensures.any_moment bytes sees) in
    let own = c.election-election.ensures.election in
    let Either : Election → List ℕ → Type 0 = λ e now. HoldsSet e now old ⊎ HoldsSet e now c.args.closed.now.ballots in
    subst (λ (e : Election). LeavesOnly g.D.Disk.calls g.D.Disk.may_leave c.args.disk.now c.renew_bank.new.disk (Either e)) own
    (run_first g.D.Disk.calls g.D.Disk.may_leave e old c.args.closed.now.ballots bytes (subst (λ (e : Election). IsMediumOf e bytes old) (sym own) was) fits c.args.disk.now c.renew_bank.new.disk half)

pub renew_bank-requires-2-clause-size : goal.renew_bank-requires-2-clause-size
renew_bank-requires-2-clause-size g c =
    let e = c.election-election.result.now in
    let fits = stored_fits e c.args.closed.now c.election-election.ensures.election c.election-election.ensures.stored in
    let is = c.image-made.ensures.image ∙ ap (λ e. image_of e c.args.closed.now.ballots) (sym c.election-election.ensures.election) in
    let one = subst (λ (xs : List ℕ). IfTold (g.D.Disk.seen c.args.disk.now) (g.D.Disk.seen c.renew_bank.new.disk) (IsRenewed e B xs)) is c.in_ok-renew_bank.ensures.renewed in
    mid_long e c.args.closed.now.ballots (g.D.Disk.seen c.args.disk.now) fits (given c.args.closed.now c.election-election.result.now (g.D.Disk.seen c.args.disk.now) c.election-election.ensures.election c.requires.medium) (g.D.Disk.seen c.renew_bank.new.disk) one

pub renew_bank-requires-2-clause-opened : goal.renew_bank-requires-2-clause-opened
renew_bank-requires-2-clause-opened g c =
    let e = c.election-election.result.now in
    let fits = stored_fits e c.args.closed.now c.election-election.ensures.election c.election-election.ensures.stored in
    let is = c.image-made.ensures.image ∙ ap (λ e. image_of e c.args.closed.now.ballots) (sym c.election-election.ensures.election) in
    let one = subst (λ (xs : List ℕ). IfTold (g.D.Disk.seen c.args.disk.now) (g.D.Disk.seen c.renew_bank.new.disk) (IsRenewed e B xs)) is c.in_ok-renew_bank.ensures.renewed in
    mid_open e c.args.closed.now.ballots (g.D.Disk.seen c.args.disk.now) fits (given c.args.closed.now c.election-election.result.now (g.D.Disk.seen c.args.disk.now) c.election-election.ensures.election c.requires.medium) (g.D.Disk.seen c.renew_bank.new.disk) one

pub returns-clause-medium : goal.returns-clause-medium
returns-clause-medium g c =
    let e = c.election-election.result.now in
    let new = c.args.closed.now.ballots in
    let fits = stored_fits e c.args.closed.now c.election-election.ensures.election c.election-election.ensures.stored in
    let is = c.image-made.ensures.image ∙ ap (λ e. image_of e c.args.closed.now.ballots) (sym c.election-election.ensures.election) in
    let one = subst (λ (xs : List ℕ). IfTold (g.D.Disk.seen c.args.disk.now) (g.D.Disk.seen c.renew_bank.new.disk) (IsRenewed e B xs)) is c.in_ok-renew_bank.ensures.renewed in
    let two = subst (λ (xs : List ℕ). OnOk c.renew_bank-2.result (IfTold (g.D.Disk.seen c.renew_bank.new.disk) (g.D.Disk.seen c.renew_bank-2.new.disk) (IsRenewed e A xs))) is c.renew_bank-2.ensures.renewed in
    subst (λ (e : Election). OnOk c.renew_bank-2.result (IfTold (g.D.Disk.seen c.args.disk.now) (g.D.Disk.seen c.renew_bank-2.new.disk) (λ _ bytes. IsMediumOf e bytes new))) c.election-election.ensures.election
    (on_ok (IfTold (g.D.Disk.seen c.renew_bank.new.disk) (g.D.Disk.seen c.renew_bank-2.new.disk) (IsRenewed e A (image_of e new))) c.renew_bank-2.result two
    (λ two. renewed_told e new (g.D.Disk.seen c.args.disk.now) fits (given c.args.closed.now c.election-election.result.now (g.D.Disk.seen c.args.disk.now) c.election-election.ensures.election c.requires.medium) (g.D.Disk.seen c.renew_bank.new.disk) one (g.D.Disk.seen c.renew_bank-2.new.disk) two))

pub returns-clause-any_moment : goal.returns-clause-any_moment
returns-clause-any_moment g c bytes old sees was =
    let e = c.election-election.result.now in
    let new = c.args.closed.now.ballots in
    let fits = stored_fits e c.args.closed.now c.election-election.ensures.election c.election-election.ensures.stored in
    let is = c.image-made.ensures.image ∙ ap (λ e. image_of e c.args.closed.now.ballots) (sym c.election-election.ensures.election) in
    let one = subst (λ (xs : List ℕ). IfTold (g.D.Disk.seen c.args.disk.now) (g.D.Disk.seen c.renew_bank.new.disk) (IsRenewed e B xs)) is c.in_ok-renew_bank.ensures.renewed in
    let between = told_back (g.D.Disk.seen c.renew_bank.new.disk) (g.D.Disk.seen c.args.disk.now) bytes (sym one.told) sees in
    let first = subst (λ (xs : List ℕ). LeavesOnly g.D.Disk.calls g.D.Disk.may_leave c.args.disk.now c.renew_bank.new.disk (IsHalfRenewed e B xs bytes)) is (c.renew_bank.ensures.any_moment bytes sees) in
    let second = subst (λ (xs : List ℕ). LeavesOnly g.D.Disk.calls g.D.Disk.may_leave c.renew_bank.new.disk c.renew_bank-2.new.disk (IsHalfRenewed e A xs between.0)) is (c.renew_bank-2.ensures.any_moment between.0 between.1) in
    let own = c.election-election.ensures.election in
    let here = subst (λ (e : Election). IsMediumOf e bytes old) (sym own) was in
    let Either : Election → List ℕ → Type 0 = λ e now. HoldsSet e now old ⊎ HoldsSet e now new in
    subst (λ (e : Election). LeavesOnly g.D.Disk.calls g.D.Disk.may_leave c.args.disk.now c.renew_bank-2.new.disk (Either e)) own
    (run_second g.D.Disk.calls g.D.Disk.may_leave e old new bytes here fits c.args.disk.now c.renew_bank.new.disk c.renew_bank-2.new.disk between.0 (one.related bytes between.0 sees between.1)
    (run_first g.D.Disk.calls g.D.Disk.may_leave e old new bytes here fits c.args.disk.now c.renew_bank.new.disk first)
    second)
