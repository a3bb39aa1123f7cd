use Rattle.std.proofs.Common.{◌∙◌, inr, subst}
use Rattle.store_spec.proofs.Common.{IsMediumOf, disk_model}
use Rattle.outside_io.proofs.Told.{told_holds}
use Rattle.outside_io.specs.Told.{IfTold}
use Rattle.recovery.proofs.OneByOne.{handed_on}
use Rattle.twin_media.specs.Finding.{HasFound}
use Rattle.twin_media.specs.Pairing.{IsUnwrittenPair}
use Rattle.twin_media.proofs.Pairs.{both_kept, first_lost, make_unwritten, neither_lost, second_lost}
use Rattle.twin_media.proofs.pairing.pair.Goals as goal
use Rattle.twin_media.specs.declared.pairing.Paired.TheVariants.{FirstRestored, SecondRestored}

pub returns-in_err-make_both-in-Some-Some-clause-any_moment : goal.returns-in_err-make_both-in-Some-Some-clause-any_moment
returns-in_err-make_both-in-Some-Some-clause-any_moment g c one two sees sees_two =
    let e = c.args.election.now in
    let first = disk_model g.A.Disk.seen g.A.Disk.calls g.A.Disk.may_leave g.A.Disk.faults in
    let second = disk_model g.B.Disk.seen g.B.Disk.calls g.B.Disk.may_leave g.B.Disk.faults in
    inr (inr (
    both_kept first second e c.args.first.now c.find.new.disk c.make_both.new.first c.args.second.now c.find-2.new.disk c.make_both.new.second c.in-Ok.found c.in-Ok-find.found c.in-Some-Some.one.store.ballots one two sees sees_two
    c.in-Ok.ensures.found c.in-Ok-find.ensures.found
    (λ here there. (c.compare-paired.result, neither_lost e one two c.in-Ok.found c.in-Ok-find.found here there c.in-Some-Some.one c.in-Some-Some.two c.compare-paired.result c.in-Some-Some.is-0 c.in-Some-Some.is-1 c.compare-paired.ensures))
    c.find.ensures.called c.find-2.ensures.called (c.in-Ok.ensures.once_synced one sees) (c.in-Ok-find.ensures.once_synced two sees_two)
    (c.make_both.ensures.first_moments one (c.in-Ok.ensures.same_bytes ∙ sees)) (c.make_both.ensures.second_moments two (c.in-Ok-find.ensures.same_bytes ∙ sees_two))))

pub returns-in_err-make_both-in-Some-None-clause-any_moment : goal.returns-in_err-make_both-in-Some-None-clause-any_moment
returns-in_err-make_both-in-Some-None-clause-any_moment g c one two sees sees_two =
    let e = c.args.election.now in
    let first = disk_model g.A.Disk.seen g.A.Disk.calls g.A.Disk.may_leave g.A.Disk.faults in
    let second = disk_model g.B.Disk.seen g.B.Disk.calls g.B.Disk.may_leave g.B.Disk.faults in
    inr (inr (
    both_kept first second e c.args.first.now c.find.new.disk c.make_both-in-Some-None.new.first c.args.second.now c.find-2.new.disk c.make_both-in-Some-None.new.second c.in-Ok.found c.in-Ok-find.found c.in-Some-None.one.store.ballots one two sees sees_two
    c.in-Ok.ensures.found c.in-Ok-find.ensures.found
    (λ here there. (SecondRestored, second_lost e one two c.in-Ok.found c.in-Ok-find.found here there c.in-Some-None.one c.in-Some-None.is-0 c.in-Some-None.is-1))
    c.find.ensures.called c.find-2.ensures.called (c.in-Ok.ensures.once_synced one sees) (c.in-Ok-find.ensures.once_synced two sees_two)
    (c.make_both-in-Some-None.ensures.first_moments one (c.in-Ok.ensures.same_bytes ∙ sees)) (c.make_both-in-Some-None.ensures.second_moments two (c.in-Ok-find.ensures.same_bytes ∙ sees_two))))

pub returns-in_err-make_both-in-None-Some-clause-any_moment : goal.returns-in_err-make_both-in-None-Some-clause-any_moment
returns-in_err-make_both-in-None-Some-clause-any_moment g c one two sees sees_two =
    let e = c.args.election.now in
    let first = disk_model g.A.Disk.seen g.A.Disk.calls g.A.Disk.may_leave g.A.Disk.faults in
    let second = disk_model g.B.Disk.seen g.B.Disk.calls g.B.Disk.may_leave g.B.Disk.faults in
    inr (inr (
    both_kept first second e c.args.first.now c.find.new.disk c.make_both-in-None-Some.new.first c.args.second.now c.find-2.new.disk c.make_both-in-None-Some.new.second c.in-Ok.found c.in-Ok-find.found c.in-None-Some.two.store.ballots one two sees sees_two
    c.in-Ok.ensures.found c.in-Ok-find.ensures.found
    (λ here there. (FirstRestored, first_lost e one two c.in-Ok.found c.in-Ok-find.found here there c.in-None-Some.two c.in-None-Some.is-0 c.in-None-Some.is-1))
    c.find.ensures.called c.find-2.ensures.called (c.in-Ok.ensures.once_synced one sees) (c.in-Ok-find.ensures.once_synced two sees_two)
    (c.make_both-in-None-Some.ensures.first_moments one (c.in-Ok.ensures.same_bytes ∙ sees)) (c.make_both-in-None-Some.ensures.second_moments two (c.in-Ok-find.ensures.same_bytes ∙ sees_two))))

pub returns-in_ok-make_both-in-Some-Some-clause-once_synced : goal.returns-in_ok-make_both-in-Some-Some-clause-once_synced
returns-in_ok-make_both-in-Some-Some-clause-once_synced g c one two sees sees_two =
    let e = c.args.election.now in
    let first = disk_model g.A.Disk.seen g.A.Disk.calls g.A.Disk.may_leave g.A.Disk.faults in
    let second = disk_model g.B.Disk.seen g.B.Disk.calls g.B.Disk.may_leave g.B.Disk.faults in
    both_kept first second e c.args.first.now c.find.new.disk c.make_both.new.first c.args.second.now c.find-2.new.disk c.make_both.new.second c.in-Ok.found c.in-Ok-find.found c.in-Some-Some.one.store.ballots one two sees sees_two
    c.in-Ok.ensures.found c.in-Ok-find.ensures.found
    (λ here there. (c.compare-paired.result, neither_lost e one two c.in-Ok.found c.in-Ok-find.found here there c.in-Some-Some.one c.in-Some-Some.two c.compare-paired.result c.in-Some-Some.is-0 c.in-Some-Some.is-1 c.compare-paired.ensures))
    c.find.ensures.called c.find-2.ensures.called (c.in-Ok.ensures.once_synced one sees) (c.in-Ok-find.ensures.once_synced two sees_two)
    (c.make_both.ensures.first_moments one (c.in-Ok.ensures.same_bytes ∙ sees)) (c.make_both.ensures.second_moments two (c.in-Ok-find.ensures.same_bytes ∙ sees_two))

pub returns-in_ok-make_both-in-Some-Some-clause-any_moment : goal.returns-in_ok-make_both-in-Some-Some-clause-any_moment
returns-in_ok-make_both-in-Some-Some-clause-any_moment g c one two sees sees_two =
    let e = c.args.election.now in
    let first = disk_model g.A.Disk.seen g.A.Disk.calls g.A.Disk.may_leave g.A.Disk.faults in
    let second = disk_model g.B.Disk.seen g.B.Disk.calls g.B.Disk.may_leave g.B.Disk.faults in
    inr (inr (
    both_kept first second e c.args.first.now c.find.new.disk c.make_both.new.first c.args.second.now c.find-2.new.disk c.make_both.new.second c.in-Ok.found c.in-Ok-find.found c.in-Some-Some.one.store.ballots one two sees sees_two
    c.in-Ok.ensures.found c.in-Ok-find.ensures.found
    (λ here there. (c.compare-paired.result, neither_lost e one two c.in-Ok.found c.in-Ok-find.found here there c.in-Some-Some.one c.in-Some-Some.two c.compare-paired.result c.in-Some-Some.is-0 c.in-Some-Some.is-1 c.compare-paired.ensures))
    c.find.ensures.called c.find-2.ensures.called (c.in-Ok.ensures.once_synced one sees) (c.in-Ok-find.ensures.once_synced two sees_two)
    (c.make_both.ensures.first_moments one (c.in-Ok.ensures.same_bytes ∙ sees)) (c.make_both.ensures.second_moments two (c.in-Ok-find.ensures.same_bytes ∙ sees_two))))

pub returns-in_ok-make_both-in-Some-None-clause-once_synced : goal.returns-in_ok-make_both-in-Some-None-clause-once_synced
returns-in_ok-make_both-in-Some-None-clause-once_synced g c one two sees sees_two =
    let e = c.args.election.now in
    let first = disk_model g.A.Disk.seen g.A.Disk.calls g.A.Disk.may_leave g.A.Disk.faults in
    let second = disk_model g.B.Disk.seen g.B.Disk.calls g.B.Disk.may_leave g.B.Disk.faults in
    both_kept first second e c.args.first.now c.find.new.disk c.make_both-in-Some-None.new.first c.args.second.now c.find-2.new.disk c.make_both-in-Some-None.new.second c.in-Ok.found c.in-Ok-find.found c.in-Some-None.one.store.ballots one two sees sees_two
    c.in-Ok.ensures.found c.in-Ok-find.ensures.found
    (λ here there. (SecondRestored, second_lost e one two c.in-Ok.found c.in-Ok-find.found here there c.in-Some-None.one c.in-Some-None.is-0 c.in-Some-None.is-1))
    c.find.ensures.called c.find-2.ensures.called (c.in-Ok.ensures.once_synced one sees) (c.in-Ok-find.ensures.once_synced two sees_two)
    (c.make_both-in-Some-None.ensures.first_moments one (c.in-Ok.ensures.same_bytes ∙ sees)) (c.make_both-in-Some-None.ensures.second_moments two (c.in-Ok-find.ensures.same_bytes ∙ sees_two))

pub returns-in_ok-make_both-in-Some-None-clause-any_moment : goal.returns-in_ok-make_both-in-Some-None-clause-any_moment
returns-in_ok-make_both-in-Some-None-clause-any_moment g c one two sees sees_two =
    let e = c.args.election.now in
    let first = disk_model g.A.Disk.seen g.A.Disk.calls g.A.Disk.may_leave g.A.Disk.faults in
    let second = disk_model g.B.Disk.seen g.B.Disk.calls g.B.Disk.may_leave g.B.Disk.faults in
    inr (inr (
    both_kept first second e c.args.first.now c.find.new.disk c.make_both-in-Some-None.new.first c.args.second.now c.find-2.new.disk c.make_both-in-Some-None.new.second c.in-Ok.found c.in-Ok-find.found c.in-Some-None.one.store.ballots one two sees sees_two
    c.in-Ok.ensures.found c.in-Ok-find.ensures.found
    (λ here there. (SecondRestored, second_lost e one two c.in-Ok.found c.in-Ok-find.found here there c.in-Some-None.one c.in-Some-None.is-0 c.in-Some-None.is-1))
    c.find.ensures.called c.find-2.ensures.called (c.in-Ok.ensures.once_synced one sees) (c.in-Ok-find.ensures.once_synced two sees_two)
    (c.make_both-in-Some-None.ensures.first_moments one (c.in-Ok.ensures.same_bytes ∙ sees)) (c.make_both-in-Some-None.ensures.second_moments two (c.in-Ok-find.ensures.same_bytes ∙ sees_two))))

pub returns-in_ok-make_both-in-None-Some-clause-once_synced : goal.returns-in_ok-make_both-in-None-Some-clause-once_synced
returns-in_ok-make_both-in-None-Some-clause-once_synced g c one two sees sees_two =
    let e = c.args.election.now in
    let first = disk_model g.A.Disk.seen g.A.Disk.calls g.A.Disk.may_leave g.A.Disk.faults in
    let second = disk_model g.B.Disk.seen g.B.Disk.calls g.B.Disk.may_leave g.B.Disk.faults in
    both_kept first second e c.args.first.now c.find.new.disk c.make_both-in-None-Some.new.first c.args.second.now c.find-2.new.disk c.make_both-in-None-Some.new.second c.in-Ok.found c.in-Ok-find.found c.in-None-Some.two.store.ballots one two sees sees_two
    c.in-Ok.ensures.found c.in-Ok-find.ensures.found
    (λ here there. (FirstRestored, first_lost e one two c.in-Ok.found c.in-Ok-find.found here there c.in-None-Some.two c.in-None-Some.is-0 c.in-None-Some.is-1))
    c.find.ensures.called c.find-2.ensures.called (c.in-Ok.ensures.once_synced one sees) (c.in-Ok-find.ensures.once_synced two sees_two)
    (c.make_both-in-None-Some.ensures.first_moments one (c.in-Ok.ensures.same_bytes ∙ sees)) (c.make_both-in-None-Some.ensures.second_moments two (c.in-Ok-find.ensures.same_bytes ∙ sees_two))

pub returns-in_ok-make_both-in-None-Some-clause-any_moment : goal.returns-in_ok-make_both-in-None-Some-clause-any_moment
returns-in_ok-make_both-in-None-Some-clause-any_moment g c one two sees sees_two =
    let e = c.args.election.now in
    let first = disk_model g.A.Disk.seen g.A.Disk.calls g.A.Disk.may_leave g.A.Disk.faults in
    let second = disk_model g.B.Disk.seen g.B.Disk.calls g.B.Disk.may_leave g.B.Disk.faults in
    inr (inr (
    both_kept first second e c.args.first.now c.find.new.disk c.make_both-in-None-Some.new.first c.args.second.now c.find-2.new.disk c.make_both-in-None-Some.new.second c.in-Ok.found c.in-Ok-find.found c.in-None-Some.two.store.ballots one two sees sees_two
    c.in-Ok.ensures.found c.in-Ok-find.ensures.found
    (λ here there. (FirstRestored, first_lost e one two c.in-Ok.found c.in-Ok-find.found here there c.in-None-Some.two c.in-None-Some.is-0 c.in-None-Some.is-1))
    c.find.ensures.called c.find-2.ensures.called (c.in-Ok.ensures.once_synced one sees) (c.in-Ok-find.ensures.once_synced two sees_two)
    (c.make_both-in-None-Some.ensures.first_moments one (c.in-Ok.ensures.same_bytes ∙ sees)) (c.make_both-in-None-Some.ensures.second_moments two (c.in-Ok-find.ensures.same_bytes ∙ sees_two))))

pub returns-in_ok-make_both-in-Some-Some-clause-first_medium : goal.returns-in_ok-make_both-in-Some-Some-clause-first_medium
returns-in_ok-make_both-in-Some-Some-clause-first_medium g c =
    subst (λ o. IfTold o (g.A.Disk.seen c.make_both.new.first) (λ _ bytes. IsMediumOf c.args.election.now bytes c.in-Some-Some.one.store.ballots))
    c.in-Ok.ensures.same_bytes c.in_ok-make_both-in-Some-Some.ensures.first_medium

pub returns-in_ok-make_both-in-Some-Some-clause-second_medium : goal.returns-in_ok-make_both-in-Some-Some-clause-second_medium
returns-in_ok-make_both-in-Some-Some-clause-second_medium g c =
    subst (λ o. IfTold o (g.B.Disk.seen c.make_both.new.second) (λ _ bytes. IsMediumOf c.args.election.now bytes c.in-Some-Some.one.store.ballots))
    c.in-Ok-find.ensures.same_bytes c.in_ok-make_both-in-Some-Some.ensures.second_medium

pub returns-in_ok-make_both-in-Some-None-clause-first_medium : goal.returns-in_ok-make_both-in-Some-None-clause-first_medium
returns-in_ok-make_both-in-Some-None-clause-first_medium g c =
    subst (λ o. IfTold o (g.A.Disk.seen c.make_both-in-Some-None.new.first) (λ _ bytes. IsMediumOf c.args.election.now bytes c.in-Some-None.one.store.ballots))
    c.in-Ok.ensures.same_bytes c.in_ok-make_both-in-Some-None.ensures.first_medium

pub returns-in_ok-make_both-in-Some-None-clause-second_medium : goal.returns-in_ok-make_both-in-Some-None-clause-second_medium
returns-in_ok-make_both-in-Some-None-clause-second_medium g c =
    subst (λ o. IfTold o (g.B.Disk.seen c.make_both-in-Some-None.new.second) (λ _ bytes. IsMediumOf c.args.election.now bytes c.in-Some-None.one.store.ballots))
    c.in-Ok-find.ensures.same_bytes c.in_ok-make_both-in-Some-None.ensures.second_medium

pub returns-in_ok-make_both-in-None-Some-clause-first_medium : goal.returns-in_ok-make_both-in-None-Some-clause-first_medium
returns-in_ok-make_both-in-None-Some-clause-first_medium g c =
    subst (λ o. IfTold o (g.A.Disk.seen c.make_both-in-None-Some.new.first) (λ _ bytes. IsMediumOf c.args.election.now bytes c.in-None-Some.two.store.ballots))
    c.in-Ok.ensures.same_bytes c.in_ok-make_both-in-None-Some.ensures.first_medium

pub returns-in_ok-make_both-in-None-Some-clause-second_medium : goal.returns-in_ok-make_both-in-None-Some-clause-second_medium
returns-in_ok-make_both-in-None-Some-clause-second_medium g c =
    subst (λ o. IfTold o (g.B.Disk.seen c.make_both-in-None-Some.new.second) (λ _ bytes. IsMediumOf c.args.election.now bytes c.in-None-Some.two.store.ballots))
    c.in-Ok-find.ensures.same_bytes c.in_ok-make_both-in-None-Some.ensures.second_medium

pub returns-in_err-make_both-in-Some-Some-clause-unwritten : goal.returns-in_err-make_both-in-Some-Some-clause-unwritten
returns-in_err-make_both-in-Some-Some-clause-unwritten g c =
    let e = c.args.election.now in
    let first = disk_model g.A.Disk.seen g.A.Disk.calls g.A.Disk.may_leave g.A.Disk.faults in
    let second = disk_model g.B.Disk.seen g.B.Disk.calls g.B.Disk.may_leave g.B.Disk.faults in
    let fault = c.in_err-make_both-in-Some-Some.field-0.0 in
    handed_on c.from_residual.result (IsUnwrittenPair first second e c.args.first.now c.make_both.new.first c.args.second.now c.make_both.new.second) fault c.from_residual.ensures.1
    (make_unwritten first second e c.args.first.now c.find.new.disk c.make_both.new.first c.args.second.now c.find-2.new.disk c.make_both.new.second c.in-Some-Some.one.store.ballots fault
    c.in-Ok.ensures.same_bytes (c.in-Ok-find.ensures.same_bytes, c.in-Ok-find.ensures.unharmed)
    (λ one two sees sees_two.
    let here = told_holds (HasFound e c.in-Ok.found) one sees c.in-Ok.ensures.found in
    let there = told_holds (HasFound e c.in-Ok-find.found) two sees_two c.in-Ok-find.ensures.found in
    (c.compare-paired.result, neither_lost e one two c.in-Ok.found c.in-Ok-find.found here there c.in-Some-Some.one c.in-Some-Some.two c.compare-paired.result c.in-Some-Some.is-0 c.in-Some-Some.is-1 c.compare-paired.ensures))
    c.in_err-make_both-in-Some-Some.ensures.refused)

pub returns-in_err-make_both-in-Some-None-clause-unwritten : goal.returns-in_err-make_both-in-Some-None-clause-unwritten
returns-in_err-make_both-in-Some-None-clause-unwritten g c =
    let e = c.args.election.now in
    let first = disk_model g.A.Disk.seen g.A.Disk.calls g.A.Disk.may_leave g.A.Disk.faults in
    let second = disk_model g.B.Disk.seen g.B.Disk.calls g.B.Disk.may_leave g.B.Disk.faults in
    let fault = c.in_err-make_both-in-Some-None.field-0.0 in
    handed_on c.from_residual-in_err-make_both-in-Some-None.result (IsUnwrittenPair first second e c.args.first.now c.make_both-in-Some-None.new.first c.args.second.now c.make_both-in-Some-None.new.second) fault c.from_residual-in_err-make_both-in-Some-None.ensures.1
    (make_unwritten first second e c.args.first.now c.find.new.disk c.make_both-in-Some-None.new.first c.args.second.now c.find-2.new.disk c.make_both-in-Some-None.new.second c.in-Some-None.one.store.ballots fault
    c.in-Ok.ensures.same_bytes (c.in-Ok-find.ensures.same_bytes, c.in-Ok-find.ensures.unharmed)
    (λ one two sees sees_two.
    let here = told_holds (HasFound e c.in-Ok.found) one sees c.in-Ok.ensures.found in
    let there = told_holds (HasFound e c.in-Ok-find.found) two sees_two c.in-Ok-find.ensures.found in
    (SecondRestored, second_lost e one two c.in-Ok.found c.in-Ok-find.found here there c.in-Some-None.one c.in-Some-None.is-0 c.in-Some-None.is-1))
    c.in_err-make_both-in-Some-None.ensures.refused)

pub returns-in_err-make_both-in-None-Some-clause-unwritten : goal.returns-in_err-make_both-in-None-Some-clause-unwritten
returns-in_err-make_both-in-None-Some-clause-unwritten g c =
    let e = c.args.election.now in
    let first = disk_model g.A.Disk.seen g.A.Disk.calls g.A.Disk.may_leave g.A.Disk.faults in
    let second = disk_model g.B.Disk.seen g.B.Disk.calls g.B.Disk.may_leave g.B.Disk.faults in
    let fault = c.in_err-make_both-in-None-Some.field-0.0 in
    handed_on c.from_residual-in_err-make_both-in-None-Some.result (IsUnwrittenPair first second e c.args.first.now c.make_both-in-None-Some.new.first c.args.second.now c.make_both-in-None-Some.new.second) fault c.from_residual-in_err-make_both-in-None-Some.ensures.1
    (make_unwritten first second e c.args.first.now c.find.new.disk c.make_both-in-None-Some.new.first c.args.second.now c.find-2.new.disk c.make_both-in-None-Some.new.second c.in-None-Some.two.store.ballots fault
    c.in-Ok.ensures.same_bytes (c.in-Ok-find.ensures.same_bytes, c.in-Ok-find.ensures.unharmed)
    (λ one two sees sees_two.
    let here = told_holds (HasFound e c.in-Ok.found) one sees c.in-Ok.ensures.found in
    let there = told_holds (HasFound e c.in-Ok-find.found) two sees_two c.in-Ok-find.ensures.found in
    (FirstRestored, first_lost e one two c.in-Ok.found c.in-Ok-find.found here there c.in-None-Some.two c.in-None-Some.is-0 c.in-None-Some.is-1))
    c.in_err-make_both-in-None-Some.ensures.refused)
