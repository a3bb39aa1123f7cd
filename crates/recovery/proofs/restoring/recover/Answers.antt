use Rattle.std.proofs.Common.{◌≡◌, ℕ, List, Option, Some, inl, subst, ◌∙◌}
use Rattle.store_spec.proofs.Common.{HoldsTheSame, IfErr-weaker, IfOk, IsMediumOf, disk_model, on_ok_weaker}
use Rattle.crash_disk.proofs.Moments.{synced_first}
use Rattle.outside_io.specs.Told.{IfTold}
use Rattle.recovery.proofs.OnlyReading.{reads_joined}
use Rattle.recovery.proofs.Runs.{synced_reads, unsynced_reads}
use Rattle.recovery.proofs.Unharmed.{each_fault, synced, unsynced}
use Rattle.recovery.proofs.restoring.recover.Goals as goal
use Rattle.recovery.specs.Refused.{IsUnharmedAt}
use Rattle.recovery.specs.declared.fault.RecoverFault.{RecoverFault}

pub returns-in_err-settle-clause-canonical : goal.returns-in_err-settle-clause-canonical
returns-in_err-settle-clause-canonical g c bytes set settled sees medium =
    unsynced_reads g.D.Disk.seen g.D.Disk.calls g.D.Disk.may_leave c.args.disk.now c.settle.new.disk settled bytes sees c.settle.ensures.calls.told (λ x is. g.met.D.Disk.seen_is_crash_image c.settle.new.disk x is) c.in_err-settle.ensures.unsettled

pub returns-clause-medium : goal.returns-clause-medium
returns-clause-medium g c =
    let e = c.args.election.now in
    subst (λ (o : Option (List ℕ)). IfOk c.restore.result (λ store. IfTold o (g.D.Disk.seen c.restore.new.disk) (λ _ y. IsMediumOf e y store.ballots))) c.in_ok-settle.ensures.same_bytes c.restore.ensures.medium

pub returns-clause-any_moment : goal.returns-clause-any_moment
returns-clause-any_moment g c bytes sees =
    inl (synced_first g.D.Disk.calls g.D.Disk.may_leave c.args.disk.now c.settle.new.disk c.restore.new.disk (HoldsTheSame c.args.election.now bytes) c.settle.ensures.crash_images (c.restore.ensures.any_moment bytes (c.in_ok-settle.ensures.same_bytes ∙ sees)))

pub returns-clause-canonical : goal.returns-clause-canonical
returns-clause-canonical g c bytes set settled sees medium =
    reads_joined g.D.Disk.seen g.D.Disk.calls g.D.Disk.may_leave c.args.disk.now c.settle.new.disk c.restore.new.disk
    (synced_reads g.D.Disk.seen g.D.Disk.calls g.D.Disk.may_leave c.args.disk.now c.settle.new.disk settled c.in_ok-settle.ensures.same_bytes c.settle.ensures.crash_images c.in_ok-settle.ensures.settled)
    (c.restore.ensures.canonical bytes set (c.in_ok-settle.ensures.same_bytes ∙ sees) medium)

pub returns-clause-unharmed : goal.returns-clause-unharmed
returns-clause-unharmed g c =
    let model = disk_model g.D.Disk.seen g.D.Disk.calls g.D.Disk.may_leave g.D.Disk.faults in
    let e = c.args.election.now in
    IfErr-weaker c.restore.result
    (λ (fault : RecoverFault). (bytes : List ℕ) → g.D.Disk.seen c.settle.new.disk ≡ Some bytes → IsUnharmedAt model e bytes fault c.settle.new.disk c.restore.new.disk)
    (λ (fault : RecoverFault). (bytes : List ℕ) → g.D.Disk.seen c.args.disk.now ≡ Some bytes → IsUnharmedAt model e bytes fault c.args.disk.now c.restore.new.disk)
    (λ fault run bytes sees. synced model e bytes fault c.args.disk.now c.settle.new.disk c.restore.new.disk c.settle.ensures.crash_images (run bytes (c.in_ok-settle.ensures.same_bytes ∙ sees)))
    c.restore.ensures.unharmed

pub returns-clause-once_synced : goal.returns-clause-once_synced
returns-clause-once_synced g c = on_ok_weaker c.restore.result
    (λ settled bytes sees. synced_first g.D.Disk.calls g.D.Disk.may_leave c.args.disk.now c.settle.new.disk c.restore.new.disk (HoldsTheSame c.args.election.now bytes) c.settle.ensures.crash_images (c.restore.ensures.any_moment bytes (c.in_ok-settle.ensures.same_bytes ∙ sees)))
    c.restore.ensures.settled

pub returns-in_err-settle-clause-unharmed : goal.returns-in_err-settle-clause-unharmed
returns-in_err-settle-clause-unharmed g c =
    let model = disk_model g.D.Disk.seen g.D.Disk.calls g.D.Disk.may_leave g.D.Disk.faults in
    each_fault c.from_residual.result (λ (fault : RecoverFault). (bytes : List ℕ) → g.D.Disk.seen c.args.disk.now ≡ Some bytes → IsUnharmedAt model c.args.election.now bytes fault c.args.disk.now c.settle.new.disk)
    (λ fault bytes sees. unsynced model c.args.election.now bytes fault c.args.disk.now c.settle.new.disk c.settle.ensures.crash_images)
