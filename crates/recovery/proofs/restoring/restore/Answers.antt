use Rattle.std.proofs.Common.{◌≡◌, ℕ, List, Option, Some, Err, sym, subst, ap, ◌∙◌, arith}
use Rattle.store_spec.proofs.Common.{IsErrOf, IsMediumOf, disk_model, err_from_is_err_and, image_of}
use Rattle.bank_medium.specs.Banks.{bank_named}
use Rattle.outside_io.proofs.Told.{told_holds}
use Rattle.outside_io.specs.Told.{IfTold}
use Rattle.recovery.proofs.OneByOne.{handed_on}
use Rattle.recovery.proofs.OnlyReading.{nothing_joined, reads_joined}
use Rattle.recovery.proofs.Paging.{shown_image, stored_election}
use Rattle.recovery.proofs.Runs.{looked, restored_told}
use Rattle.recovery.proofs.Unharmed.{each_fault, half_restored, unharmed}
use Rattle.recovery.proofs.restoring.restore.Goals as goal
use Rattle.recovery.specs.Canonical.{IsReadAs}
use Rattle.recovery.specs.Refused.{IsUnharmedAt}
use Rattle.recovery.specs.declared.fault.RecoverFault.{RecoverFault}
use Rattle.recovery.specs.declared.fault.RecoverFault.TheVariants.{DiskFault}

pub make_canonical-requires-clause-election : goal.make_canonical-requires-clause-election
make_canonical-requires-clause-election g c = stored_election c.args.election.now c.in_ok-closed.closed (sym c.in_ok-closed.ensures.election) c.in_ok-closed.ensures.stored

pub make_canonical-requires-clause-read : goal.make_canonical-requires-clause-read
make_canonical-requires-clause-read g c bytes is =
    let bank = bank_named c.in_ok-bank.bank in
    (told_holds (λ x. IsReadAs c.args.election.now x bank c.in_ok-closed.closed.ballots) bytes (sym c.read_bank.ensures.reads.same_bytes ∙ is) c.in_ok-closed.ensures.read).from

pub make_canonical-requires-clause-bytes : goal.make_canonical-requires-clause-bytes
make_canonical-requires-clause-bytes g c bytes is =
    let bank = bank_named c.in_ok-bank.bank in
    let read = told_holds (λ x. IsReadAs c.args.election.now x bank c.in_ok-closed.closed.ballots) bytes (sym c.read_bank.ensures.reads.same_bytes ∙ is) c.in_ok-closed.ensures.read in
    read.image.bytes ∙ ap (λ e. image_of e c.in_ok-closed.closed.ballots) (sym c.in_ok-closed.ensures.election) ∙ sym c.image.ensures.image

pub returns-in_err-make_canonical-clause-any_moment : goal.returns-in_err-make_canonical-clause-any_moment
returns-in_err-make_canonical-clause-any_moment g c bytes sees =
    let e = c.args.election.now in
    let election = stored_election e c.in_ok-closed.closed (sym c.in_ok-closed.ensures.election) c.in_ok-closed.ensures.stored in
    restored_told g.D.Disk.seen g.D.Disk.calls g.D.Disk.may_leave e c.in_ok-closed.closed.ballots election c.args.disk.now c.choose.new.disk c.read_bank.new.disk c.make_canonical.new.disk (bank_named c.in_ok-bank.bank) bytes
    c.requires c.choose.ensures.reads c.read_bank.ensures.reads sees c.in_ok-closed.ensures.read (λ x is. c.make_canonical.ensures.any_moment x c.in_ok-closed.closed.ballots is (shown_image c.args.election.now c.in_ok-closed.closed c.image.result.now c.in_ok-closed.ensures.election c.in_ok-closed.ensures.stored c.image.ensures.image))

pub returns-in_err-make_canonical-clause-canonical : goal.returns-in_err-make_canonical-clause-canonical
returns-in_err-make_canonical-clause-canonical g c bytes set sees medium =
    let reads = looked g.D.Disk.seen g.D.Disk.calls g.D.Disk.may_leave c.args.disk.now c.choose.new.disk c.read_bank.new.disk c.requires c.choose.ensures.reads c.read_bank.ensures.reads in
    reads_joined g.D.Disk.seen g.D.Disk.calls g.D.Disk.may_leave c.args.disk.now c.read_bank.new.disk c.make_canonical.new.disk reads (c.make_canonical.ensures.canonical bytes set (reads.same_bytes ∙ sees) medium)

pub returns-clause-medium : goal.returns-clause-medium
returns-clause-medium g c =
    let e = c.args.election.now in
    let reads = looked g.D.Disk.seen g.D.Disk.calls g.D.Disk.may_leave c.args.disk.now c.choose.new.disk c.read_bank.new.disk c.requires c.choose.ensures.reads c.read_bank.ensures.reads in
    subst (λ (o : Option (List ℕ)). IfTold o (g.D.Disk.seen c.make_canonical.new.disk) (λ _ y. IsMediumOf e y c.in_ok-closed.closed.ballots)) reads.same_bytes (c.in_ok-make_canonical.ensures.medium c.in_ok-closed.closed.ballots (shown_image e c.in_ok-closed.closed c.image.result.now c.in_ok-closed.ensures.election c.in_ok-closed.ensures.stored c.image.ensures.image))

pub returns-clause-any_moment : goal.returns-clause-any_moment
returns-clause-any_moment g c bytes sees =
    let e = c.args.election.now in
    let election = stored_election e c.in_ok-closed.closed (sym c.in_ok-closed.ensures.election) c.in_ok-closed.ensures.stored in
    restored_told g.D.Disk.seen g.D.Disk.calls g.D.Disk.may_leave e c.in_ok-closed.closed.ballots election c.args.disk.now c.choose.new.disk c.read_bank.new.disk c.make_canonical.new.disk (bank_named c.in_ok-bank.bank) bytes
    c.requires c.choose.ensures.reads c.read_bank.ensures.reads sees c.in_ok-closed.ensures.read (λ x is. c.make_canonical.ensures.any_moment x c.in_ok-closed.closed.ballots is (shown_image c.args.election.now c.in_ok-closed.closed c.image.result.now c.in_ok-closed.ensures.election c.in_ok-closed.ensures.stored c.image.ensures.image))

pub returns-clause-canonical : goal.returns-clause-canonical
returns-clause-canonical g c bytes set sees medium =
    let reads = looked g.D.Disk.seen g.D.Disk.calls g.D.Disk.may_leave c.args.disk.now c.choose.new.disk c.read_bank.new.disk c.requires c.choose.ensures.reads c.read_bank.ensures.reads in
    reads_joined g.D.Disk.seen g.D.Disk.calls g.D.Disk.may_leave c.args.disk.now c.read_bank.new.disk c.make_canonical.new.disk reads (c.make_canonical.ensures.canonical bytes set (reads.same_bytes ∙ sees) medium)

pub returns-in_err-bank-clause-unharmed : goal.returns-in_err-bank-clause-unharmed
returns-in_err-bank-clause-unharmed g c =
    let model = disk_model g.D.Disk.seen g.D.Disk.calls g.D.Disk.may_leave g.D.Disk.faults in
    each_fault c.from_residual.result (λ (fault : RecoverFault). (bytes : List ℕ) → g.D.Disk.seen c.args.disk.now ≡ Some bytes → IsUnharmedAt model c.args.election.now bytes fault c.args.disk.now c.choose.new.disk)
    (λ fault bytes sees. unharmed model c.args.election.now bytes fault c.args.disk.now c.choose.new.disk c.choose.ensures.reads.any_moment)

pub returns-in_err-closed-clause-unharmed : goal.returns-in_err-closed-clause-unharmed
returns-in_err-closed-clause-unharmed g c =
    let model = disk_model g.D.Disk.seen g.D.Disk.calls g.D.Disk.may_leave g.D.Disk.faults in
    let reads = nothing_joined g.D.Disk.seen g.D.Disk.calls g.D.Disk.may_leave c.args.disk.now c.choose.new.disk c.read_bank.new.disk c.choose.ensures.reads c.read_bank.ensures.reads in
    each_fault c.from_residual-in_err-closed.result (λ (fault : RecoverFault). (bytes : List ℕ) → g.D.Disk.seen c.args.disk.now ≡ Some bytes → IsUnharmedAt model c.args.election.now bytes fault c.args.disk.now c.read_bank.new.disk)
    (λ fault bytes sees. unharmed model c.args.election.now bytes fault c.args.disk.now c.read_bank.new.disk reads.any_moment)

pub returns-in_err-make_canonical-clause-unharmed : goal.returns-in_err-make_canonical-clause-unharmed
returns-in_err-make_canonical-clause-unharmed g c =
    let model = disk_model g.D.Disk.seen g.D.Disk.calls g.D.Disk.may_leave g.D.Disk.faults in
    let e = c.args.election.now in
    handed_on c.from_residual-in_err-make_canonical.result (λ (fault : RecoverFault). (bytes : List ℕ) → g.D.Disk.seen c.args.disk.now ≡ Some bytes → IsUnharmedAt model e bytes fault c.args.disk.now c.make_canonical.new.disk)
    DiskFault c.from_residual-in_err-make_canonical.ensures.1
    (λ bytes sees. half_restored model e bytes c.in_ok-closed.closed.ballots c.args.disk.now c.choose.new.disk c.read_bank.new.disk c.make_canonical.new.disk (bank_named c.in_ok-bank.bank)
    c.choose.ensures.reads c.read_bank.ensures.reads sees c.in_ok-closed.ensures.read (λ x is. c.make_canonical.ensures.any_moment x c.in_ok-closed.closed.ballots is
    (shown_image e c.in_ok-closed.closed c.image.result.now c.in_ok-closed.ensures.election c.in_ok-closed.ensures.stored c.image.ensures.image)))

pub returns-in_err-make_canonical-clause-calls : goal.returns-in_err-make_canonical-clause-calls
returns-in_err-make_canonical-clause-calls g c =
    let chose = c.in_ok-bank.ensures.calls.fault.steady (λ failed. cc) in
    let read = c.in_ok-closed.ensures.calls.fault.steady (λ failed. cc) in
    let made = c.in_err-make_canonical.ensures.calls.fault in
    let left = err_from_is_err_and c.from_residual-in_err-make_canonical.result c.from_residual-in_err-make_canonical.ensures.1 in
    let failed : IsErrOf c.from_residual-in_err-make_canonical.result DiskFault = left.1 ∙ ap Err left.2 in
    record {
      told = c.make_canonical.ensures.calls.told ∙ c.read_bank.ensures.calls.told ∙ c.choose.ensures.calls.told;
      later = omega (arith, c.choose.ensures.calls.later, c.read_bank.ensures.calls.later, c.make_canonical.ensures.calls.later);
      fault = record {
        never_falls = omega (arith, chose, read, made.never_falls);
        steady = λ not. absurd (not failed);
        rose = λ is lt. let more = made.rose lt in omega (arith, chose, read, more);
      };
      leads = g.met.D.Disk.leads_on _ _ _ (g.met.D.Disk.leads_on _ _ _ c.choose.ensures.calls.leads c.read_bank.ensures.calls.leads) c.make_canonical.ensures.calls.leads;
    }

pub returns-clause-calls : goal.returns-clause-calls
returns-clause-calls g c =
    let chose = c.in_ok-bank.ensures.calls.fault.steady (λ failed. cc) in
    let read = c.in_ok-closed.ensures.calls.fault.steady (λ failed. cc) in
    let made = c.in_ok-make_canonical.ensures.calls.fault.steady in
    record {
      told = c.make_canonical.ensures.calls.told ∙ c.read_bank.ensures.calls.told ∙ c.choose.ensures.calls.told;
      later = omega (arith, c.choose.ensures.calls.later, c.read_bank.ensures.calls.later, c.make_canonical.ensures.calls.later);
      fault = record {
        never_falls = omega (arith, chose, read, made);
        steady = λ not. made ∙ read ∙ chose;
        rose = λ failed. absurd (cc);
      };
      leads = g.met.D.Disk.leads_on _ _ _ (g.met.D.Disk.leads_on _ _ _ c.choose.ensures.calls.leads c.read_bank.ensures.calls.leads) c.make_canonical.ensures.calls.leads;
    }
