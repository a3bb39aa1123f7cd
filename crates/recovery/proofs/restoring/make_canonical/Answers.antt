use Rattle.std.proofs.Common.{◌≡◌, ℕ, List, Option, Some, sym, ap, subst, ◌∙◌}
use Rattle.store_spec.proofs.Common.{Bank, HoldsSet, IsMediumOf, IsTrue, LeavesOnly, OnOk, bank_of, false≢true, image_of, is_some}
use Rattle.std.specs.Prelude.{◌↔◌}
use Rattle.bank_medium.specs.Banks.{bank_named, bytes_of}
use Rattle.checkpoint.specs.Renewal.{IsHalfRenewed, IsRenewed}
use Rattle.outside_io.proofs.Told.{told_holds}
use Rattle.outside_io.specs.Told.{IfTold}
use Rattle.recovery.proofs.Agreeing.{agreeing_medium, medium_agrees, medium_open, read_as, read_holds}
use Rattle.recovery.proofs.OnlyReading.{settled_reads}
use Rattle.recovery.proofs.Runs.{reading, reading_then, renewed_told, renewing}
use Rattle.recovery.proofs.restoring.make_canonical.Goals as goal

pub returns-then-not-open_too-clause-medium : goal.returns-then-not-open_too-clause-medium
returns-then-not-open_too-clause-medium g c set image =
    let e = c.args.election.now in
    let other = bank_named c.other_of-other.result in
    renewed_told e set (bank_named c.args.bank) other c.other_of-other.ensures
    c.fill_bank.result (g.D.Disk.seen c.args.disk.now) (g.D.Disk.seen c.fill_bank.new.disk)
    (λ x was. read_as e set (bank_named c.args.bank) x c.args.made.now (c.requires.read x was) (c.requires.bytes x was) image)
    (subst (λ (xs : List ℕ). OnOk c.fill_bank.result (IfTold (g.D.Disk.seen c.args.disk.now) (g.D.Disk.seen c.fill_bank.new.disk) (IsRenewed e other xs))) image.bytes c.fill_bank.ensures.renewed)

pub returns-then-not-open_too-clause-any_moment : goal.returns-then-not-open_too-clause-any_moment
returns-then-not-open_too-clause-any_moment g c bytes set sees image =
    let e = c.args.election.now in
    let other = bank_named c.other_of-other.result in
    renewing e set (bank_named c.args.bank) other c.other_of-other.ensures g.D.Disk.calls g.D.Disk.may_leave bytes
    (read_as e set (bank_named c.args.bank) bytes c.args.made.now (c.requires.read bytes sees) (c.requires.bytes bytes sees) image) c.args.disk.now c.fill_bank.new.disk
    (subst (λ (xs : List ℕ). LeavesOnly g.D.Disk.calls g.D.Disk.may_leave c.args.disk.now c.fill_bank.new.disk (IsHalfRenewed e other xs bytes)) image.bytes (c.fill_bank.ensures.any_moment bytes sees))

pub returns-then-not-open_too-clause-canonical : goal.returns-then-not-open_too-clause-canonical
returns-then-not-open_too-clause-canonical g c bytes set sees medium =
    let e = c.args.election.now in
    let opened : IsTrue c.args.open_too = (c.requires.gate bytes sees).1 (medium_open e set (bank_named c.args.bank) bytes c.requires.election medium) in
    absurd (false≢true (sym c.if-not-open_too.true ∙ opened))

pub returns-in_err-has_bytes-clause-any_moment : goal.returns-in_err-has_bytes-clause-any_moment
returns-in_err-has_bytes-clause-any_moment g c bytes set sees image =
    let e = c.args.election.now in
    let read = read_as e set (bank_named c.args.bank) bytes c.args.made.now (c.requires.read bytes sees) (c.requires.bytes bytes sees) image in
    reading g.D.Disk.seen g.D.Disk.calls g.D.Disk.may_leave c.args.disk.now c.has_bytes.new.disk bytes (settled_reads g.D.Disk.seen g.D.Disk.calls g.D.Disk.may_leave c.args.disk.now c.has_bytes.new.disk c.requires.settled c.has_bytes.ensures.reads) sees (λ c. HoldsSet e c set) (read_holds e set (bank_named c.args.bank) bytes read)

pub returns-then-branch-clause-any_moment : goal.returns-then-branch-clause-any_moment
returns-then-branch-clause-any_moment g c bytes set sees image =
    let e = c.args.election.now in
    let read = read_as e set (bank_named c.args.bank) bytes c.args.made.now (c.requires.read bytes sees) (c.requires.bytes bytes sees) image in
    reading g.D.Disk.seen g.D.Disk.calls g.D.Disk.may_leave c.args.disk.now c.has_bytes.new.disk bytes (settled_reads g.D.Disk.seen g.D.Disk.calls g.D.Disk.may_leave c.args.disk.now c.has_bytes.new.disk c.requires.settled c.has_bytes.ensures.reads) sees (λ c. HoldsSet e c set) (read_holds e set (bank_named c.args.bank) bytes read)

pub returns-then-branch-clause-medium : goal.returns-then-branch-clause-medium
returns-then-branch-clause-medium g c set image =
    let e = c.args.election.now in
    let same = c.has_bytes.ensures.reads.same_bytes in
    let medium = λ (x : List ℕ) (was : g.D.Disk.seen c.args.disk.now ≡ Some x).
    let agrees = (told_holds (λ bytes. IsTrue c.in_ok-has_bytes.field-0 ↔ (bytes_of e c.other_of-other.result bytes ≡ c.args.made.now)) x was c.in_ok-has_bytes.ensures.bytes).0 c.if-branch.true ∙ image.bytes in
    agreeing_medium e set (bank_named c.args.bank) x (read_as e set (bank_named c.args.bank) x c.args.made.now (c.requires.read x was) (c.requires.bytes x was) image) ((c.requires.gate x was).0 c.if-not-open_too.false)
    (subst (λ (b : Bank). bank_of e b x ≡ image_of e set) c.other_of-other.ensures agrees) in
    record {
      told = ap is_some same;
      related = λ x y was is. let kept : x ≡ y = let both : Some x ≡ Some y = sym was ∙ sym same ∙ is in cc in subst (λ (z : List ℕ). IsMediumOf e z set) kept (medium x was);
    }

pub returns-clause-medium : goal.returns-clause-medium
returns-clause-medium g c set image =
    let e = c.args.election.now in
    let other = bank_named c.other_of-other.result in
    let same = c.has_bytes.ensures.reads.same_bytes in
    let renewed = renewed_told e set (bank_named c.args.bank) other c.other_of-other.ensures c.renew_bank.result (g.D.Disk.seen c.has_bytes.new.disk) (g.D.Disk.seen c.renew_bank.new.disk)
    (λ x was. read_as e set (bank_named c.args.bank) x c.args.made.now (c.requires.read x (sym same ∙ was)) (c.requires.bytes x (sym same ∙ was)) image)
    (subst (λ (xs : List ℕ). OnOk c.renew_bank.result (IfTold (g.D.Disk.seen c.has_bytes.new.disk) (g.D.Disk.seen c.renew_bank.new.disk) (IsRenewed e other xs))) image.bytes c.renew_bank.ensures.renewed) in
    subst (λ (o : Option (List ℕ)). OnOk c.renew_bank.result (IfTold o (g.D.Disk.seen c.renew_bank.new.disk) (λ _ y. IsMediumOf e y set))) same renewed

pub returns-clause-any_moment : goal.returns-clause-any_moment
returns-clause-any_moment g c bytes set sees image =
    let e = c.args.election.now in
    let other = bank_named c.other_of-other.result in
    let read = read_as e set (bank_named c.args.bank) bytes c.args.made.now (c.requires.read bytes sees) (c.requires.bytes bytes sees) image in
    reading_then g.D.Disk.seen g.D.Disk.calls g.D.Disk.may_leave c.args.disk.now c.has_bytes.new.disk bytes (settled_reads g.D.Disk.seen g.D.Disk.calls g.D.Disk.may_leave c.args.disk.now c.has_bytes.new.disk c.requires.settled c.has_bytes.ensures.reads) sees c.renew_bank.new.disk (λ c. HoldsSet e c set) (read_holds e set (bank_named c.args.bank) bytes read)
    (renewing e set (bank_named c.args.bank) other c.other_of-other.ensures g.D.Disk.calls g.D.Disk.may_leave bytes read c.has_bytes.new.disk c.renew_bank.new.disk
    (subst (λ (xs : List ℕ). LeavesOnly g.D.Disk.calls g.D.Disk.may_leave c.has_bytes.new.disk c.renew_bank.new.disk (IsHalfRenewed e other xs bytes)) image.bytes
    (c.renew_bank.ensures.any_moment bytes (c.has_bytes.ensures.reads.same_bytes ∙ sees))))

pub returns-clause-canonical : goal.returns-clause-canonical
returns-clause-canonical g c bytes set sees medium =
    let e = c.args.election.now in
    let agrees = medium_agrees e set (bank_named c.args.bank) bytes c.requires.election medium ∙ c.requires.bytes bytes sees in
    let there = subst (λ (b : Bank). bank_of e b bytes ≡ c.args.made.now) (sym c.other_of-other.ensures) agrees in
    let agree : IsTrue c.in_ok-has_bytes.field-0 = (told_holds (λ bytes. IsTrue c.in_ok-has_bytes.field-0 ↔ (bytes_of e c.other_of-other.result bytes ≡ c.args.made.now)) bytes sees c.in_ok-has_bytes.ensures.bytes).1 there in
    absurd (false≢true (sym c.if-branch.false ∙ agree))
