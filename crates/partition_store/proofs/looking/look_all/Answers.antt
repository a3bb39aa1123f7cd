use Rattle.std.proofs.Common.{◌≤◌, ◌∷◌, [], None, sym, subst, arith}
use Rattle.store_spec.proofs.Common.{disk_model}
use Rattle.partition_store.proofs.Looks.{first_found, refuses_first, refuses_rest}
use Rattle.partition_store.proofs.looking.look_all.Goals as goal
use Rattle.partition_store.specs.Foreign.{IsFirstForeign, IsMisplaced}
use Rattle.partition_store.specs.Opening.{IsAgainst}
use Rattle.recovery.proofs.OneByOne.{handed_on, zip_same}
use Rattle.recovery.proofs.OnlyReading.{nothing_called}
use Rattle.recovery.specs.ReadsOnly.{WritesNothing}

pub returns-in_err-number-clause-refused : goal.returns-in_err-number-clause-refused
returns-in_err-number-clause-refused g c =
    let first = disk_model g.A.Disk.seen g.A.Disk.calls g.A.Disk.may_leave g.A.Disk.faults in
    let further = disk_model g.B.Disk.seen g.B.Disk.calls g.B.Disk.may_leave g.B.Disk.faults in
    let e = c.args.election.now in
    handed_on c.from_residual.result (IsAgainst first further e c.args.disk.now c.look_part.new.disk c.args.more.now c.args.more.now) c.in_err-number.field-0.0 c.from_residual.ensures.1
    (refuses_first first further e c.args.disk.now c.look_part.new.disk c.args.more.now c.in_err-number.field-0.0 c.in_err-number.ensures.refused)

pub returns-in_err-number-clause-others_read : goal.returns-in_err-number-clause-others_read
returns-in_err-number-clause-others_read g c =
    zip_same (WritesNothing g.B.Disk.seen g.B.Disk.calls g.B.Disk.may_leave) (nothing_called g.B.Disk.seen g.B.Disk.calls g.B.Disk.may_leave) c.args.more.now

pub returns-in_err-number-clause-others_later : goal.returns-in_err-number-clause-others_later
returns-in_err-number-clause-others_later g c = zip_same (λ old new. g.B.Disk.calls old ≤ g.B.Disk.calls new) (λ disk. omega arith) c.args.more.now

pub returns-in_err-number-clause-others_lead : goal.returns-in_err-number-clause-others_lead
returns-in_err-number-clause-others_lead g c = zip_same g.B.Disk.leads_to g.met.B.Disk.leads_to_itself c.args.more.now

pub returns-in_err-index-clause-refused : goal.returns-in_err-index-clause-refused
returns-in_err-index-clause-refused g c =
    let first = disk_model g.A.Disk.seen g.A.Disk.calls g.A.Disk.may_leave g.A.Disk.faults in
    let further = disk_model g.B.Disk.seen g.B.Disk.calls g.B.Disk.may_leave g.B.Disk.faults in
    let e = c.args.election.now in
    let one = c.in_ok-number.ensures.found in
    let fault = c.in_err-index.field-0.0 in
    handed_on c.from_residual-in_err-index.result (IsAgainst first further e c.args.disk.now c.look_part.new.disk c.args.more.now c.look_further.new.more) fault c.from_residual-in_err-index.ensures.1
    (refuses_rest first further e c.args.disk.now c.look_part.new.disk c.args.more.now c.look_further.new.more one.0 fault one.1 c.in_ok-number.ensures.steady c.in_err-index.ensures.refused)

pub returns-in-Some-clause-refused : goal.returns-in-Some-clause-refused
returns-in-Some-clause-refused g c =
    let one = c.in_ok-number.ensures.found in
    let rest = c.in_ok-index.ensures.found in
    let bits = c.args.bits in
    let before : IsFirstForeign bits (one.0 ∷ []) c.first_of-first.result = subst (IsFirstForeign bits (one.0 ∷ [])) (sym c.first_of-first.ensures) (first_found bits one.0 c.in_ok-number.number one.2) in
    let found : IsMisplaced bits (one.0 ∷ rest.0) c.in-Some.field-0.index c.in-Some.field-0.number = subst (IsFirstForeign bits (one.0 ∷ rest.0)) c.in-Some.is (rest.2 one.0 before) in (
      one.0,
      rest.0,
      record { held = one.1; each = rest.1; no_fault = c.in_ok-number.ensures.steady; none_rose = c.in_ok-index.ensures.steady },
      subst (λ bits. IsMisplaced bits (one.0 ∷ rest.0) c.in-Some.field-0.index c.in-Some.field-0.number) c.requires.bits found,
    )

pub returns-in-None-clause-held : goal.returns-in-None-clause-held
returns-in-None-clause-held g c =
    let one = c.in_ok-number.ensures.found in
    let rest = c.in_ok-index.ensures.found in
    let bits = c.args.bits in
    let before : IsFirstForeign bits (one.0 ∷ []) c.first_of-first.result = subst (IsFirstForeign bits (one.0 ∷ [])) (sym c.first_of-first.ensures) (first_found bits one.0 c.in_ok-number.number one.2) in
    record {
      set = one.0;
      sets = rest.0;
      held = one.1;
      each = rest.1;
      own = subst (λ bits. IsFirstForeign bits (one.0 ∷ rest.0) None) c.requires.bits (subst (IsFirstForeign bits (one.0 ∷ rest.0)) c.in-None.is (rest.2 one.0 before));
    }
