use Rattle.std.proofs.Common.{List, ℕ, subst, arith}
use Rattle.store_spec.proofs.Common.{IfSome, IsImageOf, with_items_is}
use Rattle.bank_medium.specs.Banks.{bank_named}
use Rattle.recovery.proofs.OneByOne.{handed_on}
use Rattle.recovery.proofs.Paging.{memory_told, read_told}
use Rattle.recovery.proofs.reading.read_bank.Goals as goal
use Rattle.recovery.specs.Refused.{IsRefusedMedium}
use Rattle.recovery.specs.declared.fault.RecoverFault.{RecoverFault}
use Rattle.recovery.specs.declared.fault.RecoverFault.TheVariants.{Memory}

pub returns-clause-read : goal.returns-clause-read
returns-clause-read g c =
    let e = c.args.election.now in
    let set = c.in_ok-into_store.field-0.ballots in
    let written = with_items_is c.in_ok-made.made c.read_pages.new.made (omega (arith, c.read_pages.auto.made, c.deref_mut.ensures.len)) in
    read_told e (bank_named c.args.bank) (g.D.Disk.seen c.args.disk.now) c.read_pages.new.made set c.in_ok-read_pages.ensures.read c.requires.from
    (subst (λ (bytes : List ℕ). IsImageOf e bytes set) written c.in_ok-into_store.ensures.image)

pub returns-in_err-cells-clause-refused : goal.returns-in_err-cells-clause-refused
returns-in_err-cells-clause-refused g c =
    let e = c.args.election.now in
    let seen = g.D.Disk.seen c.args.disk.now in
    handed_on c.from_residual.result (λ (fault : RecoverFault). IfSome seen (λ bytes. IsRefusedMedium e bytes fault)) Memory c.from_residual.ensures.1
    (memory_told e (bank_named c.args.bank) seen c.requires.from)

pub returns-in_err-made-clause-refused : goal.returns-in_err-made-clause-refused
returns-in_err-made-clause-refused g c =
    let e = c.args.election.now in
    let seen = g.D.Disk.seen c.args.disk.now in
    handed_on c.from_residual-in_err-made.result (λ (fault : RecoverFault). IfSome seen (λ bytes. IsRefusedMedium e bytes fault)) Memory c.from_residual-in_err-made.ensures.1
    (memory_told e (bank_named c.args.bank) seen c.requires.from)

pub returns-in_err-into_store-clause-refused : goal.returns-in_err-into_store-clause-refused
returns-in_err-into_store-clause-refused g c =
    let e = c.args.election.now in
    let seen = g.D.Disk.seen c.args.disk.now in
    handed_on c.from_residual-in_err-into_store.result (λ (fault : RecoverFault). IfSome seen (λ bytes. IsRefusedMedium e bytes fault)) Memory c.from_residual-in_err-into_store.ensures.1
    (memory_told e (bank_named c.args.bank) seen c.requires.from)
