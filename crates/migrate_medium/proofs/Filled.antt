-- Why a target is not filled, and what a crash leaves of one that is.
use Rattle.std.proofs.Common.{◌≡◌, ℕ, ◌⊎◌, inl, inr, ⊎_elim, List, Option, Some, None, Result, Ok, Err, refl, sym, subst}
use Rattle.store_spec.proofs.Common.{Ballot, DiskModel, Election, HasVersionOne, HoldsSet, IfErr, IfSome, IsErrAnd, IsErrOf, LeavesOnlyOnceSynced, Rose, SyncsFirst, as_version_one}
use Rattle.checkpoint.specs.Unused.{init_fault, IsInitRefused, IsUntouchedOr, IsUnusedOrHolds}
use Rattle.checkpoint.specs.declared.fresh.FillFault.{FillFault}
use Rattle.checkpoint.specs.declared.fresh.FillFault.TheVariants.{WrongSize, Exists, DiskFault}
use Rattle.migrate_medium.specs.Migrating.{IsKeptOrMigrated, MigrateRefuses, OldHolds, target_fault}
use Rattle.migrate_medium.specs.declared.fault.MigrateFault.{MigrateFault}
use Rattle.migrate_medium.specs.declared.fault.MigrateFault.TheVariants.{Memory}
use Rattle.recovery.specs.Refused.{IsRefusedMedium}
use Rattle.recovery.specs.declared.fault.RecoverFault.TheVariants as recover

module _ {A B : Type 0} (old : DiskModel A) (target : DiskModel B) (e form : Election) (is_form : form ≡ as_version_one e) (from : A)
    (read : List Ballot) (found : IfSome (old.seen from) (λ bytes. HoldsSet form bytes read)) where
  held : OldHolds old e from read
  held = subst (λ form. IfSome (old.seen from) (λ bytes. HoldsSet form bytes read)) is_form found

  -- want of memory, once the old medium was read
  module _ (since : A) (before after : B) (has_form : HasVersionOne e) where
    pub refuses_memory : MigrateRefuses old target e from since before after Memory
    refuses_memory = (has_form, read_memory (old.seen from) held)
      where
        read_memory : (seen : Option (List ℕ)) → IfSome seen (λ bytes. HoldsSet (as_version_one e) bytes read) → IfSome seen (λ bytes. IsRefusedMedium (as_version_one e) bytes recover.Memory)
        read_memory None holds = tt
        read_memory (Some bytes) holds = (holds.bank, record { size = holds.size; chosen = holds.chosen })

  module _ (since : A) (before after : B) (has_form : HasVersionOne e) where
    refuses_fill : (why : FillFault) → IfSome (target.seen before) (λ bytes. IsInitRefused e bytes (init_fault why)) → (IsErrOf {T = Unit {0}} (Err why) DiskFault → Rose (target.faults before) (target.faults after))
        → MigrateRefuses old target e from since before after (target_fault why)
    refuses_fill (WrongSize size) refused rose = (has_form, ((read, held), refused))
    refuses_fill Exists refused rose = (has_form, ((read, held), refused))
    refuses_fill DiskFault refused rose = (has_form, ((read, held), rose refl))

    pub refuses_target : {T : Type 0} (r : Result T MigrateFault) (why : FillFault) → IsErrAnd r (λ f. f ≡ target_fault why)
        → IfSome (target.seen before) (λ bytes. IsInitRefused e bytes (init_fault why)) → (IsErrOf {T = Unit {0}} (Err why) DiskFault → Rose (target.faults before) (target.faults after))
        → IfErr r (MigrateRefuses old target e from since before after)
    refuses_target (Ok count) why is refused rose = tt
    refuses_target (Err fault) why is refused rose = subst (MigrateRefuses old target e from since before after) (sym is) (refuses_fill why refused rose)

  module _ (set : List Ballot) (same : set ≡ read) (bytes : List ℕ) (before after : B) where
    filled : (image : List ℕ) → IsUntouchedOr e set bytes image → IsKeptOrMigrated old e from bytes image
    filled image left = ⊎_elim inl (λ new. inr (new.0, (read, held, subst (λ set. IsUnusedOrHolds e set image) same new.1))) left

    once_filled : LeavesOnlyOnceSynced target.calls target.may_leave before after (IsUntouchedOr e set bytes)
        → LeavesOnlyOnceSynced target.calls target.may_leave before after (IsKeptOrMigrated old e from bytes)
    once_filled run = record {
      later = run.later;
      past = run.past;
      before = run.before;
      each = λ lt m from to c left. filled c (run.each lt m from to c left);
      now = λ c left. filled c (run.now c left);
    }

    pub run_filled : SyncsFirst target.calls target.may_leave before after (IsUntouchedOr e set bytes)
        → (after ≡ before) ⊎ SyncsFirst target.calls target.may_leave before after (IsKeptOrMigrated old e from bytes)
    run_filled run = inr (⊎_elim (λ synced. inl (once_filled synced)) (λ failed. inr failed) run)
