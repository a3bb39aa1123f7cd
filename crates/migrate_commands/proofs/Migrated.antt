-- How a migration ends: the status of a target that was not filled, and what came of telling that it was.
use Rattle.std.proofs.Common.{◌≡◌, ℕ, List, Result, Err, inr, refl, sym, ◌∙◌, subst}
use Rattle.store_spec.proofs.Common.{CountsFault, CountsFaultIf, DiskModel, Election, IfErr, IsErrOf, OnErr, OnOk}
use Rattle.migrate_commands.specs.Migrate.{IsMigrated, MigrateWrites, MigratesNone, migrate_status, migrated_text}
use Rattle.migrate_medium.specs.Migrating.{IsSpared, MigrateRefuses}
use Rattle.migrate_medium.specs.declared.fault.MigrateFault.{MigrateFault}
use Rattle.migrate_medium.specs.declared.fault.MigrateFault.TheVariants.{NoOldForm, Old, ToSize, ToInUse, ToFault, Memory}
use Rattle.outside_io.specs.Outside.{Output}
use Rattle.outside_io.specs.Stream.{TakesAll, TakesSome}
use Rattle.recovery.specs.declared.fault.RecoverFault.TheVariants as recover
use Rattle.run_outcome.proofs.Laws.{ended_told}
use Rattle.run_outcome.specs.Status.{ended}
use Rattle.run_outcome.specs.declared.status.Status.{Status}
use Rattle.run_outcome.specs.declared.status.Status.TheVariants as status

-- a status that a refusal may have
abbrev pub IsRefusal : Status → Type 0
IsRefusal status.Ok = ⊥
IsRefusal status.WriteFault = ⊥
IsRefusal status.Usage = ⊥
IsRefusal other = Unit {0}

pub is_refusal : (fault : MigrateFault) → IsRefusal (migrate_status fault)
is_refusal (Old recover.NoStore) = tt
is_refusal (Old (recover.OtherElection header)) = tt
is_refusal (Old (recover.Damaged cell)) = tt
is_refusal (Old recover.DiskFault) = tt
is_refusal (Old recover.Memory) = tt
is_refusal NoOldForm = tt
is_refusal (ToSize size) = tt
is_refusal ToInUse = tt
is_refusal ToFault = tt
is_refusal Memory = tt

module _ {D : Type 0} (model : DiskModel D) (e : Election) (from since before after : D) where
  -- it tells why the target was not filled
  pub not_filled : {T : Type 0} (r : Result T MigrateFault) (fault : MigrateFault) → r ≡ Err fault → MigrateRefuses model model e from since before after fault → IsSpared model before after fault
      → CountsFaultIf (IsErrOf r (Old recover.DiskFault)) (model.faults from) (model.faults since) → CountsFaultIf (IsErrOf r ToFault) (model.faults before) (model.faults after)
      → MigratesNone model e from since before after (migrate_status fault)
  not_filled {T = T} r fault is refuses spared old target = (
    fault,
    refl,
    record {
      refuses = refuses;
      spared = spared;
      old_steady = λ other. old.steady (λ wrong. other (let both : IsErrOf {T = T} (Err fault) (Old recover.DiskFault) = sym is ∙ wrong in cc));
      target_steady = λ other. target.steady (λ wrong. other (let both : IsErrOf {T = T} (Err fault) ToFault = sym is ∙ wrong in cc));
    },
  )

  -- then nothing is told
  pub none_told : {K : Type 0} (a : Status) (out : Output K) → MigratesNone model e from since before after a → MigrateWrites model e a out out from since before after
  none_told status.Ok out none = absurd (subst IsRefusal (sym none.1) (is_refusal none.0))
  none_told status.WriteFault out none = absurd (subst IsRefusal (sym none.1) (is_refusal none.0))
  none_told status.Memory out none = (inr none, refl)
  none_told other out none = (none, refl)

  -- it was, and the sink took the line that tells it, or some first part of it
  pub told_migrated : {K : Type 0} (r : Result (Unit {0}) Status) (old new : Output K) (count : ℕ) (text : List ℕ) → IsMigrated model e from since before after count → text ≡ migrated_text count
      → OnOk r (TakesAll old.taken text new.taken) → OnErr r (TakesSome old.taken text new.taken) → IfErr r (λ a. a ≡ status.WriteFault) → CountsFault r old.faults new.faults
      → MigrateWrites model e (ended r) old new from since before after
  told_migrated r old new count text migrated is all some failed fault =
      ended_told r (TakesAll old.taken text new.taken) (TakesSome old.taken text new.taken) old.faults new.faults (λ a. MigrateWrites model e a old new from since before after) all some failed fault
      (λ told steady. (record { count = count; migrated = migrated; takes = subst (λ (text : List ℕ). TakesAll old.taken text new.taken) is told }, steady))
      (λ cut rose. (record { count = count; migrated = migrated; takes = subst (λ (text : List ℕ). TakesSome old.taken text new.taken) is cut }, rose))
