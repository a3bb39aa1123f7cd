-- The laws of `migrate`: the bytes of both media decide how it ends, but for faults and want of memory.
use Rattle.std.proofs.Common.{◌≡◌, ◌≢◌, ◌⊎◌, ℕ, List, [], ◌∷◌, Some, inl, inr, ⊎_elim, refl, sym, ◌∙◌, ap, subst}
use Rattle.store_spec.proofs.Common.{A, AllZip, B, Ballot, Bank, DiskModel, Election, HasVersionOne, HoldsSet, HoldsSome, IsChosen, IsElection, IsOpen, IsUnused, as_version_one}
use Rattle.checkpoint.specs.Unused.{IsInitRefused, IsUnusedOrHolds}
use Rattle.checkpoint.specs.declared.fresh.InitFault.TheVariants as inits
use Rattle.medium_commands.proofs.InitLaws.{InitDecides, one_init}
use Rattle.medium_commands.proofs.Refusing.{Refuses, not_both, one_refused, refuses}
use Rattle.migrate_commands.proofs.Migrated.{IsRefusal, is_refusal}
use Rattle.migrate_commands.proofs.OldForm.{form_valid}
use Rattle.migrate_commands.specs.Migrate.{HoldsOld, IsUnusedTarget, MigrateEnds, MigrateWrites, MigratesNone, MigratesNot, migrate_row, migrate_status}
use Rattle.migrate_medium.specs.Migrating.{OldHolds}
use Rattle.migrate_medium.specs.declared.fault.MigrateFault.{MigrateFault}
use Rattle.migrate_medium.specs.declared.fault.MigrateFault.TheVariants as faults
use Rattle.outside_io.specs.Outside.{Output}
use Rattle.recovery.specs.Refused.{IsRefusedMedium}
use Rattle.recovery.specs.declared.fault.RecoverFault.{RecoverFault}
use Rattle.recovery.specs.declared.fault.RecoverFault.TheVariants as recover
use Rattle.run_outcome.proofs.Laws.{Laws, at_told, not_risen}
use Rattle.run_outcome.specs.Row.{Content, NothingFailed, OfOne, Tells}
use Rattle.run_outcome.specs.Status.{IsDecided}
use Rattle.run_outcome.specs.World.{IsSteady, Reported, World}
use Rattle.run_outcome.specs.declared.status.Status.{Status}
use Rattle.run_outcome.specs.declared.status.Status.TheVariants as status

-- ---- what decides

-- the status of a target for which a new medium would have this one
abbrev as_target : Status → Status
as_target status.Exists = status.MediumInUse 1
as_target (status.WrongSize size) = status.MediumSize 1 size
as_target other = other

-- the bytes of the only target decide this status
abbrev pub TargetDecides : Election → List (List ℕ) → Status → Type 0
TargetDecides e (target ∷ []) a = (b : Status) × InitDecides e target b × (a ≡ as_target b)
TargetDecides e more a = ⊥

-- the old medium holds a set, and the target decides
pub record OldHeld (e : Election) (content : Content) (a : Status) : Type 0 where
  pub held : HoldsSome (as_version_one e) content.disk
  pub target : TargetDecides e content.more a

-- the election has a form in version 1, and the bytes of the media decide
pub record HasForm (e : Election) (content : Content) (a : Status) : Type 0 where
  pub form : HasVersionOne e
  pub decides : Refuses (as_version_one e) content.disk a ⊎ OldHeld e content a

-- the status that the election and the bytes of both media decide, and why
abbrev pub MigrateDecides : Election → Content → Status → Type 0
MigrateDecides e content a = ((¬ HasVersionOne e) × (a ≡ status.NoOldForm)) ⊎ HasForm e content a

-- with a set in the old medium
by_target : (e : Election) (content : Content) (target : List ℕ) (b : Status) → content.more ≡ target ∷ [] → HasVersionOne e → HoldsSome (as_version_one e) content.disk → InitDecides e target b
    → MigrateDecides e content (as_target b)
by_target e content target b only form held decides = inr (record {
  form = form;
  decides = inr (record { held = held; target = subst (λ more. TargetDecides e more (as_target b)) (sym only) (b, decides, refl) });
})

-- ---- one cause

one_target : (e : Election) (more : List (List ℕ)) (a b : Status) → TargetDecides e more a → TargetDecides e more b → a ≡ b
one_target e (target ∷ []) a b x y = x.2 ∙ ap as_target (one_init e target x.0 y.0 x.1 y.1) ∙ sym y.2
one_target e more a b x y = absurd (assumption (x, y))

one_with_form : (e : Election) (content : Content) (a b : Status) → IsElection e → HasForm e content a → HasForm e content b → a ≡ b
one_with_form e content a b valid x y =
    let old = form_valid e valid x.form in
    ⊎_elim
    (λ refused. ⊎_elim
    (λ too. one_refused (as_version_one e) content.disk a b refused too)
    (λ held. absurd (not_both (as_version_one e) content.disk a old held.held refused))
    y.decides)
    (λ held. ⊎_elim
    (λ refused. absurd (not_both (as_version_one e) content.disk b old held.held refused))
    (λ too. one_target e content.more a b held.target too.target)
    y.decides)
    x.decides

one_migrate : (e : Election) (content : Content) (a b : Status) → IsElection e → MigrateDecides e content a → MigrateDecides e content b → a ≡ b
one_migrate e content a b valid x y = ⊎_elim
    (λ none. ⊎_elim (λ too. none.1 ∙ sym too.1) (λ some. absurd (none.0 some.form)) y)
    (λ some. ⊎_elim (λ none. absurd (none.0 some.form)) (λ too. one_with_form e content a b valid some too) y)
    x

-- ---- what the media tell

module _ {D : Type 0} (model : DiskModel D) (e : Election) (from since before after : D) (content : Content) (target : List ℕ) (reads : model.seen from ≡ Some content.disk) (only : content.more ≡ target ∷ []) (sees : model.seen before ≡ Some target) where
  held_told : (set : List Ballot) → OldHolds model e from set → HoldsSome (as_version_one e) content.disk
  held_told set old = (set, at_told (model.seen from) content.disk (λ x. HoldsSet (as_version_one e) x set) reads old)

  decided : (form : HasVersionOne e) (set : List Ballot) (b : Status) → OldHolds model e from set → InitDecides e target b → MigrateDecides e content (as_target b)
  decided form set b old decides = by_target e content target b only form (held_told set old) decides

  refused_old : (why : RecoverFault) → why ≢ recover.DiskFault → HasVersionOne e → why ≢ recover.Memory → IsRefusedMedium (as_version_one e) content.disk why → MigrateDecides e content (migrate_status (faults.Old why))
  refused_old why no_fault form no_memory refused = inr (record { form = form; decides = inl (refuses (as_version_one e) content.disk why no_fault no_memory refused) })

  not_decides : (fault : MigrateFault) → IsDecided (migrate_status fault) → MigratesNot model e from since before after fault → MigrateDecides e content (migrate_status fault)
  not_decides faults.NoOldForm is not = inl (not.refuses.0, refl)
  not_decides (faults.Old recover.NoStore) is not =
      refused_old recover.NoStore (λ no. cc) not.refuses.0 (λ no. cc) (at_told (model.seen from) content.disk (λ x. IsRefusedMedium (as_version_one e) x recover.NoStore) reads not.refuses.1.0)
  not_decides (faults.Old (recover.OtherElection header)) is not =
      refused_old (recover.OtherElection header) (λ no. cc) not.refuses.0 (λ no. cc)
      (at_told (model.seen from) content.disk (λ x. IsRefusedMedium (as_version_one e) x (recover.OtherElection header)) reads not.refuses.1.0)
  not_decides (faults.Old (recover.Damaged cell)) is not =
      refused_old (recover.Damaged cell) (λ no. cc) not.refuses.0 (λ no. cc) (at_told (model.seen from) content.disk (λ x. IsRefusedMedium (as_version_one e) x (recover.Damaged cell)) reads not.refuses.1.0)
  not_decides (faults.Old recover.DiskFault) is not = absurd is
  not_decides (faults.Old recover.Memory) is not = absurd is
  not_decides (faults.ToSize size) is not =
      decided not.refuses.0 not.refuses.1.0.0 (status.WrongSize size) not.refuses.1.0.1 (at_told (model.seen before) target (λ x. IsInitRefused e x (inits.WrongSize size)) sees not.refuses.1.1)
  not_decides faults.ToInUse is not =
      decided not.refuses.0 not.refuses.1.0.0 status.Exists not.refuses.1.0.1 (at_told (model.seen before) target (λ x. IsInitRefused e x inits.Exists) sees not.refuses.1.1)
  not_decides faults.ToFault is not = absurd is
  not_decides faults.Memory is not = absurd is

  none_decides : (a : Status) → IsDecided a → MigratesNone model e from since before after a → MigrateDecides e content a
  none_decides a is none = subst (MigrateDecides e content) (sym none.1) (not_decides none.0 (subst IsDecided none.1 is) none.2)

  tells_decides : {K : Type 0} (a : Status) (old new : Output K) → IsDecided a → MigrateWrites model e a old new from since before after → MigrateDecides e content a
  tells_decides status.Ok old new is tells =
      let migrates = tells.0.migrated.migrates in
      decided migrates.form migrates.set status.Ok migrates.held (at_told (model.seen before) target (IsUnused e) sees migrates.unused)
  tells_decides status.WriteFault old new is tells = absurd is
  tells_decides status.Memory old new is tells = absurd is
  tells_decides other old new is tells = none_decides other is tells.0

-- ---- the only target

migrate_caused : {S K D : Type 0} (model : DiskModel D) (e : Election) (a : Status) (before after : World S K D) (more now : List D) (content : Content) (others : List (List ℕ)) → model.seen before.disk ≡ Some content.disk → content.more ≡ others
    → AllZip (λ disk told. model.seen disk ≡ Some told) more others → IsDecided a
    → OfOne (MigrateEnds model e a before.streams.sink after.streams.sink before.disk after.disk) more now → MigrateDecides e content a
migrate_caused model e a before after (old ∷ []) (new ∷ []) content (target ∷ []) reads only each is ends =
    tells_decides model e before.disk after.disk old new content target reads only each.0 a before.streams.sink after.streams.sink is ends.tells
migrate_caused model e a before after (old ∷ []) (new ∷ []) content [] reads only each is ends = absurd each
migrate_caused model e a before after (old ∷ []) (new ∷ []) content (target ∷ x ∷ others) reads only each is ends = absurd each.1
migrate_caused model e a before after more now content others reads only each is ends = absurd (assumption ends)

-- ---- no fault where no count rose

module _ {D : Type 0} (model : DiskModel D) (e : Election) (from since before after : D) (steady : IsSteady (model.faults from) (model.faults since)) (still : IsSteady (model.faults before) (model.faults after)) where
  none_settled : (fault : MigrateFault) → MigratesNot model e from since before after fault → IsDecided (migrate_status fault) ⊎ (migrate_status fault ≡ status.Memory)
  none_settled (faults.Old recover.NoStore) not = inl tt
  none_settled (faults.Old (recover.OtherElection header)) not = inl tt
  none_settled (faults.Old (recover.Damaged cell)) not = inl tt
  none_settled (faults.Old recover.DiskFault) not = absurd (not_risen (model.faults from) (model.faults since) steady (not.refuses.1.2 refl))
  none_settled (faults.Old recover.Memory) not = inr refl
  none_settled faults.ToFault not = absurd (not_risen (model.faults before) (model.faults after) still not.refuses.1.1)
  none_settled faults.Memory not = inr refl
  none_settled other not = inl tt

  tells_settled : {K : Type 0} (a : Status) (old new : Output K) → IsSteady old.faults new.faults → MigrateWrites model e a old new from since before after → IsDecided a ⊎ (a ≡ status.Memory)
  tells_settled status.Ok old new sink tells = inl tt
  tells_settled status.WriteFault old new sink tells = absurd (not_risen old.faults new.faults sink tells.1)
  tells_settled status.Memory old new sink tells = inr refl
  tells_settled other old new sink tells =
      subst (λ a. IsDecided a ⊎ (a ≡ status.Memory)) (sym tells.0.1) (none_settled tells.0.0 tells.0.2)

migrate_settled : {S K D : Type 0} (model : DiskModel D) (e : Election) (a : Status) (before after : World S K D) (more now : List D) → IsSteady before.streams.sink.faults after.streams.sink.faults
    → IsSteady (model.faults before.disk) (model.faults after.disk) → AllZip (λ old new. IsSteady (model.faults old) (model.faults new)) more now
    → OfOne (MigrateEnds model e a before.streams.sink after.streams.sink before.disk after.disk) more now → IsDecided a ⊎ (a ≡ status.Memory)
migrate_settled model e a before after (old ∷ []) (new ∷ []) sink disk each ends =
    tells_settled model e before.disk after.disk old new disk each.0 a before.streams.sink after.streams.sink sink ends.tells
migrate_settled model e a before after more now sink disk each ends = absurd (assumption ends)

-- ---- with nothing against it

served_decides : (e : Election) (content : Content) (more : List (List ℕ)) → content.more ≡ more → (set : List Ballot) → HoldsOld e content.disk set → IsUnusedTarget e more → MigrateDecides e content status.Ok
served_decides e content (target ∷ []) only set old unused = by_target e content target status.Ok only old.0 (set, old.1) unused
served_decides e content more only set old unused = absurd (assumption unused)

not_usage : {K D : Type 0} (model : DiskModel D) (e : Election) (old new : Output K) (from since : D) (more now : List D) → OfOne (MigrateEnds model e status.Usage old new from since) more now → ⊥
not_usage model e old new from since (before ∷ []) (after ∷ []) ends = subst IsRefusal (sym ends.tells.0.1) (is_refusal ends.tells.0.0)
not_usage model e old new from since more now ends = absurd (assumption ends)

pub migrate_laws : Laws migrate_row
migrate_laws = record {
  Cause = MigrateDecides;
  caused = λ model e a report before after content tells decided ends.
      migrate_caused model e a before after before.more after.more content content.more tells.disk refl tells.more decided ends;
  one = one_migrate;
  settled = λ model e a report before after none ends. migrate_settled model e a before after before.more after.more none.sink none.disk none.more ends;
  served = λ e content a words valid one served decides.
      one_migrate e content a status.Ok valid decides (served_decides e content content.more refl served.0.0 served.0.1 served.1);
  no_usage = λ model e report before after ends. not_usage model e before.streams.sink after.streams.sink before.disk after.disk before.more after.more ends;
}

-- ---- the same command again

one_gate : (e : Election) (image : List ℕ) (bank : Bank) → IsChosen e image bank → IsOpen e A image ⊎ IsOpen e B image
one_gate e image A chosen = inl chosen
one_gate e image B chosen = inr chosen.1

-- a target that holds a set is in use
in_use : (e : Election) (content : Content) (image : List ℕ) (set : List Ballot) → content.more ≡ image ∷ [] → HoldsOld e content.disk set → HoldsSet e image set → MigrateDecides e content (status.MediumInUse 1)
in_use e content image set only old full = by_target e content image status.Exists only old.0 (set, old.1) (full.size, one_gate e image full.bank full.chosen)

pub again : {S K D : Type 0} (model : DiskModel D) (e : Election) (a : Status) (report : Reported) (before after : World S K D) (content : Content) (image : List ℕ) (set : List Ballot)
    → IsElection e → Tells model migrate_row.touches before content → HoldsOld e content.disk set → content.more ≡ image ∷ [] → IsUnusedOrHolds e set image → NothingFailed model migrate_row.touches before after
    → migrate_row.ends model e a report before after → (a ≡ status.Ok) ⊎ (a ≡ status.Memory) ⊎ ((a ≡ status.MediumInUse 1) × HoldsSet e image set)
unfolding migrate_laws
again model e a report before after content image set valid tells old only left none ends = ⊎_elim
    (λ decided.
    let cause = migrate_laws.caused model e a report before after content tells decided ends in
    ⊎_elim
    (λ unused. inl (one_migrate e content a status.Ok valid cause (served_decides e content (image ∷ []) only set old unused)))
    (λ full. inr (inr (one_migrate e content a (status.MediumInUse 1) valid cause (in_use e content image set only old full), full)))
    left)
    (λ memory. inr (inl memory))
    (migrate_laws.settled model e a report before after none ends)
