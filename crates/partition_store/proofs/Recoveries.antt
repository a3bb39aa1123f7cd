-- The medium of a part is recovered.
use Rattle.std.proofs.Common.{◌≡◌, ◌⊎◌, ◌+◌, ◌<◌, ℕ, suc, List, [], ◌∷◌, ◌++◌, length, set, take, Option, Some, None, Result, Err, inl, inr, refl, sym, ap, subst, ◌∙◌, arith}
use Rattle.store_spec.proofs.Common.{AllZip, Ballot, CountsFaultIf, DiskModel, Election, HoldsSet, HoldsTheSame, IsErrOf, IsMediumOf, IsSettled, LeavesOnly, SyncsFirst, leaves_now}
use Rattle.std.specs.List.{slice_get}
use Rattle.std.specs.Option.{IfSome, is_some}
use Rattle.any_store.specs.Checkpointed.{IsMediumNow}
use Rattle.checkpoint.proofs.Pages.{told_back}
use Rattle.crash_disk.proofs.Moments.{started, syncs_first, weaker}
use Rattle.outside_io.proofs.Told.{told_holds}
use Rattle.outside_io.specs.Told.{AsTold}
use Rattle.partition_store.specs.Opening.{HoldsThroughout, Recovers, recovery_fault_at}
use Rattle.partition_store.specs.Recovering.{AreRecoveredAs, IsRecoveredAs, KeepsSteady, RefusesRecoveries, RefusesRecovery}
use Rattle.partition_store.specs.declared.fault.PartFault.{PartFault}
use Rattle.partition_store.specs.declared.fault.PartFault.TheVariants as faults
use Rattle.partition_store.specs.declared.fault.PartFault.TheVariants.{First, Other, Misplaced}
use Rattle.partition_store.proofs.SideBySide.{still_there, taken_next, zip_at, zip_taken}
use Rattle.recovery.proofs.OneByOne.{stands_now, zip_more, zip_push}
use Rattle.recovery.specs.Media.{HoldsIfTold}
use Rattle.recovery.specs.Refused.{HoldsSetOf, IsUnchangedAt, IsUnharmedAt}
use Rattle.recovery.specs.declared.fault.RecoverFault.{RecoverFault}
use Rattle.recovery.specs.declared.fault.RecoverFault.TheVariants.{NoStore, OtherElection, Damaged, DiskFault, Memory}

pub if_told : {X : Type 0} (P : X → Type 0) (o : Option X) → ((x : X) → o ≡ Some x → P x) → IfSome o P
if_told P None each = tt
if_told P (Some x) each = each x refl

module _ {D : Type 0} (model : DiskModel D) (e : Election) (old new : D) where
  -- it gave no store
  pub spared : (fault : RecoverFault) → ((bytes : List ℕ) → model.seen old ≡ Some bytes → IsUnharmedAt model e bytes fault old new) → HoldsThroughout model e old new
  spared fault unharmed bytes sees = from fault (unharmed bytes sees)
    where
      still : LeavesOnly model.calls model.may_leave old new (leaves_now model.calls model.may_leave old)
          → LeavesOnly model.calls model.may_leave old new (λ image. leaves_now model.calls model.may_leave old image ⊎ HoldsSetOf e bytes image)
      still run = weaker model.calls model.may_leave old new (leaves_now model.calls model.may_leave old)
          (λ image. leaves_now model.calls model.may_leave old image ⊎ HoldsSetOf e bytes image) (λ image left. inl left) run

      from : (fault : RecoverFault) → IsUnharmedAt model e bytes fault old new
          → LeavesOnly model.calls model.may_leave old new (λ image. leaves_now model.calls model.may_leave old image ⊎ HoldsSetOf e bytes image)
      from NoStore run = still run
      from (OtherElection header) run = still run
      from (Damaged cell) run = still run
      from DiskFault run = run
      from Memory run = still run

  -- it gave one
  pub recovered : (set : List Ballot) → HoldsIfTold model e old set
      → ((bytes : List ℕ) → model.seen old ≡ Some bytes → SyncsFirst model.calls model.may_leave old new (HoldsTheSame e bytes)) → HoldsThroughout model e old new
  recovered set held run bytes sees =
      let holds = told_holds (λ x. HoldsSet e x set) bytes sees held in
      syncs_first model.calls model.may_leave old new (λ image. leaves_now model.calls model.may_leave old image ⊎ HoldsSetOf e bytes image) (HoldsTheSame e bytes)
      (λ image left. inl left) (λ image same. inr (set, holds, same (Some set) holds)) (run bytes sees)

  -- what a read gives afterwards is one of the images
  pub fails : ((disk : D) (bytes : List ℕ) → model.seen disk ≡ Some bytes → leaves_now model.calls model.may_leave disk bytes) → is_some (model.seen new) ≡ is_some (model.seen old)
      → HoldsThroughout model e old new → AsTold model.seen old new (λ x y. leaves_now model.calls model.may_leave old y ⊎ HoldsSetOf e x y)
  fails law told throughout = record {
    told = told;
    related = λ x y was is. (throughout x was).now y (law new y is);
  }

  pub keeps : model.faults new ≡ model.faults old → model.seen new ≡ model.seen old → KeepsSteady model e old new
  keeps steady same = record {
    no_fault = steady;
    bytes = record {
      told = ap is_some same;
      related = λ x y was is. inl (let both : Some y ≡ Some x = sym is ∙ same ∙ was in cc);
    };
  }

  pub keeps_set : (set : List Ballot) → HoldsIfTold model e old set → AsTold model.seen old new (λ _ y. IsMediumOf e y set) → model.faults new ≡ model.faults old → KeepsSteady model e old new
  keeps_set set held medium steady = record {
    no_fault = steady;
    bytes = record {
      told = medium.told;
      related = λ x y was is. inr (set, told_holds (λ x. HoldsSet e x set) x was held, medium.related x y was is);
    };
  }

  pub medium_now : (set : List Ballot) → AsTold model.seen old new (λ _ y. IsMediumOf e y set) → IsSettled model.seen model.calls model.may_leave new → IsMediumNow model e set new
  medium_now set medium settled = record {
    settled = settled;
    medium = if_told (λ bytes. IsMediumOf e bytes set) (model.seen new)
        (λ y is.
        let x = told_back (model.seen old) (model.seen new) y medium.told is in
        medium.related x.0 y x.1 is);
  }

  -- why it gave no store
  pub refuses_recovery : {T : Type 0} (result : Result T RecoverFault) (index : ℕ) (fault : RecoverFault) → result ≡ Err fault
      → ((disk : D) (bytes : List ℕ) → model.seen disk ≡ Some bytes → leaves_now model.calls model.may_leave disk bytes) → is_some (model.seen new) ≡ is_some (model.seen old)
      → IsUnchangedAt fault (model.seen old) (model.seen new) → HoldsThroughout model e old new → CountsFaultIf (IsErrOf result DiskFault) (model.faults old) (model.faults new)
      → RefusesRecovery model e index old new (recovery_fault_at index fault)
  refuses_recovery result index NoStore is law told same throughout count = keeps (count.steady (λ failed. cc)) same
  refuses_recovery result index (OtherElection header) is law told same throughout count = keeps (count.steady (λ failed. cc)) same
  refuses_recovery result index (Damaged cell) is law told same throughout count = keeps (count.steady (λ failed. cc)) same
  refuses_recovery result index DiskFault is law told same throughout count = (refl, record { rose = count.rose is; bytes = fails law told throughout })
  refuses_recovery result index Memory is law told same throughout count = keeps (count.steady (λ failed. cc)) same

  -- it keeps what it held
  pub recovered_keeps : (set : List Ballot) → is_some (model.seen new) ≡ is_some (model.seen old) → IsRecoveredAs model e old new set → KeepsSteady model e old new
  recovered_keeps set told one = record {
    no_fault = one.no_fault;
    bytes = record {
      told = told;
      related = λ x y was is. inr (set, told_holds (λ x. HoldsSet e x set) x was one.held, told_holds (λ y. IsMediumOf e y set) y is one.medium.medium);
    };
  }

-- ---- one of several media

-- why it gave no store, as why several gave none
pub refuses_recoveries : {D : Type 0} (model : DiskModel D) (e : Election) (first now : List D) (place : ℕ) (old new : D) (fault : PartFault) → slice_get first place ≡ Some old
    → place < length now → AllZip (KeepsSteady model e) first now → (KeepsSteady model e old new → AllZip (KeepsSteady model e) first (set now place new))
    → RefusesRecovery model e (place + 1) old new fault → RefusesRecoveries model e first (set now place new) fault
refuses_recoveries model e first now place old new (First why) there lt keeps next refused = absurd refused
refuses_recoveries model e first now place old new (Other i why) there lt keeps next refused = absurd refused
refuses_recoveries model e first now place old new (Misplaced i number) there lt keeps next refused = absurd refused
refuses_recoveries model e first now place old new (faults.DiskFault i) there lt keeps next refused =
    let is : suc place ≡ i = omega (arith, refused.0) in
    subst (λ i. RefusesRecoveries model e first (set now place new) (faults.DiskFault i)) is (
      record {
        old = old;
        there = there;
        new = new;
        there_now = stands_now now place new lt;
        fails = refused.1;
        others = λ i x y other at now_at. (zip_at (KeepsSteady model e) first now i x y keeps at (still_there now i place y new other now_at)).bytes;
      },
      λ i x y other at now_at. (zip_at (KeepsSteady model e) first now i x y keeps at (still_there now i place y new other now_at)).no_fault,
    )
refuses_recoveries model e first now place old new faults.Memory there lt keeps next refused = next refused

-- what was recovered of them, with one more
pub recovered_more : {D : Type 0} (model : DiskModel D) (e : Election) (first now : List D) (i : ℕ) (x y : D) (sets : List (List Ballot)) (next : List Ballot) → slice_get first i ≡ Some x
    → i < length now → AreRecoveredAs model e (take i first) (take i now) sets → IsRecoveredAs model e x y next
    → AreRecoveredAs model e (take (i + 1) first) (take (i + 1) (set now i y)) (sets ++ next ∷ [])
recovered_more model e first now i x y sets next there lt are one = record {
  each = zip_more (HoldsIfTold model e) first sets i x next there are.each one.held;
  media = subst (λ zs. AllZip (λ set disk. IsMediumNow model e set disk) (sets ++ next ∷ []) zs) (sym (taken_next now i y lt))
      (zip_push (λ set disk. IsMediumNow model e set disk) sets (take i now) next y are.media one.medium);
  none_rose = zip_taken (λ old new. model.faults new ≡ model.faults old) first now i x y there lt are.none_rose one.no_fault;
}

-- ---- before the first call

pub kept_still : {D : Type 0} (model : DiskModel D) (e : Election) (disk : D) → KeepsSteady model e disk disk
kept_still model e disk = keeps model e disk disk refl refl

pub recovers_still : {D : Type 0} (model : DiskModel D) (e : Election) (disk : D) → Recovers model e disk disk
recovers_still model e disk = record {
  told = refl;
  later = omega arith;
  throughout = λ bytes sees. started model.calls model.may_leave disk (λ image. leaves_now model.calls model.may_leave disk image ⊎ HoldsSetOf e bytes image) (λ image left. inl left);
  once_synced = λ bytes sees. inl refl;
}
