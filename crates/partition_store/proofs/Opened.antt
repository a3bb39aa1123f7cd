-- All media are looked at, and then recovered.
use Rattle.std.proofs.Common.{◌≡◌, ◌⊎◌, ◌≤◌, ℕ, zero, suc, List, ◌∷◌, take, ⊎_elim, Option, Some, Result, Ok, Err, inl, inr, refl, sym, ap, subst, ◌∙◌, arith}
use Rattle.store_spec.proofs.Common.{AllZip, Ballot, DiskModel, Election, HoldsSet, IsErrAnd, OnOk, Rose, leaves_now}
use Rattle.std.specs.Option.{IfSome, is_some}
use Rattle.body_store.specs.Contents.{Contents}
use Rattle.crash_disk.proofs.Moments.{joined, weaker}
use Rattle.outside_io.specs.Told.{IfTold}
use Rattle.partition_store.specs.Opening.{AllHoldOwn, FailsAt, FailsMedium, HoldsThroughout, IsAgainst, IsKeptMedium, IsOpened, KeepsMedium, LeavesOf, LooksThenRecovers, NoneWritten, Recovers, WritesBehindLooks}
use Rattle.partition_store.specs.Parted.{IsParted, Parted}
use Rattle.partition_store.specs.PartedKept.{election_of, sets_of}
use Rattle.partition_store.specs.Recovering.{AreRecoveredAs, IsRecoveredAs, KeepsSteady, RefusesAll, RefusesRecoveries, RefusesRecovery}
use Rattle.partition_store.specs.declared.fault.PartFault.{PartFault}
use Rattle.partition_store.specs.declared.fault.PartFault.TheVariants.{First, Other, Misplaced, DiskFault, Memory}
use Rattle.partition_store.proofs.SideBySide.{zip_at, zip_both, zip_from, zip_joined, zip_to, zip_weaker}
use Rattle.recovery.proofs.OneByOne.{zip_same, zip_take}
use Rattle.partition_store.proofs.Recoveries.{kept_still, recovers_still}
use Rattle.recovery.specs.Media.{HoldsIfTold, NoneRose}
use Rattle.recovery.specs.ReadsOnly.{WritesNothing}
use Rattle.recovery.specs.Refused.{HoldsSetOf}

-- ---- the recoveries of all

module _ {A B : Type 0} (first : DiskModel A) (further : DiskModel B) (e : Election) (one after : A) (more : List B) where
  still : AllZip (KeepsSteady further e) more more
  still = zip_same (KeepsSteady further e) (kept_still further e) more

  bytes_of : (now : List B) → AllZip (KeepsSteady further e) more now → AllZip (KeepsMedium further e) more now
  bytes_of now keeps = zip_weaker (KeepsSteady further e) (KeepsMedium further e) (λ x y kept. kept.bytes) more now keeps

  pub refuses_first : (fault : PartFault) → RefusesRecovery first e 0 one after fault → RefusesAll first further e one after more more fault
  refuses_first (First why) refused = absurd refused
  refuses_first (Other i why) refused = absurd refused
  refuses_first (Misplaced i number) refused = absurd refused
  refuses_first (DiskFault i) refused = subst (λ i. RefusesAll first further e one after more more (DiskFault i)) (sym refused.0)
      ((refused.1, bytes_of more still), zip_same (λ old new. further.faults new ≡ further.faults old) (λ disk. refl) more)
  refuses_first Memory refused = (refused, still)

  pub no_room : KeepsSteady first e one after → RefusesAll first further e one after more more Memory
  no_room kept = (kept, still)

  pub refuses_rest : (now : List B) (fault : PartFault) → KeepsSteady first e one after → RefusesRecoveries further e more now fault → RefusesAll first further e one after more now fault
  refuses_rest now (First why) kept refused = absurd refused
  refuses_rest now (Other i why) kept refused = absurd refused
  refuses_rest now (Misplaced i number) kept refused = absurd refused
  refuses_rest now (DiskFault zero) kept refused = absurd refused
  refuses_rest now (DiskFault (suc place)) kept refused = ((kept.bytes, refused.0), (kept.no_fault, refused.1))
  refuses_rest now Memory kept refused = (kept, refused)

  pub opened : (now : List B) (stores : List Contents) (set : List Ballot) (sets : List (List Ballot)) (bits : ℕ) (result : Parted) → IsParted result
      → result ≡ record { election = election_of stores; bits = bits; sets = sets_of stores } → election_of stores ≡ e → sets_of stores ≡ set ∷ sets
      → IsRecoveredAs first e one after set → AreRecoveredAs further e more now sets → IsOpened first further e one after more now result
  opened now stores set sets bits result parted is own are recovered rest = record {
    parted = parted;
    election = ap (λ (p : Parted). p.election) is ∙ own;
    set = set;
    sets = sets;
    are = ap (λ (p : Parted). p.sets) is ∙ are;
    all = record { held = recovered.held; each = rest.each; no_fault = recovered.no_fault; none_rose = rest.none_rose };
    medium = recovered.medium;
    media = rest.media;
  }

-- ---- one disk

-- however its looks and its recovery end
pub record Runs {D : Type 0} (model : DiskModel D) (e : Election) (old new : D) : Type 0 where
  pub told : is_some (model.seen new) ≡ is_some (model.seen old)
  pub later : model.calls old ≤ model.calls new
  pub throughout : HoldsThroughout model e old new

module _ {D : Type 0} (model : DiskModel D) (e : Election) where
  abbrev Looks : D → D → Type 0
  Looks old new = WritesNothing model.seen model.calls model.may_leave old new

  abbrev IsSpared : List ℕ → D → List ℕ → Type 0
  IsSpared bytes old image = leaves_now model.calls model.may_leave old image ⊎ HoldsSetOf e bytes image

  -- it was looked at
  pub looked : (old new : D) → Looks old new → Runs model e old new
  looked old new reads = record {
    told = ap is_some reads.same_bytes;
    later = reads.any_moment.later;
    throughout = λ bytes sees. weaker model.calls model.may_leave old new (leaves_now model.calls model.may_leave old) (IsSpared bytes old) (λ image left. inl left) reads.any_moment;
  }

  -- and then recovered
  pub runs_behind : (old mid new : D) → Looks old mid → Recovers model e mid new → Runs model e old new
  runs_behind old mid new reads run = record {
    told = run.told ∙ ap is_some reads.same_bytes;
    later = omega (arith, reads.any_moment.later, run.later);
    throughout = λ bytes sees. joined model.calls model.may_leave old mid new (IsSpared bytes old)
        ((looked old mid reads).throughout bytes sees)
        (weaker model.calls model.may_leave mid new (IsSpared bytes mid) (IsSpared bytes old)
        (λ image. ⊎_elim (λ left. inl (reads.any_moment.now image left)) (λ holds. inr holds))
        (run.throughout bytes (reads.same_bytes ∙ sees)));
  }

  pub kept_looked : (old new : D) → Looks old new → KeepsMedium model e old new
  kept_looked old new reads = record {
    told = ap is_some reads.same_bytes;
    related = λ x y was is. inl (let both : Some y ≡ Some x = sym is ∙ reads.same_bytes ∙ was in cc);
  }

  pub kept_behind : (old mid new : D) → Looks old mid → KeepsMedium model e mid new → KeepsMedium model e old new
  kept_behind old mid new reads kept = subst (λ (o : Option (List ℕ)). IfTold o (model.seen new) (IsKeptMedium e)) reads.same_bytes kept

  pub held_behind : (old mid : D) (set : List Ballot) → Looks old mid → HoldsIfTold model e mid set → HoldsIfTold model e old set
  held_behind old mid set reads held = subst (λ (o : Option (List ℕ)). IfSome o (λ bytes. HoldsSet e bytes set)) reads.same_bytes held

  pub fails_behind : (old mid new : D) → Looks old mid → model.faults mid ≡ model.faults old → FailsMedium model e mid new → FailsMedium model e old new
  fails_behind old mid new reads steady failed = record {
    rose = subst (λ n. Rose n (model.faults new)) steady failed.rose;
    bytes = record {
      told = failed.bytes.told ∙ ap is_some reads.same_bytes;
      related = λ x y was is. ⊎_elim (λ left. inl (reads.any_moment.now y left)) (λ holds. inr holds) (failed.bytes.related x y (reads.same_bytes ∙ was) is);
    };
  }

  -- a look at it failed
  pub fails_looked : (old new : D) → ((disk : D) (bytes : List ℕ) → model.seen disk ≡ Some bytes → leaves_now model.calls model.may_leave disk bytes) → Looks old new
      → Rose (model.faults old) (model.faults new) → FailsMedium model e old new
  fails_looked old new law reads rose = record {
    rose = rose;
    bytes = record {
      told = ap is_some reads.same_bytes;
      related = λ x y was is. inl (law old y (sym reads.same_bytes ∙ is));
    };
  }

  -- ---- several disks

  pub fails_at_behind : (more mid now : List D) (place : ℕ) → AllZip Looks more mid → NoneRose model more mid → FailsAt model e place mid now → FailsAt model e place more now
  fails_at_behind more mid now place reads steady failed =
      let both = zip_both Looks (λ old new. model.faults new ≡ model.faults old) more mid reads steady in
      let from = zip_from (λ x y. Looks x y × (model.faults y ≡ model.faults x)) more mid place failed.old both failed.there in
      record {
        old = from.0;
        there = from.1;
        new = failed.new;
        there_now = failed.there_now;
        fails = fails_behind from.0 failed.old failed.new from.2.0 from.2.1 failed.fails;
        others = λ i x y other at now_at.
            let between = zip_to Looks more mid i x reads at in
            kept_behind x between.0 y between.2 (failed.others i between.0 y other between.1 now_at);
      }

-- ---- all of it

module _ {A B : Type 0} (first : DiskModel A) (further : DiskModel B) (e : Election) where
  -- why the looks gave no stores, and what they leave
  pub left_looked : (one after : A) (more now : List B) (fault : PartFault)
      → ((disk : A) (bytes : List ℕ) → first.seen disk ≡ Some bytes → leaves_now first.calls first.may_leave disk bytes)
      → ((disk : B) (bytes : List ℕ) → further.seen disk ≡ Some bytes → leaves_now further.calls further.may_leave disk bytes)
      → WritesNothing first.seen first.calls first.may_leave one after → AllZip (WritesNothing further.seen further.calls further.may_leave) more now
      → IsAgainst first further e one after more now fault → LeavesOf first further e one after more now fault
  left_looked one after more now fault law further_law reads others = from fault
    where
      kept : KeepsMedium first e one after
      kept = kept_looked first e one after reads

      rest : AllZip (KeepsMedium further e) more now
      rest = zip_weaker (WritesNothing further.seen further.calls further.may_leave) (KeepsMedium further e) (kept_looked further e) more now others

      from : (fault : PartFault) → IsAgainst first further e one after more now fault → LeavesOf first further e one after more now fault
      from (First why) against = (kept, rest)
      from (Other i why) against = (kept, rest)
      from (Misplaced i number) against = (kept, rest)
      from (DiskFault zero) against = (fails_looked first e one after law reads against.0, rest)
      from (DiskFault (suc place)) against =
          let rose = against.0 in
          let old = rose.0 in
          let new = rose.1 in (
            kept,
            record {
              old = old;
              there = rose.2;
              new = new;
              there_now = rose.3;
              fails = fails_looked further e old new further_law (zip_at (WritesNothing further.seen further.calls further.may_leave) more now place old new others rose.2 rose.3) rose.4;
              others = λ i x y other at now_at. zip_at (KeepsMedium further e) more now i x y rest at now_at;
            },
          )
      from Memory against = (kept, rest)

  module _ (one mid after : A) (more between now : List B) (reads : WritesNothing first.seen first.calls first.may_leave one mid) (steady : first.faults mid ≡ first.faults one)
      (others : AllZip (WritesNothing further.seen further.calls further.may_leave) more between) (none : NoneRose further more between) where
    pub against_behind : AllHoldOwn first further e one more → (fault : PartFault) → RefusesAll first further e mid after between now fault → IsAgainst first further e one after more now fault
    against_behind own (First why) refused = absurd refused
    against_behind own (Other i why) refused = absurd refused
    against_behind own (Misplaced i number) refused = absurd refused
    against_behind own (DiskFault zero) refused = (
      (fails_behind first e one mid after reads steady refused.0.0).rose,
      zip_joined (λ x y. further.faults y ≡ further.faults x) (λ x y. further.faults y ≡ further.faults x) (λ x y. further.faults y ≡ further.faults x) (λ x y z before then'. then' ∙ before) more between now none refused.1,
      tt,
    )
    against_behind own (DiskFault (suc place)) refused =
        let failed = fails_at_behind further e more between now place others none refused.0.1 in (
          (failed.old, failed.new, failed.there, failed.there_now, failed.fails.rose),
          (
            refused.1.0 ∙ steady,
            λ i x y other at now_at.
                let looked = zip_to (λ x y. further.faults y ≡ further.faults x) more between i x none at in
                refused.1.1 i looked.0 y other looked.1 now_at ∙ looked.2,
          ),
          ((own.set, own.held), (take place own.sets, zip_take (HoldsIfTold further e) more own.sets place own.each)),
        )
    against_behind own Memory refused = (
      refused.0.no_fault ∙ steady,
      zip_joined (λ x y. further.faults y ≡ further.faults x) (KeepsSteady further e) (λ x y. further.faults y ≡ further.faults x) (λ x y z before kept. kept.no_fault ∙ before) more between now none refused.1,
    )

    kept_all : AllZip (KeepsMedium further e) between now → AllZip (KeepsMedium further e) more now
    kept_all kept = zip_joined (WritesNothing further.seen further.calls further.may_leave) (KeepsMedium further e) (KeepsMedium further e) (kept_behind further e) more between now others kept

    pub left_behind : (fault : PartFault) → RefusesAll first further e mid after between now fault → LeavesOf first further e one after more now fault
    left_behind (First why) refused = absurd refused
    left_behind (Other i why) refused = absurd refused
    left_behind (Misplaced i number) refused = absurd refused
    left_behind (DiskFault zero) refused = (fails_behind first e one mid after reads steady refused.0.0, kept_all refused.0.1)
    left_behind (DiskFault (suc place)) refused = (kept_behind first e one mid after reads refused.0.0, fails_at_behind further e more between now place others none refused.0.1)
    left_behind Memory refused = (
      kept_behind first e one mid after reads refused.0.bytes,
      kept_all (zip_weaker (KeepsSteady further e) (KeepsMedium further e) (λ x y kept. kept.bytes) between now refused.1),
    )

    pub opened_behind : (store : Parted) → IsOpened first further e mid after between now store → IsOpened first further e one after more now store
    opened_behind store is = record {
      parted = is.parted;
      election = is.election;
      set = is.set;
      sets = is.sets;
      are = is.are;
      all = record {
        held = held_behind first e one mid is.set reads is.all.held;
        each = zip_joined (WritesNothing further.seen further.calls further.may_leave) (HoldsIfTold further e) (HoldsIfTold further e) (λ x y set looks held. held_behind further e x y set looks held) more between is.sets others is.all.each;
        no_fault = is.all.no_fault ∙ steady;
        none_rose = zip_joined (λ x y. further.faults y ≡ further.faults x) (λ x y. further.faults y ≡ further.faults x) (λ x y. further.faults y ≡ further.faults x) (λ x y z before then'. then' ∙ before) more between now none is.all.none_rose;
      };
      medium = is.medium;
      media = is.media;
    }

    -- all media held sets, which were being recovered
    pub written_behind : AllHoldOwn first further e one more → (fault : PartFault) → RefusesAll first further e mid after between now fault → WritesBehindLooks first further e one after more now fault
    written_behind own (First why) refused = absurd refused
    written_behind own (Other i why) refused = absurd refused
    written_behind own (Misplaced i number) refused = absurd refused
    written_behind own (DiskFault i) refused = inr own
    written_behind own Memory refused = inr own

  -- the looks wrote nothing
  pub written_looked : (one after : A) (more now : List B) → NoneWritten first further one after more now → (fault : PartFault) → WritesBehindLooks first further e one after more now fault
  written_looked one after more now none (First why) = none
  written_looked one after more now none (Other i why) = none
  written_looked one after more now none (Misplaced i number) = none
  written_looked one after more now none (DiskFault i) = inl none
  written_looked one after more now none Memory = inl none

-- all further disks
pub runs_looked : {D : Type 0} (model : DiskModel D) (e : Election) (more now : List D) → AllZip (WritesNothing model.seen model.calls model.may_leave) more now → AllZip (Runs model e) more now
runs_looked model e more now reads = zip_weaker (WritesNothing model.seen model.calls model.may_leave) (Runs model e) (looked model e) more now reads

pub all_run_behind : {D : Type 0} (model : DiskModel D) (e : Election) (more mid now : List D) → AllZip (WritesNothing model.seen model.calls model.may_leave) more mid
    → AllZip (Recovers model e) mid now → AllZip (Runs model e) more now
all_run_behind model e more mid now reads run =
    zip_joined (WritesNothing model.seen model.calls model.may_leave) (Recovers model e) (Runs model e) (runs_behind model e) more mid now reads run

refused_ok : {T E : Type 0} (answer : Result T E) (P : E → Type 0) (Q : Type 0) → IsErrAnd answer P → OnOk answer Q
refused_ok (Ok x) P Q refused = absurd refused
refused_ok (Err f) P Q refused = tt

-- nothing was recovered behind the looks
pub only_looked : {A B T E : Type 0} (first : DiskModel A) (further : DiskModel B) (e : Election) (answer : Result T E) (P : E → Type 0) (one after : A) (more now : List B) → IsErrAnd answer P
    → WritesNothing first.seen first.calls first.may_leave one after → AllZip (WritesNothing further.seen further.calls further.may_leave) more now → LooksThenRecovers first further e answer one after more now
only_looked first further e answer P one after more now refused reads others = record {
  looked = (after, now);
  reads = reads;
  others_read = others;
  steady = λ same. same;
  others_steady = λ same. same;
  recovers = recovers_still first e after;
  others_recover = zip_same (Recovers further e) (recovers_still further e) now;
  called = refused_ok answer P _ refused;
  others_called = refused_ok answer P _ refused;
}
