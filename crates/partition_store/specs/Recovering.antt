-- The recovery of the media of parts, one after another, once all were looked at.
use Rattle.std.specs.Prelude.{◌≡◌, ℕ, suc, List}
use Rattle.std.specs.List.{AllZip}
use Rattle.any_store.specs.Checkpointed.{IsMediumNow}
use Rattle.partition_store.specs.Opening.{FailsAt, FailsMedium, KeepsMedium, LeavesOf, NoOtherPartRose, NoOtherRose}
use Rattle.partition_store.specs.declared.fault.PartFault.{PartFault}
use Rattle.partition_store.specs.declared.fault.PartFault.TheVariants.{DiskFault, Memory}
use Rattle.recovery.specs.Media.{EachHolds, HoldsIfTold, NoneRose}
use Rattle.store_spec.specs.Ballot.{Ballot}
use Rattle.store_spec.specs.Disk.{DiskModel}
use Rattle.store_spec.specs.Election.{Election}

-- the disk held this set, and is the medium of it
pub record IsRecoveredAs {D : Type 0} (model : DiskModel D) (e : Election) (old new : D) (set : List Ballot) : Type 0 where
  pub held : HoldsIfTold model e old set
  pub medium : IsMediumNow model e set new
  pub no_fault : model.faults new ≡ model.faults old

-- no call on it failed, and it keeps what it held
pub record KeepsSteady {D : Type 0} (model : DiskModel D) (e : Election) (old new : D) : Type 0 where
  pub no_fault : model.faults new ≡ model.faults old
  pub bytes : KeepsMedium model e old new

-- why the recovery of a part gave no store
abbrev pub RefusesRecovery : {D : Type 0} → DiskModel D → Election → ℕ → D → D → PartFault → Type 0
RefusesRecovery model e index old new (DiskFault i) = (i ≡ index) × FailsMedium model e old new
RefusesRecovery model e index old new Memory = KeepsSteady model e old new
RefusesRecovery model e index old new fault = ⊥

-- why that of further ones gave none
abbrev pub RefusesRecoveries : {D : Type 0} → DiskModel D → Election → List D → List D → PartFault → Type 0
RefusesRecoveries model e more now (DiskFault (suc place)) = FailsAt model e place more now × NoOtherRose model place more now
RefusesRecoveries model e more now Memory = AllZip (KeepsSteady model e) more now
RefusesRecoveries model e more now fault = ⊥

-- the sets that they held, of which they are the media
pub record AreRecoveredAs {D : Type 0} (model : DiskModel D) (e : Election) (more now : List D) (sets : List (List Ballot)) : Type 0 where
  pub each : EachHolds model e more sets
  pub media : AllZip (λ set disk. IsMediumNow model e set disk) sets now
  pub none_rose : NoneRose model more now

-- why those of all parts gave none
abbrev pub RefusesAll : {A B : Type 0} → DiskModel A → DiskModel B → Election → A → A → List B → List B → PartFault → Type 0
RefusesAll first further e one after more now (DiskFault index) =
    LeavesOf first further e one after more now (DiskFault index) × NoOtherPartRose first further one after more now index
RefusesAll first further e one after more now Memory = KeepsSteady first e one after × AllZip (KeepsSteady further e) more now
RefusesAll first further e one after more now fault = ⊥
