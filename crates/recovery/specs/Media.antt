-- Several media, one after another. `before` and `after` are a disk before and after a call; `more` and `now` are the
-- disks of several media before and after calls on them.
use Rattle.std.specs.Prelude.{◌≡◌, ℕ, ◌+◌, List, drop, take, Some, IfSome, slice_get}
use Rattle.std.specs.List.{AllZip}
use Rattle.recovery.specs.Faults.{medium_fault}
use Rattle.recovery.specs.Refused.{IsRefusedMedium}
use Rattle.recovery.specs.declared.fault.MediumWhy.{MediumWhy}
use Rattle.store_spec.specs.Ballot.{Ballot}
use Rattle.store_spec.specs.Disk.{DiskModel}
use Rattle.store_spec.specs.Election.{Election}
use Rattle.store_spec.specs.Medium.{HoldsSet}

-- ---- one medium

-- the disk holds this set, where it tells its bytes
abbrev pub HoldsIfTold : {D : Type 0} → DiskModel D → Election → D → List Ballot → Type 0
HoldsIfTold model e disk set = IfSome (model.seen disk) (λ bytes. HoldsSet e bytes set)

-- the medium was read, and is refused for this reason
abbrev pub IsRefusedFor : {D : Type 0} → DiskModel D → Election → MediumWhy → D → D → Type 0
IsRefusedFor model e why before after =
    IfSome (model.seen before) (λ bytes. IsRefusedMedium e bytes (medium_fault why)) × (model.faults after ≡ model.faults before)

-- ---- all of them

-- each disk holds its set
abbrev pub EachHolds : {D : Type 0} → DiskModel D → Election → List D → List (List Ballot) → Type 0
EachHolds model e disks sets = AllZip (HoldsIfTold model e) disks sets

-- no count of faults rose
abbrev pub NoneRose : {D : Type 0} → DiskModel D → List D → List D → Type 0
NoneRose model before after = AllZip (λ old new. model.faults new ≡ model.faults old) before after

-- The first of them, counted from 0, at which a run of calls on them stops: those before it hold sets, and nothing is
-- asked of those after it.
pub record StopsAt {D : Type 0} (model : DiskModel D) (e : Election) (Stops : ℕ → D → D → Type 0) (more now : List D) : Type 0 where
  pub place : ℕ
  pub sets : List (List Ballot)
  pub earlier : EachHolds model e (take place more) sets
  pub none_rose : NoneRose model (take place more) (take place now)
  pub later : drop (place + 1) now ≡ drop (place + 1) more
  pub old : D
  pub there : slice_get more place ≡ Some old
  pub new : D
  pub there_now : slice_get now place ≡ Some new
  pub refused : Stops place old new
