-- What the command `init` makes of a disk. `old` and `new` are the sink before and after, and `before` and `after` the
-- disk.
use Rattle.std.specs.Prelude.{◌≡◌, ◌⊎◌, ℕ, List, [], ◌∷◌, ◌++◌, codes, Some, IfSome, is_some, true, false}
use Rattle.run_outcome.specs.Row.{Content, EndsWell, Row, TakesNone}
use Rattle.run_outcome.specs.World.{Reported, World}
use Rattle.run_outcome.specs.declared.status.Status.{Status}
use Rattle.run_outcome.specs.declared.status.Status.TheVariants as status
use Rattle.checkpoint.specs.Unused.{IsInitRefused, IsUntouchedOrNew}
use Rattle.checkpoint.specs.declared.fresh.InitFault.{InitFault}
use Rattle.checkpoint.specs.declared.fresh.InitFault.TheVariants as faults
use Rattle.outside_io.specs.Outside.{Output}
use Rattle.outside_io.specs.Stream.{TakesAll, TakesSome}
use Rattle.outside_io.specs.Told.{AsTold}
use Rattle.store_spec.specs.Disk.{DiskModel, IsSettled, LeavesOnly, SyncsFirst, leaves_now}
use Rattle.store_spec.specs.Election.{Election}
use Rattle.store_spec.specs.Fault.{Rose}
use Rattle.store_spec.specs.Input.{line_end}
use Rattle.store_spec.specs.Medium.{IsMediumOf, IsUnused}

-- what the sink gets
abbrev pub ready_text : List ℕ
ready_text = codes "ready" ++ line_end ∷ []

-- Until the first sync has returned a crash leaves what it might have left before. From then on, where that sync
-- succeeded, it leaves what stood there, or, only where the disk was unused, bytes that are unused still or hold the empty set.
-- Or no call was made.
abbrev pub HoldsNoOther : {D : Type 0} → DiskModel D → Election → D → D → Type 0
HoldsNoOther model e before after =
    (after ≡ before)
    ⊎ ((bytes : List ℕ) → model.seen before ≡ Some bytes
    → SyncsFirst model.calls model.may_leave before after (IsUntouchedOrNew e bytes))

-- the disk was unused, and is now the medium of the empty set, settled
pub record MakesMedium {D : Type 0} (model : DiskModel D) (e : Election) (before after : D) : Type 0 where
  pub unused : IfSome (model.seen before) (IsUnused e)
  pub medium : AsTold model.seen before after (λ _ bytes. IsMediumOf e bytes [])
  pub settled : IsSettled model.seen model.calls model.may_leave after
  pub no_fault : model.faults after ≡ model.faults before

-- the disk held bytes for which this is so, and they stay
pub record LeavesBytes {D : Type 0} (model : DiskModel D) (before after : D) (Why : List ℕ → Type 0) : Type 0 where
  pub why : IfSome (model.seen before) Why
  pub same_bytes : model.seen after ≡ model.seen before
  pub no_fault : model.faults after ≡ model.faults before

-- a crash at each moment leaves what it might have left at the start
abbrev pub SparesDisk : {D : Type 0} → DiskModel D → D → D → Type 0
SparesDisk model before after = (bytes : List ℕ) → model.seen before ≡ Some bytes
    → LeavesOnly model.calls model.may_leave before after (leaves_now model.calls model.may_leave before)

-- What becomes of the disk and of the sink where a run of `init` ends so, and why it does.
abbrev pub InitLeaves : {K D : Type 0} → DiskModel D → Election → Status → Output K → Output K → D → D → Type 0
InitLeaves model e status.Ok old new before after =
    MakesMedium model e before after × TakesAll old.taken ready_text new.taken × (new.faults ≡ old.faults)
InitLeaves model e status.WriteFault old new before after =
    MakesMedium model e before after × TakesSome old.taken ready_text new.taken × Rose old.faults new.faults
InitLeaves model e status.Exists old new before after =
    LeavesBytes model before after (λ bytes. IsInitRefused e bytes faults.Exists)
    × SparesDisk model before after × (new ≡ old)
InitLeaves model e (status.WrongSize size) old new before after =
    LeavesBytes model before after (λ bytes. IsInitRefused e bytes (faults.WrongSize size))
    × SparesDisk model before after × (new ≡ old)
InitLeaves model e status.Memory old new before after =
    LeavesBytes model before after (λ bytes. IsInitRefused e bytes faults.Memory)
    × SparesDisk model before after × (new ≡ old)
InitLeaves model e status.DiskFault old new before after =
    Rose (model.faults before) (model.faults after) × (new ≡ old)
InitLeaves model e other old new before after = ⊥

-- All that a run of `init` promises under an election.
pub record InitEnds {K D : Type 0} (model : DiskModel D) (e : Election) (status : Status) (old new : Output K) (before after : D) : Type 0 where
  pub leaves : InitLeaves model e status old new before after
  pub crashes : HoldsNoOther model e before after
  pub told : is_some (model.seen after) ≡ is_some (model.seen before)

-- the status of a disk that is not taken
abbrev pub new_status : InitFault → Status
new_status (faults.WrongSize size) = status.WrongSize size
new_status faults.Exists = status.Exists
new_status faults.DiskFault = status.DiskFault
new_status faults.Memory = status.Memory

-- ---- the row

abbrev IsUnusedDisk : Election → Content → Type 0
IsUnusedDisk e content = IsUnused e content.disk

abbrev init_ends : {S K D : Type 0} → DiskModel D → Election → Status → Reported → World S K D → World S K D → Type 0
init_ends model e status report before after = InitEnds model e status before.streams.sink after.streams.sink before.disk after.disk

abbrev pub init_row : Row
init_row = record {
  word = codes "init";
  further = TakesNone;
  touches = record { script = false; disk = true; more = false; report = false };
  served = IsUnusedDisk;
  done = EndsWell;
  ends = init_ends;
}
