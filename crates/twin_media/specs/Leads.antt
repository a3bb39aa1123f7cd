-- What calls on a disk over two disks lead to, for whoever gets the two disks back.
use Rattle.std.specs.Prelude.{◌≡◌, ◌↔◌, ◌⊎◌, ℕ, ◌+◌, ◌<◌, ◌≤◌, List, Some, None, is_some, IsSome}
use Rattle.store_spec.specs.Fault.{last_count, Rose}
use Rattle.store_spec.specs.Disk.{DiskModel, after_calls}
use Rattle.twin_media.specs.State.{TwinState}

-- One of the two disks by itself: its counts did not fall, no moment up to the first state changed, and it tells its
-- bytes as before.
pub record SideLeads {D : Type 0} (disk : DiskModel D) (leads_to : D → D → Type 0) (old new : D) : Type 0 where
  pub leads : leads_to old new
  pub later : disk.calls old ≤ disk.calls new
  pub past : disk.calls new < last_count → (m : ℕ) → m ≤ after_calls (disk.calls old) → (c : List ℕ) → disk.may_leave new m c ↔ disk.may_leave old m c
  pub faults : disk.faults old ≤ disk.faults new
  pub told : is_some (disk.seen new) ≡ is_some (disk.seen old)

-- one of the two disks counts as the one that failed: it counted a fault, or its count of calls is at its end
abbrev pub IsBlamed : {D : Type 0} → DiskModel D → D → D → Type 0
IsBlamed disk old new = Rose (disk.faults old) (disk.faults new) ⊎ (last_count ≤ disk.calls new + 2)

-- From one state to a later one: each disk by itself, and which of them failed. A disk failed since where the twin
-- counted a fault; the other one's count of faults is as before. After a call that failed both disks stay as they are.
pub record TwinLeads {A B : Type 0} (one : DiskModel A) (one_leads : A → A → Type 0) (two : DiskModel B) (two_leads : B → B → Type 0) (old new : TwinState A B) : Type 0 where
  pub same_first : new.first_name ≡ old.first_name
  pub same_second : new.second_name ≡ old.second_name
  pub first_begun : new.first_begun ≡ old.first_begun
  pub second_begun : new.second_begun ≡ old.second_begun
  pub first : SideLeads one one_leads old.first new.first
  pub second : SideLeads two two_leads old.second new.second
  pub stays : IsSome old.failed → (new.first ≡ old.first) × (new.second ≡ old.second) × (new.failed ≡ old.failed)
  pub later : old.faults ≤ new.faults
  pub no_fault : new.failed ≡ None → new.faults ≡ old.faults
  pub none_failed : new.faults ≡ old.faults → new.failed ≡ old.failed
  pub steady : new.failed ≡ None → (one.faults new.first ≡ one.faults old.first) × (two.faults new.second ≡ two.faults old.second)
  pub passed : old.passed ≤ new.passed
  pub counts : old.passed + 1 < last_count → new.passed + 1 < last_count
  pub first_failed : old.failed ≡ None → new.failed ≡ Some 0 → IsBlamed one old.first new.first
  pub second_failed : old.failed ≡ None → new.failed ≡ Some 1 → IsBlamed two old.second new.second
  pub first_alone : old.failed ≡ None → new.failed ≡ Some 0 → two.faults new.second ≡ two.faults old.second
  pub second_alone : old.failed ≡ None → new.failed ≡ Some 1 → one.faults new.first ≡ one.faults old.first

-- The same where the last call failed, and none before it: the twin counted that one alone beyond those that passed.
abbrev pub TwinFails : {A B : Type 0} → TwinState A B → TwinState A B → Type 0
TwinFails old new = old.failed ≡ None → new.calls ≤ new.passed + 1
