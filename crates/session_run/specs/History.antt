-- What a session has done so far.
use Rattle.std.specs.Prelude.{◌≡◌, ◌≢◌, ◌+◌, ◌<◌, ◌≤◌, ℕ, zero, suc, List, [], ◌∷◌, ◌++◌, All, flat_map, get_or, length, map, Some, is_some}
use Rattle.outside_io.specs.Stream.{TakesAll}
use Rattle.phase_gate.specs.Around.{Around}
use Rattle.any_store.specs.Checkpointed.{IsMediumNow}
use Rattle.any_store.specs.Disks.{AreSteady, Share, StoreDisks, StoreModel, first_of, share_of, shares_of}
use Rattle.any_store.specs.Disks.Share.{Part, Whole}
use Rattle.any_store.specs.Disks.StoreDisks.{Alone, Parted}
use Rattle.store_spec.specs.Ballot.{Ballot}
use Rattle.store_spec.specs.Disk.{DiskModel, EachCrashImage, after_calls, inside_next, leaves_now}
use Rattle.store_spec.specs.Election.{Election}
use Rattle.store_spec.specs.Fault.{Rose, last_count}
use Rattle.store_spec.specs.Medium.{HoldsSet}
use Rattle.store_spec.specs.Session.{Effect, acknowledged_in}
use Rattle.store_spec.specs.Stop.{HoldsAcknowledged}

-- the set that was acknowledged last, or the first one
abbrev pub latest : List Ballot → List (List Ballot) → List Ballot
latest set [] = set
latest set (next ∷ others) = latest next others

-- there is a mark for each acknowledged set, in order, from one count of calls to another
abbrev pub AreMarks : ℕ → List ℕ → List (List Ballot) → ℕ → Type 0
AreMarks from [] [] to = from ≤ to
AreMarks from (mark ∷ marks) (set ∷ acknowledged) to = (from ≤ mark) × AreMarks mark marks acknowledged to
AreMarks from marks acknowledged to = ⊥

-- the disk tells its bytes, which hold this set, and so does whatever a crash now may leave
pub record HoldsOne {D : Type 0} (model : DiskModel D) (e : Election) (set : List Ballot) (disk : D) : Type 0 where
  pub bytes : List ℕ
  pub seen : model.seen disk ≡ Some bytes
  pub held : HoldsSet e bytes set
  pub images : (image : List ℕ) → leaves_now model.calls model.may_leave disk image → HoldsSet e image set

-- What a crash may leave at each moment of a run, where the disk held one set at its start: up to each mark the set that
-- was acknowledged before it or the next one. `tried` is the set of a checkpoint that failed, if one did.
abbrev pub LosesNothing : {D : Type 0} → DiskModel D → Election → List Ballot → D → D → List ℕ → List (List Ballot)
    → List (List Ballot) → Type 0
LosesNothing model e set before after marks acknowledged tried =
    HoldsOne model e set before → model.calls after < last_count
    → HoldsAcknowledged e (model.may_leave after) (model.calls before) set marks acknowledged tried (model.calls after)

-- The first call is a sync that succeeds. Up to its return a crash leaves what it might have left before, and from then
-- on up to each mark the set that was acknowledged before it or the next one.
pub record HoldsOnceSynced {D : Type 0} (model : DiskModel D) (e : Election) (set : List Ballot) (before after : D)
    (marks : List ℕ) (acknowledged tried : List (List Ballot)) : Type 0 where
  pub early : EachCrashImage (model.may_leave after) (after_calls (model.calls before))
      (inside_next (model.calls before)) (leaves_now model.calls model.may_leave before)
  pub marked : AreMarks (model.calls before + 1) marks acknowledged (model.calls after)
  pub late : HoldsAcknowledged e (model.may_leave after) (model.calls before + 1) set marks acknowledged tried
      (model.calls after)

-- What a crash may leave at each moment of a run, where the bytes read at its start held one set, whatever a crash might
-- have left then.
abbrev pub LosesNothingOnceSynced : {D : Type 0} → DiskModel D → Election → List Ballot → D → D → List ℕ
    → List (List Ballot) → List (List Ballot) → Type 0
LosesNothingOnceSynced model e set before after marks acknowledged tried =
    (bytes : List ℕ) → model.seen before ≡ Some bytes → HoldsSet e bytes set → model.calls after < last_count
    → HoldsOnceSynced model e set before after marks acknowledged tried

-- From one state of a disk to another these sets were acknowledged, one after another, at these marks, and the last one
-- stands on the disk.
pub record Acknowledged {D : Type 0} (model : DiskModel D) (e : Election) (set : List Ballot)
    (acknowledged : List (List Ballot)) (before after : D) (marks : List ℕ) : Type 0 where
  pub told : is_some (model.seen after) ≡ is_some (model.seen before)
  pub medium : IsMediumNow model e (latest set acknowledged) after
  pub marked : AreMarks (model.calls before) marks acknowledged (model.calls after)
  pub crashes : LosesNothing model e set before after marks acknowledged []
  pub once_synced : LosesNothingOnceSynced model e set before after marks acknowledged []
  pub no_fault : model.faults after ≡ model.faults before

-- these sets were acknowledged at these marks, and one more was tried, in vain
pub record Tried {D : Type 0} (model : DiskModel D) (e : Election) (set : List Ballot) (before after : D)
    (marks : List ℕ) (acknowledged : List (List Ballot)) (tried : List Ballot) : Type 0 where
  pub told : is_some (model.seen after) ≡ is_some (model.seen before)
  pub marked : AreMarks (model.calls before) marks acknowledged (model.calls after)
  pub crashes : LosesNothing model e set before after marks acknowledged (tried ∷ [])
  pub once_synced : LosesNothingOnceSynced model e set before after marks acknowledged (tried ∷ [])

-- ---- the disks of a store

-- The marks of the first disk, and beside each of them a row of those of the further ones, are a table. Its column i
-- has the marks of disk i, counted from 0.
abbrev pub column : List ℕ → List (List ℕ) → ℕ → List ℕ
column marks others zero = marks
column marks others (suc i) = map (λ row. get_or row i 0) others

-- It is so of each of the disks, its share, and its own marks.
abbrev pub OnEachMarked : {D : Type 0} → StoreDisks D → List ℕ → List (List ℕ)
    → (DiskModel D → Share → List ℕ → Type 0) → Type 0
OnEachMarked (Alone model) marks others P = P model Whole marks
OnEachMarked (Parted more models parts) marks others P =
    All (λ row. length row ≡ more) others
    × ((i : ℕ) → i ≤ more → P (models i) (Part (parts i)) (column marks others i))

-- on each of them its shares of these sets were acknowledged
abbrev pub AreAcknowledged : {D : Type 0} → StoreDisks D → Election → List Ballot → List (List Ballot) → D → D → List ℕ
    → List (List ℕ) → Type 0
AreAcknowledged disks e set acknowledged before after marks others = OnEachMarked disks marks others
    (λ model share marks. Acknowledged model e (share_of share set) (shares_of share acknowledged) before after marks)

-- and one more was tried
abbrev pub AreTried : {D : Type 0} → StoreDisks D → Election → List Ballot → D → D → List ℕ → List (List ℕ)
    → List (List Ballot) → List Ballot → Type 0
AreTried disks e set before after marks others acknowledged tried = OnEachMarked disks marks others
    (λ model share marks. Tried model e (share_of share set) before after marks (shares_of share acknowledged)
    (share_of share tried))

-- Disk i of those from number 0 on failed, and no other did. Those before it are the media of their shares of the set
-- that was tried, and those behind it still of the last one that was acknowledged.
pub record FailedAlone {D : Type 0} (more : ℕ) (models : ℕ → DiskModel D) (parts : ℕ → List Ballot → List Ballot)
    (e : Election) (last tried : List Ballot) (before after : D) (i : ℕ) : Type 0 where
  pub within : i ≤ more
  pub rose : Rose ((models i).faults before) ((models i).faults after)
  pub steady : (j : ℕ) → j ≢ i → j ≤ more → (models j).faults after ≡ (models j).faults before
  pub done : (j : ℕ) → j < i → IsMediumNow (models j) e (parts j tried) after
  pub uncalled : (j : ℕ) → i < j → j ≤ more → IsMediumNow (models j) e (parts j last) after

-- one of the disks failed, where this set was tried after that one
abbrev pub FailsOnOne : {D : Type 0} → StoreDisks D → Election → List Ballot → List Ballot → D → D → Type 0
FailsOnOne (Alone model) e last tried before after = Rose (model.faults before) (model.faults after)
FailsOnOne (Parted more models parts) e last tried before after =
    (i : ℕ) × FailedAlone more models parts e last tried before after i

-- what is written for lines, where `write` says what is written of a reply
abbrev pub written_by : (List ℕ → List ℕ) → List Effect → List ℕ
written_by write effects = flat_map (λ effect. write effect.reply) effects

-- What is told of the replies to lines was written, and then this, and with what the lines acknowledged these sets were
-- acknowledged too.
pub record Wrote {K D : Type 0} (model : StoreModel D) (write : List ℕ → List ℕ) (e : Election) (set : List Ballot)
    (effects : List Effect) (rest : List ℕ) (more : List (List Ballot)) (before after : Around K D) : Type 0 where
  pub taken : TakesAll before.sink.taken (written_by write effects ++ rest) after.sink.taken
  pub acknowledged : AreAcknowledged model.disks e set (acknowledged_in effects ++ more) before.disk after.disk
      after.marks after.others

-- ---- marks and faults

-- no call failed, and all marks were made by now
pub record Stands {D : Type 0} (disks : StoreDisks D) (start now : D) (marks : List ℕ) : Type 0 where
  pub steady : AreSteady disks start now
  pub marked : All (λ mark. mark ≤ (first_of disks).calls now) marks

-- so it was at a moment from which calls led on, the last of which may have failed
pub record Stood {D : Type 0} (disks : StoreDisks D) (leads_to : D → D → Type 0) (start now : D) (marks : List ℕ)
    : Type 0 where
  pub mid : D
  pub before : leads_to start mid
  pub stands : Stands disks start mid marks
  pub after : leads_to mid now
