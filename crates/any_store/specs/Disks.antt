-- A store and its disks, as a session sees them.
use Rattle.std.specs.Prelude.{◌≡◌, ◌≤◌, ℕ, List, [], map}
use Rattle.store_spec.specs.Ballot.{Ballot}
use Rattle.store_spec.specs.Disk.{DiskModel}
use Rattle.store_spec.specs.Election.{Election}
use Rattle.store_spec.specs.Session.{Closes, Effect, of_one_store}

-- One disk, which holds all of a set; or one and so many further ones, from number 0 on, with what of a set each of them
-- holds. `D` is the state of all of them.
pub data StoreDisks (D : Type 0) : Type 1 where
  Alone : DiskModel D → StoreDisks D
  Parted : ℕ → (ℕ → DiskModel D) → (ℕ → List Ballot → List Ballot) → StoreDisks D

-- what of a set a disk holds: the whole, or a part
pub data Share : Type 0 where
  Whole : Share
  Part : (List Ballot → List Ballot) → Share

abbrev pub share_of : Share → List Ballot → List Ballot
share_of Whole set = set
share_of (Part part) set = part set

abbrev pub shares_of : Share → List (List Ballot) → List (List Ballot)
shares_of Whole sets = sets
shares_of (Part part) sets = map part sets

-- it is so of each of the disks, and its share
abbrev pub OnEach : {D : Type 0} → StoreDisks D → (DiskModel D → Share → Type 0) → Type 0
OnEach (Alone model) P = P model Whole
OnEach (Parted more models parts) P = (i : ℕ) → i ≤ more → P (models i) (Part (parts i))

-- the first one, whose calls are marked
abbrev pub first_of : {D : Type 0} → StoreDisks D → DiskModel D
first_of (Alone model) = model
first_of (Parted more models parts) = models 0

-- no call on any of them failed
abbrev pub AreSteady : {D : Type 0} → StoreDisks D → D → D → Type 0
AreSteady disks old new = OnEach disks (λ model _. model.faults new ≡ model.faults old)

-- a close is replied, and acknowledges nothing
pub record AcknowledgesNothing (closes : Closes) : Type 0 where
  pub casting : (set : List Ballot) (lists : List (List Ballot)) (effect : Effect) → closes.casting set lists effect
      → effect.acknowledged ≡ []
  pub withdrawing : (set : List Ballot) (lists : List (List ℕ)) (effect : Effect) → closes.withdrawing set lists effect
      → effect.acknowledged ≡ []

-- what the close of a phase asks of a store, and its disks
pub record StoreModel (D : Type 0) : Type 1 where
  pub closes : Election → Closes
  pub disks : StoreDisks D

abbrev pub store_model : {D : Type 0} → (Election → Closes) → StoreDisks D → StoreModel D
store_model closes disks = record { closes = closes; disks = disks }

-- one closed store, and its disk
abbrev pub one_store : {D : Type 0} → DiskModel D → StoreModel D
one_store model = store_model of_one_store (Alone model)
