-- A phase of each of several stores that was played to its close: the items of each list are shared out among the stores by
-- where they go, and the replies come in the order of the lists.
use Rattle.std.specs.Prelude.{◌≡◌, ℕ, All, List, [], length, map, zip, Some, slice_get}
use Rattle.body_store.specs.Contents.{Contents, IsStored}
use Rattle.phase_kind.specs.Phase.{OpenPhase}
use Rattle.phase_kind.specs.Team.{AreNamed, AreSharedOut, IsTeam, replies_to, those_of}
use Rattle.phase_kind.specs.AnsweredItem.{AnsweredItem}
use Rattle.phase_kind.specs.Worker.{WorkerView, worker_with}
use Rattle.store_spec.specs.Ballot.{Ballot}

-- The phase of one store is closed: its trays had these lists, and what its kind tells of a close is so.
pub record HasClosed {I R F : Type 0} (closes : Contents → List (List (AnsweredItem I R)) → List (List F) → List Ballot → Type 0) (old : Contents) (lists : List (List I)) (finals : List (List F)) (now : Contents) : Type 0 where
  pub trays : List (List (AnsweredItem I R))
  pub items : map (map (λ t. t.item)) trays ≡ lists
  pub election : now.election ≡ old.election
  pub stored : IsStored now
  pub told : closes old trays finals now.ballots

-- a close gives each item of each tray one final reply
abbrev pub AnswersEach : {I R F : Type 0} → (Contents → List (List (AnsweredItem I R)) → List (List F) → List Ballot → Type 0) → Type 0
AnswersEach {I} {R} {F} closes =
    (base : Contents) (trays : List (List (AnsweredItem I R))) (finals : List (List F)) (after : List Ballot)
    → closes base trays finals after → map length finals ≡ map length trays

-- the replies to lists at one place: to the items that go there
abbrev pub part_replies : {I F : Type 0} → (I → ℕ) → ℕ → List (List I) → List (List F) → List (List F)
part_replies goes_to place work replies = map (λ at. replies_to goes_to place at.0 at.1) (zip work replies)

-- The phases of all stores were played: there are as many stores as before and a reply to each item of each list, and at
-- each place the store's phase is closed over the items that go there.
pub record HasPlayed {I R F : Type 0} (closes : Contents → List (List (AnsweredItem I R)) → List (List F) → List Ballot → Type 0) (goes_to : I → ℕ) (before : List Contents) (work : List (List I)) (after : List Contents) (replies : List (List F)) : Type 0 where
  pub stores : length after ≡ length before
  pub answered : map length replies ≡ map length work
  pub each : (place : ℕ) (old now : Contents) → slice_get before place ≡ Some old → slice_get after place ≡ Some now
      → HasClosed closes old (map (those_of goes_to place) work) (part_replies goes_to place work replies) now

-- ---- its steps

-- All lists are shared out: to each as many lists as there are places, and an order, which names the place of each item.
pub record AreAllShared {I : Type 0} (goes_to : I → ℕ) (places : ℕ) (work : List (List I)) (rows : List (List (List I))) (orders : List (List ℕ)) : Type 0 where
  pub as_many : length rows ≡ length work
  pub each : All (λ at. AreSharedOut goes_to places at.0 at.1) (zip work rows)
  pub orders_are : orders ≡ map (map goes_to) work

-- phases of these stores that have begun, each with a new worker for each of its lists
pub record HaveBegun {V I R : Type 0} (fresh : V) (stores : List Contents) (lists : List (List (List I))) (phases : List OpenPhase) (rows : List (List (WorkerView V I R))) : Type 0 where
  pub bases : map (λ phase. phase.base) phases ≡ stores
  pub seats : map (λ phase. phase.words.seats) phases ≡ map length lists
  pub rows_are : rows ≡ map (λ at. map (worker_with fresh at.0) at.1) (zip phases lists)

-- phases of these stores, and a team for each order: new workers, with whom an item waits for each entry that names them
pub record AreReady {V I R : Type 0} (stores : List Contents) (phases : List OpenPhase) (teams : List (List (WorkerView V I R))) (orders : List (List ℕ)) : Type 0 where
  pub bases : map (λ phase. phase.base) phases ≡ stores
  pub seats : All (λ phase. phase.words.seats ≡ length orders) phases
  pub as_many : length teams ≡ length orders
  pub belong : All (IsTeam phases) teams
  pub named : All (λ at. AreNamed at.1 at.0) (zip teams orders)
  pub empty : All (All (λ worker. worker.tray ≡ [])) teams

-- with each worker of each team those items of its list wait that go to its place
pub record HaveWork {V I R : Type 0} (goes_to : I → ℕ) (work : List (List I)) (teams : List (List (WorkerView V I R))) : Type 0 where
  pub as_many : length teams ≡ length work
  pub waits : All (λ at. (place : ℕ) (worker : WorkerView V I R) → slice_get at.0 place ≡ Some worker → worker.waiting ≡ those_of goes_to place at.1) (zip teams work)

-- The phase with these workers is closed: the store after it, and the final replies to its trays.
pub record IsClosedWith {V I R F : Type 0} (closes : Contents → List (List (AnsweredItem I R)) → List (List F) → List Ballot → Type 0) (phase : OpenPhase) (workers : List (WorkerView V I R)) (now : Contents) (finals : List (List F)) : Type 0 where
  pub election : now.election ≡ phase.base.election
  pub stored : IsStored now
  pub told : closes phase.base (map (λ worker. worker.tray) workers) finals now.ballots

-- the same of several phases
pub record HaveEnded {V I R F : Type 0} (closes : Contents → List (List (AnsweredItem I R)) → List (List F) → List Ballot → Type 0) (phases : List OpenPhase) (columns : List (List (WorkerView V I R))) (after : List Contents) (told : List (List (List F))) : Type 0 where
  pub stores : length after ≡ length phases
  pub as_many : length told ≡ length phases
  pub each : All (λ at. IsClosedWith closes at.0.0 at.0.1 at.1.0 at.1.1) (zip (zip phases columns) (zip after told))

-- All phases are closed, and the final replies are kept by place and by list.
pub record HaveClosed {I R F : Type 0} (closes : Contents → List (List (AnsweredItem I R)) → List (List F) → List Ballot → Type 0) (goes_to : I → ℕ) (before : List Contents) (work : List (List I)) (after : List Contents) (told : List (List (List F))) : Type 0 where
  pub stores : length after ≡ length before
  pub as_many : length told ≡ length before
  pub each : (place : ℕ) (old now : Contents) (finals : List (List F)) → slice_get before place ≡ Some old → slice_get after place ≡ Some now → slice_get told place ≡ Some finals
      → HasClosed closes old (map (those_of goes_to place) work) finals now

-- Final replies that are kept by place and by list: to each list as many at each place as items of it go there.
abbrev pub AreByPlaces : {I F : Type 0} → (I → ℕ) → List (List I) → List (List (List F)) → Type 0
AreByPlaces {I} {F} goes_to work told =
    (place : ℕ) (finals : List (List F)) → slice_get told place ≡ Some finals
    → map length finals ≡ map length (map (those_of goes_to place) work)

-- the same replies in the order of each list
pub record AreAllTold {I F : Type 0} (goes_to : I → ℕ) (work : List (List I)) (told : List (List (List F))) (replies : List (List F)) : Type 0 where
  pub answered : map length replies ≡ map length work
  pub each : (place : ℕ) (finals : List (List F)) → slice_get told place ≡ Some finals → part_replies goes_to place work replies ≡ finals
