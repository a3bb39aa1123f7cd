-- A worker, as callers see it, how it is kept, and what workers have done once each has answered its list.
use Rattle.std.specs.Prelude.{◌≡◌, ◌+◌, ◌≤◌, ℕ, List, [], ◌++◌, length, map, All}
use Rattle.body_store.specs.Contents.{Contents}
use Rattle.phase_kind.specs.Phase.{OpenPhase}
use Rattle.phase_kind.specs.AnsweredItem.{AnsweredItem}
use Rattle.word_rule.specs.Places.{Place}

-- the phase to which it belongs, what its seat knows, how many more items its tray has room for, the tray, and the items
-- that wait behind those of the tray
pub record WorkerView (V I R : Type 0) : Type 0 where
  pub phase : OpenPhase
  pub seat : V
  pub room : ℕ
  pub tray : List (AnsweredItem I R)
  pub waiting : List I

abbrev pub new_worker : {V I R : Type 0} → V → OpenPhase → ℕ → WorkerView V I R
new_worker fresh phase room = record { phase = phase; seat = fresh; room = room; tray = []; waiting = [] }

-- a new worker with a list, all of which waits
abbrev pub worker_with : {V I R : Type 0} → V → OpenPhase → List I → WorkerView V I R
worker_with fresh phase list = record { phase = phase; seat = fresh; room = 0; tray = []; waiting = list }

-- the seat of a worker
abbrev pub seat_of : {V I R : Type 0} → WorkerView V I R → Place V
seat_of worker = record { words = worker.phase.words; view = worker.seat }

-- all workers of a phase, of which none has an item that waits
pub record AreAll {V I R : Type 0} (phase : OpenPhase) (workers : List (WorkerView V I R)) : Type 0 where
  pub all : length workers ≡ phase.words.seats
  pub belong : All (λ worker. worker.phase ≡ phase) workers
  pub idle : All (λ worker. worker.waiting ≡ []) workers

-- The seats and trays that are left of all workers of a phase. Each tray tells of its seat.
pub record AreLeft {V I R : Type 0} (tells : OpenPhase → V → List (AnsweredItem I R) → Type 0) (phase : OpenPhase) (seats : List (Place V)) (trays : List (List (AnsweredItem I R))) : Type 0 where
  pub workers : List (WorkerView V I R)
  pub all : AreAll phase workers
  pub seats_are : seats ≡ map seat_of workers
  pub trays_are : trays ≡ map (λ worker. worker.tray) workers
  pub told : All (λ worker. tells worker.phase worker.seat worker.tray) workers

-- What is left of workers: a seat and a tray of each. Each tray is of the worker's store, paired, and tells of its seat.
pub record AreSeatsAndTrays {V I R S T : Type 0} (standing : S → Place V) (told : T → List (AnsweredItem I R)) (is_of : Contents → T → Type 0) (is_paired : T → Type 0) (tells : OpenPhase → V → List (AnsweredItem I R) → Type 0)
    (workers : List (WorkerView V I R)) (seats : List S) (trays : List T) : Type 0 where
  pub seats_are : map standing seats ≡ map seat_of workers
  pub trays_are : map told trays ≡ map (λ worker. worker.tray) workers
  pub of_base : (phase : OpenPhase) → All (λ worker. worker.phase ≡ phase) workers → All (is_of phase.base) trays
  pub paired : All is_paired trays
  pub all_told : All (λ worker. tells worker.phase worker.seat worker.tray) workers

-- the items of a list have joined those that wait for a worker
pub record HasQueued {V I R : Type 0} (before : WorkerView V I R) (list : List I) (after : WorkerView V I R) : Type 0 where
  pub phase : after.phase ≡ before.phase
  pub seat : after.seat ≡ before.seat
  pub room : after.room + length list ≡ before.room
  pub tray : after.tray ≡ before.tray
  pub waiting : after.waiting ≡ before.waiting ++ list

-- The worker has answered a list: it is at rest, the list's items stand in their order behind what its tray held, each
-- with its reply, the tray has so much less room, and nothing waits.
pub record HasAnswered {V I R : Type 0} (rests : V → Type 0) (before : WorkerView V I R) (list : List I) (after : WorkerView V I R) : Type 0 where
  pub phase : after.phase ≡ before.phase
  pub at_rest : rests after.seat
  pub room : after.room + length list ≡ before.room
  pub told : List (AnsweredItem I R)
  pub tray : after.tray ≡ before.tray ++ told
  pub items : map (λ t. t.item) told ≡ list
  pub idle : after.waiting ≡ []

-- The worker has answered all that waited: it is at rest, those items stand in their order behind what its tray held, each
-- with its reply, and nothing waits.
pub record HasFinished {V I R : Type 0} (rests : V → Type 0) (before after : WorkerView V I R) : Type 0 where
  pub phase : after.phase ≡ before.phase
  pub at_rest : rests after.seat
  pub room : after.room ≡ before.room
  pub told : List (AnsweredItem I R)
  pub tray : after.tray ≡ before.tray ++ told
  pub items : map (λ t. t.item) told ≡ before.waiting
  pub idle : after.waiting ≡ []

-- ---- how a worker is kept

-- The tray tells of the seat. Its list may hold such items; it has one at each place where a reply is, and behind these are
-- those that wait. There is memory for as many items and replies as there are places.
pub record IsKept (Tells IsOf : Type 0) (items more replies capacity places : ℕ) : Type 0 where
  pub told : Tells
  pub is_of : IsOf
  pub paired : replies ≤ items
  pub within : items ≤ places
  pub reserved : places ≤ capacity
  pub listed : places ≤ more + items
