-- A team has a worker of each of several phases, among whom its list was shared out by where each item goes.
use Rattle.std.specs.Prelude.{◌≡◌, ◌==◌, ◌+◌, ◌<◌, ◌≤◌, ℕ, List, [], ◌∷◌, ◌++◌, drop, length, map, zip, filter, All, Some, slice_get, slice_set}
use Rattle.phase_kind.specs.Phase.{OpenPhase}
use Rattle.phase_kind.specs.Worker.{HasFinished, WorkerView}

-- the items of a list that go to a place, in their order
abbrev pub those_of : {I : Type 0} → (I → ℕ) → ℕ → List I → List I
those_of goes_to place list = filter (λ x. goes_to x == place) list

-- the replies to them, from those to the whole list
abbrev pub replies_to : {I R : Type 0} → (I → ℕ) → ℕ → List I → List R → List R
replies_to goes_to place list replies = map (λ row. row.1) (filter (λ row. goes_to row.0 == place) (zip list replies))

-- each item goes to one of so many places
abbrev pub GoesWithin : {I : Type 0} → (I → ℕ) → ℕ → List I → Type 0
GoesWithin goes_to places list = All (λ x. goes_to x < places) list

-- A list that is shared out: at each of so many places a list of the items that go there.
pub record AreSharedOut {I : Type 0} (goes_to : I → ℕ) (places : ℕ) (list : List I) (lists : List (List I)) : Type 0 where
  pub as_many : length lists ≡ places
  pub each : (place : ℕ) (those : List I) → slice_get lists place ≡ Some those → those ≡ those_of goes_to place list

-- how many items of a list go to each of so many places
pub record AreShares {I : Type 0} (goes_to : I → ℕ) (places : ℕ) (list : List I) (shares : List ℕ) : Type 0 where
  pub as_many : length shares ≡ places
  pub each : (place share : ℕ) → slice_get shares place ≡ Some share → share ≡ length (those_of goes_to place list)

-- an empty list of each store, with room for its share
abbrev pub AreEmptyLists : {C I L : Type 0} → (C → L → Type 0) → (L → List I) → (L → ℕ) → List C → List ℕ → List L → Type 0
AreEmptyLists {C} {I} {L} is_of items room stores shares lists =
    (place : ℕ) (store : C) (share : ℕ) (list : L) → slice_get stores place ≡ Some store → slice_get shares place ≡ Some share → slice_get lists place ≡ Some list → is_of store list × (items list ≡ []) × (room list ≡ share)

-- Lists, one for each of so many places. Each has got those of the first items of a list that went there by an order, and
-- has room for all that the order sends there.
pub record AreFilled {I L : Type 0} (items : L → List I) (room : L → ℕ) (places : ℕ) (order : List ℕ) (got : List I) (lists : List L) : Type 0 where
  pub as_many : length lists ≡ places
  pub each : (place : ℕ) (list : L) → slice_get lists place ≡ Some list
      → (items list ≡ replies_to (λ place. place) place order got) × (room list + length (items list) ≡ length (those_of (λ place. place) place order))

-- a worker of each phase, in the order of the phases
abbrev pub IsTeam : {V I R : Type 0} → List OpenPhase → List (WorkerView V I R) → Type 0
IsTeam phases team = map (λ worker. worker.phase) team ≡ phases

-- The entries of an order are places of a team, and name each worker as often as items wait there.
pub record AreNamed {V I R : Type 0} (order : List ℕ) (team : List (WorkerView V I R)) : Type 0 where
  pub within : GoesWithin (λ place. place) (length team) order
  pub each : (place : ℕ) (worker : WorkerView V I R) → slice_get team place ≡ Some worker → length worker.waiting ≡ length (those_of (λ place. place) place order)

-- each worker of a team has answered all that waited
pub record HaveFinished {V I R : Type 0} (rests : V → Type 0) (before after : List (WorkerView V I R)) : Type 0 where
  pub as_many : length after ≡ length before
  pub each : (place : ℕ) (old now : WorkerView V I R) → slice_get before place ≡ Some old → slice_get after place ≡ Some now → HasFinished rests old now

-- Replies to the items of a list, kept by the places where the items go: at each place as many as go there.
abbrev pub AreByPlace : {I R : Type 0} → (I → ℕ) → List I → List (List R) → Type 0
AreByPlace {I} {R} goes_to list rows = (place : ℕ) (row : List R) → slice_get rows place ≡ Some row → length row ≡ length (those_of goes_to place list)

-- the same replies in the order of the list
pub record AreInListOrder {I R : Type 0} (goes_to : I → ℕ) (list : List I) (rows : List (List R)) (replies : List R) : Type 0 where
  pub as_many : length replies ≡ length list
  pub each : (place : ℕ) (row : List R) → slice_get rows place ≡ Some row → replies_to goes_to place list replies ≡ row

-- ---- a team and its order

-- a worker of each of several phases, the entries of its order that were handled, and those that are ahead
pub record TeamView (V I R : Type 0) : Type 0 where
  pub workers : List (WorkerView V I R)
  pub handled : List ℕ
  pub ahead : List ℕ

abbrev pub new_team : {V I R : Type 0} → List (WorkerView V I R) → List ℕ → TeamView V I R
new_team workers order = record { workers = workers; handled = []; ahead = order }

-- The worker at a place has answered the first item that waited with it: the item stands behind what the tray held, with its
-- reply. All others are as they were.
pub record AnswersAt {V I R : Type 0} (rests : V → Type 0) (place : ℕ) (before after : List (WorkerView V I R)) : Type 0 where
  pub old : WorkerView V I R
  pub now : WorkerView V I R
  pub item : I
  pub reply : R
  pub there : slice_get before place ≡ Some old
  pub put : after ≡ slice_set before place now
  pub phase : now.phase ≡ old.phase
  pub at_rest : rests now.seat
  pub room : now.room ≡ old.room
  pub waits : old.waiting ≡ item ∷ now.waiting
  pub tray : now.tray ≡ old.tray ++ record { item = item; reply = reply } ∷ []

-- The team has come to the next entry of its order, and the worker that it names has answered.
pub record HasAnsweredNext {V I R : Type 0} (rests : V → Type 0) (before after : TeamView V I R) : Type 0 where
  pub place : ℕ
  pub ahead : before.ahead ≡ place ∷ after.ahead
  pub handled : after.handled ≡ before.handled ++ place ∷ []
  pub answers : AnswersAt rests place before.workers after.workers

-- The team has handled its whole order, entry by entry, and each worker has answered all that waited.
pub record HasHandled {V I R : Type 0} (rests : V → Type 0) (before after : TeamView V I R) : Type 0 where
  pub in_order : after.handled ≡ before.handled ++ before.ahead
  pub done : after.ahead ≡ []
  pub finished : HaveFinished rests before.workers after.workers

-- how a team is kept: the entries behind those that were handled name its workers
pub record IsKeptTeam {V I R : Type 0} (workers : List (WorkerView V I R)) (order : List ℕ) (handled : ℕ) : Type 0 where
  pub within : handled ≤ length order
  pub named : AreNamed (drop handled order) workers
