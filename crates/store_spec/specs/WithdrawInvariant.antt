-- What holds between any two steps of a withdrawing phase, over its words and its withdrawers. The base is the cells
-- that the phase began with. A number is removed from the cells by copying a lower one over it, whose own place is
-- then to be emptied in the same way: so a number may stand in several cells for a while, one of them at most for good.
use Rattle.std.specs.Prelude.{◌≡◌, ◌≢◌, ℕ, ◌+◌, ◌-◌, ◌<◌, ◌≤◌, nat_lt, ◌==◌, Bool, false, ◌&&◌, ⊤, List, length, take, drop, flat_map, sum_by, count_by, slice_index, All, Contains}
use Rattle.store_spec.specs.Layout.{IsOrdered}
use Rattle.store_spec.specs.WithdrawStep.{WithdrawState, WithdrawView, Fits}
use Rattle.store_spec.specs.WithdrawStep.WithdrawState.{Rest, Chosen, Owing, Up, Down}

-- ---- counts

-- how often a number stands in a list
abbrev pub times : List ℕ → ℕ → ℕ
times numbers x = count_by (λ n. n == x) numbers

-- how many of the first cells hold a number
abbrev pub copies : List ℕ → ℕ → ℕ → ℕ
copies cells x first = times (take first cells) x

-- the state owes a removal of the number, from the first cells
abbrev pub owes : WithdrawState → ℕ → ℕ → Bool
owes (Owing y bound) x first = y == x && nat_lt bound first
owes (Up y bound place) x first = y == x && nat_lt bound first
owes (Down y bound place c source) x first = y == x && nat_lt bound first
owes state x first = false

-- how many withdrawers do
abbrev pub debts : List WithdrawView → ℕ → ℕ → ℕ
debts views x first = count_by (λ w. owes w.state x first) views

-- how often the removal of a number was begun
abbrev pub times_begun : List WithdrawView → ℕ → ℕ
times_begun views x = sum_by (λ w. times w.begun x) views

-- all numbers whose removal was begun
abbrev pub begun_by : List WithdrawView → List ℕ
begun_by views = flat_map (λ w. w.begun) views

abbrev pub walks_to : WithdrawState → ℕ → Bool
walks_to (Chosen y place) x = y == x
walks_to state x = false

-- how often a number was taken: chosen by a withdrawer that walks, or begun
abbrev pub times_taken : List WithdrawView → ℕ → ℕ
times_taken views x = count_by (λ w. walks_to w.state x) views + times_begun views x

-- ---- numbers

pub record IsOfBase (base : List ℕ) (x : ℕ) : Type 0 where
  pub some : x ≢ 0
  pub stood : Contains base x

-- a number of the base that nobody has begun to remove
pub record IsLive (base : List ℕ) (views : List WithdrawView) (x : ℕ) : Type 0 where
  pub of_base : IsOfBase base x
  pub kept : times_begun views x ≡ 0

-- ---- the parts

-- The flag of a cell counts how often the number was taken that the cell held at first: once at most. The flag of a
-- cell that was empty is 0.
pub record AreFlags (base flags : List ℕ) (views : List WithdrawView) : Type 0 where
  pub counted : (cell : ℕ) → slice_index flags cell ≡ times_taken views (slice_index base cell)
  pub once : (x : ℕ) → times_taken views x ≤ 1
  pub begun : All (λ w. All (IsOfBase base) w.begun) views
  pub gone : All (λ w. All (λ x. IsOfBase base x × (times_taken views x ≡ 1)) w.gone) views

-- cells hold numbers of the base, each at its home or after it, and the last is empty
pub record AreCopies (home : ℕ → ℕ) (base cells : List ℕ) : Type 0 where
  pub of_base : (place : ℕ) → slice_index cells place ≢ 0 → Contains base (slice_index cells place)
  pub from_home : (place : ℕ) → slice_index cells place ≢ 0 → home (slice_index cells place) ≤ place
  pub last_empty : slice_index cells (length base - 1) ≡ 0

-- Of each number no more removals are owed from the first cells than it has copies there. Over all cells it has one
-- copy more than are owed, and none more once its removal was begun.
pub record AreOwed (base cells : List ℕ) (views : List WithdrawView) : Type 0 where
  pub no_more : (x first : ℕ) → debts views x first ≤ copies cells x first
  pub in_all : (x : ℕ) → IsOfBase base x → copies cells x (length base) + times_begun views x ≡ debts views x (length base) + 1

-- The lowest copy of a live number is not owed, and stands in order: a cell from the number's home on, with no copy in
-- it or before it, holds a greater word.
pub record AreLowest (home : ℕ → ℕ) (base cells : List ℕ) (views : List WithdrawView) : Type 0 where
  pub spare : (x first : ℕ) → IsLive base views x → 0 < copies cells x first → debts views x first < copies cells x first
  pub in_order : (x place : ℕ) → IsLive base views x → home x ≤ place → copies cells x (place + 1) ≡ 0 → x < slice_index cells place

-- ---- what holds of a withdrawer by its state

-- it walks to a live number
pub record Walks (home : ℕ → ℕ) (base : List ℕ) (views : List WithdrawView) (x place : ℕ) : Type 0 where
  pub live : IsLive base views x
  pub from_home : home x ≤ place
  pub within : place < length base

pub record Owes (base : List ℕ) (x bound : ℕ) : Type 0 where
  pub of_base : IsOfBase base x
  pub within : bound < length base

-- it searches upwards, from a hole that holds the number, or a lower word by now
pub record SearchesUp (base cells : List ℕ) (x bound place : ℕ) : Type 0 where
  pub owed : Owes base x bound
  pub hole : slice_index cells bound ≤ x
  pub above : bound < place
  pub within : place < length base

-- It searches downwards, with a candidate that fits. A live candidate has a copy at the source or below. No live
-- number is overlooked: one that may stand in the hole, and is greater than the candidate, has a copy at the place or
-- below.
pub record SearchesDown (home : ℕ → ℕ) (base cells : List ℕ) (views : List WithdrawView) (x bound place c source : ℕ) : Type 0 where
  pub owed : Owes base x bound
  pub hole : slice_index cells bound ≤ x
  pub above : bound ≤ place
  pub below : place < source
  pub within : source < length base
  pub fits : Fits home x bound c
  pub of_base : c ≢ 0 → Contains base c
  pub low : IsLive base views c → 0 < copies cells c (source + 1)
  pub overlooked : (y : ℕ) → IsLive base views y → home y ≤ bound → c < y → 0 < copies cells y (place + 1)

abbrev pub IsSound : (ℕ → ℕ) → List ℕ → List ℕ → List WithdrawView → WithdrawState → Type 0
IsSound home base cells views Rest = ⊤
IsSound home base cells views (Chosen x place) = Walks home base views x place
IsSound home base cells views (Owing x bound) = Owes base x bound
IsSound home base cells views (Up x bound place) = SearchesUp base cells x bound place
IsSound home base cells views (Down x bound place c source) = SearchesDown home base cells views x bound place c source

-- ---- the whole

abbrev pub cell_words : List ℕ → List ℕ → List ℕ
cell_words base words = take (length base) words

abbrev pub flag_words : List ℕ → List ℕ → List ℕ
flag_words base words = drop (length base) words

-- cells that a withdrawing phase may begin with
pub record IsBase (home : ℕ → ℕ) (base : List ℕ) : Type 0 where
  pub ordered : IsOrdered home base
  pub last_empty : slice_index base (length base - 1) ≡ 0

pub record WithdrawInvariant (home : ℕ → ℕ) (base words : List ℕ) (views : List WithdrawView) : Type 0 where
  pub begins : IsBase home base
  pub size : length words ≡ length base + length base
  pub flags : AreFlags base (flag_words base words) views
  pub copied : AreCopies home base (cell_words base words)
  pub owed : AreOwed base (cell_words base words) views
  pub lowest : AreLowest home base (cell_words base words) views
  pub states : All (λ w. IsSound home base (cell_words base words) views w.state) views
