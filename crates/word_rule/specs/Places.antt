-- Seats as callers see them, whatever the phase: the words to which a seat belongs, and its view; how both are kept.
use Rattle.std.specs.Prelude.{◌≡◌, ◌≢◌, ℕ, ◌+◌, ◌^◌, ◌<◌, List, [], ◌++◌, length, map, flat_map, All, Some, slice_get, slice_index_or}
use Rattle.atomic_table.specs.declared.shared.Seat.{Seat}
use Rattle.atomic_table.specs.declared.shared.Shared.{Shared}
use Rattle.step_core.specs.declared.shape.Shape.{Shape}
use Rattle.word_rule.specs.Seats.{SharedWords, base_of, words_of}
use Rattle.word_rule.specs.declared.seats.Known.{Known}
use Rattle.word_rule.specs.declared.seats.Opening.{Opening}

pub record Place (V : Type 0) : Type 0 where
  pub words : SharedWords
  pub view : V

-- new words: over these cells, for so many seats
pub record AreMadeOf (shape : Shape) (cells : List ℕ) (seats : ℕ) (words : SharedWords) : Type 0 where
  pub shape_is : words.shape ≡ shape
  pub base_is : words.base ≡ cells
  pub seats_are : words.seats ≡ seats

module _ {V : Type 0} where
  -- as many seats as were asked for, each with this view
  pub record AreAll (view : V) (words : SharedWords) (seats : List (Place V)) : Type 0 where
    pub count : length seats ≡ words.seats
    pub each : All (λ seat. seat ≡ record { words = words; view = view }) seats

  -- all seats of the words, each with such a view
  pub record AreWhole (IsSuch : V → Type 0) (words : SharedWords) (seats : List (Place V)) : Type 0 where
    pub count : length seats ≡ words.seats
    pub belong : All (λ seat. seat.words ≡ words) seats
    pub such : All (λ seat. IsSuch seat.view) seats

  -- a view that has the lists of all seats, one after another
  abbrev pub HasLists : (V → V → V) → List (Place V) → V → Type 0
  HasLists both seats view = (list : V → List ℕ) → ((v w : V) → list (both v w) ≡ list v ++ list w) → list view ≡ flat_map list (map (λ seat. seat.view) seats)

  -- what the last words and views are like once one seat, at rest, has taken in all others: each other view is as new
  pub record HaveEnded (holds : Shape → List ℕ → List ℕ → List V → Type 0) (fresh : V) (both : V → V → V) (rests : V → Type 0) (words : SharedWords) (seats : List (Place V)) (last : List ℕ) : Type 0 where
    pub views : List V
    pub id : ℕ
    pub view : V
    pub kept : holds words.shape words.base last views
    pub stands : slice_get views id ≡ Some view
    pub others : (k : ℕ) (d : V) → k < length views → k ≢ id → slice_index_or views k d ≡ fresh
    pub at_rest : rests view
    pub lists : HasLists both seats view

  -- the words of a table
  abbrev pub words_seen : {Q : Type 0} → Shared (Unit {0}) (Known V) Opening Q → SharedWords
  words_seen shared = let key = shared.key in record { table = shared.table_id; shape = key.shape; base = base_of key; seats = key.seats }

  -- what stands at a seat of a table
  abbrev pub place_of : Seat (Unit {0}) (Known V) → Place V
  place_of seat = record { words = words_of seat.table_id seat.me.0; view = seat.me.0.view }

  -- a seat holds no slot and stands for itself alone
  pub record IsSingle (seat : Seat (Unit {0}) (Known V)) : Type 0 where
    pub holds_none : seat.me.1 ≡ []
    pub weight : seat.me.0.weight ≡ 1

  -- a seat at these words, at rest, that has taken in such seats, one after another
  pub record HasTakenIn (both : V → V → V) (rests : V → Type 0) (words : SharedWords) (seats : List (Place V)) (whole : Seat (Unit {0}) (Known V)) : Type 0 where
    pub of : whole.table_id ≡ words.table
    pub holds_none : whole.me.1 ≡ []
    pub weight : whole.me.0.weight ≡ length seats
    pub at_rest : rests whole.me.0.view
    pub lists : HasLists both seats whole.me.0.view

  -- ---- how words and seats are kept

  -- Words of a table, with their shape: the cells, which words may be made of, and so many words behind them. There are
  -- seats, and no slots.
  pub record AreWords (may_open : Shape → List ℕ → Type 0) (behind : Shape → ℕ) (shape : Shape) {Q : Type 0} (shared : Shared (Unit {0}) (Known V) Opening Q) : Type 0 where
    pub shape_is : shape ≡ shared.key.shape
    pub opened : may_open shared.key.shape (base_of shared.key)
    pub count : shared.table_id.words ≡ shape.cells + behind shape
    pub no_slots : shared.table_id.slots ≡ 0
    pub some : 0 < shape.cells
    pub small : shape.cells + behind shape < 2 ^ 32
    pub some_seat : 0 < shared.key.seats

  -- a seat that stands for itself alone, and what is kept of it in memory
  pub record IsSeat {S : Type 0} (IsOf : Shape → S → V → Type 0) (standing : S) (seat : Seat (Unit {0}) (Known V)) : Type 0 where
    pub stands : IsOf seat.me.0.shape standing seat.me.0.view
    pub single : IsSingle seat
