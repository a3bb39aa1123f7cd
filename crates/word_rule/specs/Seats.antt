-- What the seats of shared words know, whatever the phase, and what holds of all of them. A seat stands for so many of
-- the seats that were asked for: that is its weight. One of weight 0 was taken in by another and is spent.
use Rattle.std.specs.Prelude.{◌≡◌, ◌≢◌, ℕ, List, [], ◌∷◌, ◌++◌, ◌+◌, ◌-◌, ◌^◌, ◌<◌, replicate, take, map, sum_by, All, Some, length, slice_get, slice_set}
use mathlib.Core.Option.{some}
use lib.ListN.{get_elem?}
use Prim.Native.Nat.{zero-le}
use Rattle.atomic_table.specs.Seated.{TableId}
use Rattle.atomic_table.specs.Table.{State}
use Rattle.step_core.specs.declared.shape.Shape.{Shape}
use Rattle.word_rule.specs.declared.seats.Known.{Known}
use Rattle.word_rule.specs.declared.seats.Opening.{Opening}

-- Shared words as callers see them: which they are, their shape, what the cells held at the opening, and how many seats
-- were asked for.
pub record SharedWords : Type 0 where
  pub table : TableId
  pub shape : Shape
  pub base : List ℕ
  pub seats : ℕ

-- what the cells held at the opening
abbrev pub base_of : Opening → List ℕ
base_of opening = take opening.shape.cells opening.words.value.items

-- no cells and no claim words
abbrev pub no_shape : Shape
no_shape = record { order = record { bits = 0; salt = 0; few_bits = zero-le }; cells = 0; claims = 0 }

module _ {V : Type 0} where
  -- a seat of these words
  abbrev pub knows : Opening → ℕ → V → Known V
  knows opening weight view = record { shape = opening.shape; base = base_of opening; seats = opening.seats; weight = weight; view = view }

  -- the words of a seat
  abbrev pub words_of : TableId → Known V → SharedWords
  words_of table known = record { table = table; shape = known.shape; base = known.base; seats = known.seats }

  -- a new seat of weight 1 is cut off
  abbrev pub cut : Known V → Known V
  cut known = record known { weight = known.weight - 1 }

  abbrev pub cut_off : V → Known V → Known V
  cut_off fresh known = record known { weight = 1; view = fresh }

  -- a seat takes in another: its weight and its view
  abbrev pub taken_in : (V → V → V) → Known V → Known V → Known V
  taken_in both known other = record known { weight = known.weight + other.weight; view = both known.view other.view }

  abbrev pub spent : V → Known V
  spent fresh = record { shape = no_shape; base = []; seats = 0; weight = 0; view = fresh }

  -- The seats that are not spent know the same opening, the weights of all are the number of seats that was asked for,
  -- and the phase's own rule holds of the words and all views.
  pub record IsSeated (holds : Shape → List ℕ → List ℕ → List V → Type 0) (fresh : V) (opening : Opening) (s : State (Unit {0}) (Known V)) : Type 0 where
    pub alike : All (λ known. known.weight ≢ 0 → known ≡ knows opening known.weight known.view) s.views
    pub spent : All (λ known. known.weight ≡ 0 → known.view ≡ fresh) s.views
    pub weights : sum_by (λ known. known.weight) s.views ≡ opening.seats
    pub kept : holds opening.shape (base_of opening) s.words (map (λ known. known.view) s.views)

  -- The phase's rule is kept where a seat is made, and where a seat at rest takes in another, which leaves it at rest.
  pub record KeepsSeats (holds : Shape → List ℕ → List ℕ → List V → Type 0) (fresh : V) (both : V → V → V) (rests : V → Type 0) : Type 0 where
    pub made : (shape : Shape) (base words : List ℕ) (views : List V) → holds shape base words views → holds shape base words (views ++ fresh ∷ [])
    pub taken : (shape : Shape) (base words : List ℕ) (views : List V) (id other : ℕ) (view gone : V) → holds shape base words views → id ≢ other
        → slice_get views id ≡ Some view → slice_get views other ≡ Some gone → rests view → rests gone
        → holds shape base words (slice_set (slice_set views id (both view gone)) other fresh)
    pub still : (view gone : V) → rests view → rests gone → rests (both view gone)

  -- There is a cell and the words are few, and the phase's rule holds of the cells, with so many words behind them that are
  -- 0, and one new view.
  pub record Opens (holds : Shape → List ℕ → List ℕ → List V → Type 0) (fresh : V) (behind : ℕ) (shape : Shape) (cells : List ℕ) : Type 0 where
    pub some : 0 < shape.cells
    pub size : length cells ≡ shape.cells
    pub small : shape.cells + behind < 2 ^ 32
    pub kept : holds shape cells (cells ++ replicate behind 0) (fresh ∷ [])

  -- What is known of a table at its end: its rule held of the last words, whose first are these, and a seat knew this.
  pub record HasEnded (holds : Shape → List ℕ → List ℕ → List V → Type 0) (fresh : V) (opening : Opening) (id : ℕ) (known : Known V) (cells : List ℕ) : Type 0 where
    pub last : State (Unit {0}) (Known V)
    pub kept : IsSeated holds fresh opening last
    pub seen : get_elem? last.views id ≡ some known
    pub cells_are : cells ≡ take (length cells) last.words
