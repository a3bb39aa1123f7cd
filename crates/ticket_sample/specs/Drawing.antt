-- What the steps of drawing a sample give.
use Rattle.std.specs.Prelude.{◌≡◌, ◌≢◌, ℕ, ◌<◌, List, All, AllPairs, count_by, map, nat_lt, slice_index}
use Rattle.std.specs.Ordering.{is_lt}
use Rattle.body_store.specs.declared.lookup.Place.{Place}
use Rattle.store_spec.specs.Election.{Election, cell_count}
use Rattle.ticket_sample.specs.Ticket.{Lot, lot_cmp, lot_of}

abbrev pub numbers_at : List Place → List ℕ
numbers_at places = map (λ place. place.number) places

abbrev pub lots_of : List ℕ → List ℕ → List Lot
lots_of dice numbers = map (lot_of dice) numbers

-- no two numbers are the same
abbrev pub AreApart : List ℕ → Type 0
AreApart numbers = AllPairs (λ a b. a ≢ b) numbers

-- a lot is drawn before this one exactly where fewer than so many lots are drawn before it
abbrev pub IsBound : List Lot → ℕ → Lot → Type 0
IsBound lots count bound =
    All (λ lot. is_lt (lot_cmp lot bound) ≡ nat_lt (count_by (λ other. is_lt (lot_cmp other lot)) lots) count) lots

-- each number of the places stands in its cell
abbrev pub StandIn : Election → List ℕ → List Place → Type 0
StandIn e cells places = All (λ place. (place.cell < cell_count e) × (slice_index cells place.cell ≡ place.number)) places
