-- What holds of a casting phase at every moment, and the measure that each step lowers.
use Rattle.std.specs.Prelude.{◌≡◌, ◌≢◌, ℕ, ◌-◌, ◌≤◌, Bool, true, false, List, [], ◌∷◌, length, map, All, AllPairs, Contains, Some, slice_get}
use Rattle.step_core.specs.Casting.{Casting, Tabulator, table_in}
use Rattle.store_spec.specs.CastInvariant.{CastInvariant}
use Rattle.store_spec.specs.CastStep.{CastState, CastView, MayBegin, Table, cast_measure}
use Rattle.store_spec.specs.CastStep.CastState.{Rest, Probing, Carrying, Ready}
use Rattle.store_spec.specs.Measure.{Falls}
use Rattle.store_spec.specs.Phase.{MayBeMetBefore, Met, is_met_accepted, numbers_that}
use Rattle.store_spec.specs.Phase.Met.{Held, Accepted, Taken, Full}

-- ---- the measure

-- the numbers that were not begun
abbrev pub not_begun : CastState → ℕ → ℕ
not_begun Rest left = left
not_begun (Probing x k) left = left - 1
not_begun (Carrying v i) left = left
not_begun (Ready v i s) left = left

abbrev pub tab_measure : Table → Tabulator → List ℕ
tab_measure t tab = not_begun tab.state (length tab.left) ∷ cast_measure t tab.state

-- the measure of the tabulator at `id` falls
pub record FallsAt (c : Casting) (id : ℕ) (now : Casting) : Type 0 where
  pub tab : Tabulator
  pub stands : slice_get c.tabs id ≡ Some tab
  pub tab_now : Tabulator
  pub stands_now : slice_get now.tabs id ≡ Some tab_now
  pub falls : Falls (tab_measure (table_in c) tab_now) (tab_measure (table_in c) tab)

-- ---- what holds at every moment

abbrev pub is_taken : Met → Bool
is_taken Held = false
is_taken Accepted = false
is_taken Taken = true
is_taken Full = false

abbrev pub is_full : Met → Bool
is_full Held = false
is_full Accepted = false
is_full Taken = false
is_full Full = true

-- a tabulator as the casting invariant sees it
abbrev pub view_of : Tabulator → CastView
view_of tab = record {
  state = tab.state;
  accepted = numbers_that is_met_accepted tab.answers;
  taken = numbers_that is_taken tab.answers;
  full = numbers_that is_full tab.answers;
}

-- an answer tells rightly whether its number is of the base
abbrev pub TellsBase : List ℕ → ℕ → Met → Type 0
TellsBase base x Held = Contains base x
TellsBase base x Accepted = ¬ Contains base x
TellsBase base x Taken = ¬ Contains base x
TellsBase base x Full = ¬ Contains base x

-- the number that stands first is the one that is tried, and at rest it may be begun
abbrev pub IsNext : Table → List ℕ → CastState → List ℕ → Type 0
IsNext t base Rest [] = Unit {0}
IsNext t base Rest (x ∷ xs) = MayBegin t base x
IsNext t base (Probing y k) [] = ⊥
IsNext t base (Probing y k) (x ∷ xs) = x ≡ y
IsNext t base (Carrying v i) left = Unit {0}
IsNext t base (Ready v i s) left = Unit {0}

pub record IsTabulator (t : Table) (base : List ℕ) (tab : Tabulator) : Type 0 where
  pub some : All (λ x. x ≢ 0) tab.left
  pub next : IsNext t base tab.state tab.left
  pub tells_base : All (λ a. TellsBase base a.number a.met) tab.answers
  pub in_order : AllPairs MayBeMetBefore tab.answers

-- The base is a set within the limit, the casting invariant holds of the words and the tabulators, and each tabulator
-- answers its list in order.
pub record IsCasting (c : Casting) : Type 0 where
  pub few_bits : c.bits ≤ 16
  pub within_limit : length c.base ≤ c.limit
  pub some : All (λ v. v ≢ 0) c.base
  pub invariant : CastInvariant (table_in c) c.base c.words (map view_of c.tabs)
  pub tabs : All (IsTabulator (table_in c) c.base) c.tabs
