-- A casting phase that is made step by step: tabulators, each with a list of numbers, on shared words.
use Rattle.std.specs.Prelude.{◌≡◌, ◌≢◌, ℕ, ◌+◌, ◌-◌, ◌^◌, ◌≤◌, ◌==◌, if◌then◌else◌, List, [], ◌∷◌, ◌++◌, length, take, drop, map, replicate, All, AllPairs, Some, slice_get, slice_index, slice_set}
use Rattle.std.specs.List.{list_any}
use Rattle.std.specs.Option.{IsSomeAnd, option_map_or}
use Rattle.store_spec.specs.CastStep.{CastNote, CastRow, CastState, Table}
use Rattle.store_spec.specs.CastStep as notes
use Rattle.store_spec.specs.CastStep.CastState.{Rest, Probing, Carrying, Ready}
use Rattle.step_core.specs.Schedule.{Follows}
use Rattle.store_spec.specs.Home.{home_of}
use Rattle.store_spec.specs.Layout.{ascending, layout_of}
use Rattle.store_spec.specs.Phase.{Answer, CastOutcome, Met, numbers_accepted}
use Rattle.store_spec.specs.Phase.Met.{Held, Accepted, Taken, Full}

-- A tabulator: its state, the numbers of its list that are answered, and those that are not. Of these the first is the
-- one for which it tries claim words, if it tries any.
pub record Tabulator : Type 0 where
  pub state : CastState
  pub answers : List Answer
  pub left : List ℕ

-- the homes, the most numbers that the set may have, the set at the opening in ascending order, the words, and the
-- tabulators
pub record Casting : Type 0 where
  pub bits : ℕ
  pub salt : ℕ
  pub limit : ℕ
  pub base : List ℕ
  pub words : List ℕ
  pub tabs : List Tabulator

-- a cell for each home and each number, and a claim word for each number that may still come
abbrev pub table_in : Casting → Table
table_in c = record { home = home_of c.bits c.salt; cells = 2 ^ c.bits + c.limit; claims = c.limit - length c.base }

abbrev pub cells_in : Casting → List ℕ
cells_in c = take (2 ^ c.bits + c.limit) c.words

abbrev pub answers_in : Casting → List (List Answer)
answers_in c = map (λ tab. tab.answers) c.tabs

-- the list of a tabulator: the numbers that are answered, and then those that are not
abbrev pub list_of : Tabulator → List ℕ
list_of tab = map (λ a. a.number) tab.answers ++ tab.left

abbrev pub lists_in : Casting → List (List ℕ)
lists_in c = map list_of c.tabs

-- the numbers that are answered, list by list
abbrev pub answered_in : Casting → List (List ℕ)
answered_in c = map (λ tab. map (λ a. a.number) tab.answers) c.tabs

-- what the first numbers of a list met
abbrev pub mets_at : Casting → ℕ → List Met
mets_at c id = option_map_or (λ tab. map (λ a. a.met) tab.answers) (slice_get c.tabs id) []

-- the base and what was accepted
abbrev pub set_after : Casting → List ℕ
set_after c = c.base ++ numbers_accepted (answers_in c)

-- ---- numbers that need no step

-- The answers to the numbers that stand first, as far as they need no step: a number of the base is held, and where there
-- are no claim words there is no room for any other.
abbrev pub answers_at_once : List ℕ → ℕ → List ℕ → List Answer
answers_at_once base claims [] = []
answers_at_once base claims (x ∷ xs) =
    if list_any (λ b. b == x) base
    then record { number = x; met = Held } ∷ answers_at_once base claims xs
    else if claims == 0 then record { number = x; met = Full } ∷ answers_at_once base claims xs else []

-- a tabulator at rest answers them as soon as they stand first
abbrev pub caught_up : List ℕ → ℕ → Tabulator → Tabulator
caught_up base claims tab =
    let at_once = answers_at_once base claims tab.left in
    record tab { answers = tab.answers ++ at_once; left = drop (length at_once) tab.left }

-- ---- the opening

-- what a phase may begin with: a set within the limit, and lists of numbers
pub record MayOpen (bits limit : ℕ) (start : List ℕ) (lists : List (List ℕ)) : Type 0 where
  pub few_bits : bits ≤ 16
  pub distinct : AllPairs (λ a b. a ≢ b) start
  pub some : All (λ v. v ≢ 0) start
  pub few : length start ≤ limit
  pub listed : All (All (λ x. x ≢ 0)) lists

-- a tabulator for each list
abbrev pub opened_tab : List ℕ → ℕ → List ℕ → Tabulator
opened_tab base claims list = caught_up base claims (record { state = Rest; answers = []; left = list })

abbrev pub opened_tabs : List ℕ → ℕ → List (List ℕ) → List Tabulator
opened_tabs base claims lists = map (opened_tab base claims) lists

abbrev pub opened : ℕ → ℕ → ℕ → List ℕ → List (List ℕ) → Casting
opened bits salt limit start lists =
    let base = ascending start in
    let claims = limit - length base in
    record {
      bits = bits;
      salt = salt;
      limit = limit;
      base = base;
      words = layout_of (home_of bits salt) (2 ^ bits + limit) start ++ replicate claims 0;
      tabs = opened_tabs base claims lists;
    }

-- ---- steps

-- nothing is left to do
abbrev pub IsDone : Tabulator → Type 0
IsDone tab = (tab.state ≡ Rest) × (tab.left ≡ [])

abbrev pub IsDoneAt : Casting → ℕ → Type 0
IsDoneAt c id = IsSomeAnd (slice_get c.tabs id) IsDone

-- the state from which the next step goes: at rest, that of the number that stands first
abbrev pub next_from : CastState → List ℕ → CastState
next_from Rest [] = Rest
next_from Rest (x ∷ xs) = Probing x 0
next_from (Probing x k) left = Probing x k
next_from (Carrying v i) left = Carrying v i
next_from (Ready v i s) left = Ready v i s

-- the number that stands first is answered
abbrev pub first_answered : Met → List Answer → List ℕ → List Answer
first_answered met answers [] = answers
first_answered met answers (x ∷ xs) = answers ++ record { number = x; met = met } ∷ []

abbrev pub answered : Met → Tabulator → Tabulator
answered met tab = record tab { answers = first_answered met tab.answers tab.left; left = drop 1 tab.left }

-- a note tells what the number met, if it tells anything of it
abbrev pub told : CastNote → Tabulator → Tabulator
told notes.Quiet tab = tab
told notes.Claimed tab = answered Accepted tab
told notes.Taken tab = answered Taken tab
told notes.Full tab = answered Full tab
told notes.Placed tab = tab

-- a tabulator after a step to this state, with this note
abbrev pub after_step : List ℕ → ℕ → Tabulator → CastState → CastNote → Tabulator
after_step base claims tab Rest note = caught_up base claims (told note (record tab { state = Rest }))
after_step base claims tab (Probing x k) note = told note (record tab { state = Probing x k })
after_step base claims tab (Carrying v i) note = told note (record tab { state = Carrying v i })
after_step base claims tab (Ready v i s) note = told note (record tab { state = Ready v i s })

-- the tabulator at `id` makes one step, one row of the table of casting, and all else stays
pub record Steps (c : Casting) (id : ℕ) (now : Casting) : Type 0 where
  pub tab : Tabulator
  pub acts : slice_get c.tabs id ≡ Some tab
  pub word : ℕ
  pub left : ℕ
  pub new : CastState
  pub note : CastNote
  pub row : CastRow (table_in c) (next_from tab.state tab.left) word (slice_index c.words word) left new note
  pub is : now ≡ record c {
    words = slice_set c.words word left;
    tabs = slice_set c.tabs id (after_step c.base (table_in c).claims tab new note);
  }

-- A whole schedule: at each of its places the tabulator makes one step, or has nothing left to do.
abbrev pub Runs : Casting → List ℕ → Casting → Type 0
Runs = Follows Steps IsDoneAt

-- ---- at the end

-- Once all tabulators are done the phase has its outcome, and the cells are the layout of the set after it.
pub record HasEnded (c : Casting) : Type 0 where
  pub outcome : CastOutcome c.limit c.base (answers_in c) (set_after c)
  pub layout : cells_in c ≡ layout_of (home_of c.bits c.salt) (2 ^ c.bits + c.limit) (set_after c)
