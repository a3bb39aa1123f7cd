-- A withdrawing phase that is made step by step: withdrawers, each with a list of numbers, on shared words.
use Rattle.std.specs.Prelude.{◌≡◌, ℕ, ◌+◌, ◌^◌, ◌==◌, if◌then◌else◌, List, [], ◌∷◌, ◌++◌, length, take, drop, map, replicate, Some, slice_get, slice_index, slice_set}
use Rattle.std.specs.List.{list_any}
use Rattle.std.specs.Option.{IsSomeAnd, option_map_or}
use Rattle.step_core.specs.Schedule.{Follows}
use Rattle.store_spec.specs.Home.{home_of}
use Rattle.store_spec.specs.Layout.{ascending, layout_of}
use Rattle.store_spec.specs.WithdrawPhase.{Withdrawal, WithdrawOutcome, WithdrawReply, listed, without}
use Rattle.store_spec.specs.WithdrawPhase.WithdrawReply.{Withdrawn, Gone, Absent}
use Rattle.store_spec.specs.WithdrawStep as notes
use Rattle.store_spec.specs.WithdrawStep.{WithdrawMove, WithdrawNote, WithdrawState}
use Rattle.store_spec.specs.WithdrawStep.WithdrawState.{Rest}

-- A withdrawer: its state, the numbers of its list that are answered, and those that are not. Of these the first is
-- the one that it is about, unless it is at rest.
pub record Withdrawer : Type 0 where
  pub state : WithdrawState
  pub answers : List Withdrawal
  pub left : List ℕ

-- the homes, the most numbers that the set may have, the set at the opening in ascending order, the words, and the
-- withdrawers
pub record Withdrawing : Type 0 where
  pub bits : ℕ
  pub salt : ℕ
  pub limit : ℕ
  pub held : List ℕ
  pub words : List ℕ
  pub tabs : List Withdrawer

abbrev pub home_in : Withdrawing → ℕ → ℕ
home_in w = home_of w.bits w.salt

-- a cell for each home and each number
abbrev pub count_in : Withdrawing → ℕ
count_in w = 2 ^ w.bits + w.limit

-- the cells at the opening
abbrev pub base_in : Withdrawing → List ℕ
base_in w = layout_of (home_in w) (count_in w) w.held

abbrev pub cells_in : Withdrawing → List ℕ
cells_in w = take (count_in w) w.words

abbrev pub answers_in : Withdrawing → List (List Withdrawal)
answers_in w = map (λ tab. tab.answers) w.tabs

-- the list of a withdrawer: the numbers that are answered, and then those that are not
abbrev pub list_of : Withdrawer → List ℕ
list_of tab = map (λ a. a.number) tab.answers ++ tab.left

abbrev pub lists_in : Withdrawing → List (List ℕ)
lists_in w = map list_of w.tabs

-- the numbers that are answered, list by list
abbrev pub answered_in : Withdrawing → List (List ℕ)
answered_in w = map (λ tab. map (λ a. a.number) tab.answers) w.tabs

-- ---- numbers that need no step

-- the answers to the numbers that stand first, as far as they are not held
abbrev pub absent_first : List ℕ → List ℕ → List Withdrawal
absent_first held [] = []
absent_first held (x ∷ xs) = if list_any (λ n. n == x) held then [] else record { number = x; reply = Absent } ∷ absent_first held xs

-- a withdrawer at rest answers them as soon as they stand first
abbrev pub caught_up : List ℕ → Withdrawer → Withdrawer
caught_up held tab =
    let absent = absent_first held tab.left in
    record { state = tab.state; answers = tab.answers ++ absent; left = drop (length absent) tab.left }

-- ---- the opening

abbrev pub opened_tab : List ℕ → List ℕ → Withdrawer
opened_tab held list = caught_up held (record { state = Rest; answers = []; left = list })

abbrev pub opened : ℕ → ℕ → ℕ → List ℕ → List (List ℕ) → Withdrawing
opened bits salt limit start lists =
    let cells = 2 ^ bits + limit in
    record {
      bits = bits;
      salt = salt;
      limit = limit;
      held = ascending start;
      words = layout_of (home_of bits salt) cells start ++ replicate cells 0;
      tabs = map (opened_tab (ascending start)) lists;
    }

-- ---- steps

-- nothing is left to do
abbrev pub IsDone : Withdrawer → Type 0
IsDone tab = (tab.state ≡ Rest) × (tab.left ≡ [])

abbrev pub IsDoneAt : Withdrawing → ℕ → Type 0
IsDoneAt w id = IsSomeAnd (slice_get w.tabs id) IsDone

-- the number of the next step: at rest, the one that stands first
abbrev pub next_number : WithdrawState → List ℕ → ℕ
next_number Rest left = slice_index left 0
next_number state left = notes.withdraw_number state

-- the number that stands first is answered
abbrev pub answered : WithdrawReply → Withdrawer → Withdrawer
answered reply tab = record {
  state = tab.state;
  answers = tab.answers ++ record { number = slice_index tab.left 0; reply = reply } ∷ [];
  left = drop 1 tab.left;
}

-- a withdrawer after a step to this state, with this note, which tells the reply if there is one
abbrev pub after_step : List ℕ → Withdrawer → WithdrawState → WithdrawNote → Withdrawer
after_step held tab new notes.Quiet = record { state = new; answers = tab.answers; left = tab.left }
after_step held tab new notes.Begun = record { state = new; answers = tab.answers; left = tab.left }
after_step held tab new notes.Gone = caught_up held (answered Gone (record { state = new; answers = tab.answers; left = tab.left }))
after_step held tab new notes.Done = caught_up held (answered Withdrawn (record { state = new; answers = tab.answers; left = tab.left }))

-- the withdrawer at `id` makes one step, one row of the table of withdrawing, and all else stays
pub record Steps (w : Withdrawing) (id : ℕ) (now : Withdrawing) : Type 0 where
  pub tab : Withdrawer
  pub acts : slice_get w.tabs id ≡ Some tab
  pub word : ℕ
  pub left : ℕ
  pub new : WithdrawState
  pub note : WithdrawNote
  pub move : WithdrawMove (home_in w) (base_in w) tab.state (next_number tab.state tab.left) word (slice_index w.words word) left new note
  pub is : now ≡ record {
    bits = w.bits;
    salt = w.salt;
    limit = w.limit;
    held = w.held;
    words = slice_set w.words word left;
    tabs = slice_set w.tabs id (after_step w.held tab new note);
  }

-- A whole schedule: at each of its places the withdrawer makes one step, or has nothing left to do.
abbrev pub Runs : Withdrawing → List ℕ → Withdrawing → Type 0
Runs = Follows Steps IsDoneAt

-- ---- at the end

-- All withdrawers are done: the phase has this outcome, and the cells are the layout of the set after it.
pub record EndsWith (w : Withdrawing) (after : List ℕ) : Type 0 where
  pub outcome : WithdrawOutcome w.held (answers_in w) after
  pub layout : cells_in w ≡ layout_of (home_in w) (count_in w) after

-- the phase has ended with the set that was held without the listed numbers
abbrev pub HasEnded : Withdrawing → Type 0
HasEnded w = EndsWith w (without w.held (listed (answers_in w)))

-- the replies of the withdrawer at `id`, as far as it has answered
abbrev pub replies_at : Withdrawing → ℕ → List WithdrawReply
replies_at w id = option_map_or (λ tab. map (λ a. a.reply) tab.answers) (slice_get w.tabs id) []
