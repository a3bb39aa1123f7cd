-- What holds of a withdrawing phase at every moment, and the measure that each step lowers.
use Rattle.std.specs.Prelude.{◌≡◌, ◌≢◌, ℕ, ◌-◌, ◌<◌, ◌≤◌, ⊤, Bool, true, false, List, [], ◌∷◌, ◌++◌, length, take, map, filter, All, AllPairs, Contains, Some, slice_get, slice_index}
use Rattle.step_core.specs.Withdrawing.{Withdrawer, Withdrawing, base_in, count_in, home_in}
use Rattle.store_spec.specs.Measure.{Falls}
use Rattle.store_spec.specs.WithdrawInvariant.{WithdrawInvariant}
use Rattle.store_spec.specs.WithdrawPhase.{IsRightWithdrawal, MayBeWithdrawnBefore, Withdrawal, WithdrawReply, is_withdrawn}
use Rattle.store_spec.specs.WithdrawPhase.WithdrawReply.{Withdrawn, Gone, Absent}
use Rattle.store_spec.specs.WithdrawStep.{WithdrawState, WithdrawView, withdraw_measure}
use Rattle.store_spec.specs.WithdrawStep.WithdrawState.{Rest, Chosen}

-- ---- the measure

-- the numbers that were not taken up
abbrev pub not_begun : WithdrawState → ℕ → ℕ
not_begun Rest left = left
not_begun state left = left - 1

abbrev pub tab_measure : ℕ → Withdrawer → List ℕ
tab_measure cells tab = not_begun tab.state (length tab.left) ∷ withdraw_measure cells tab.state

-- the measure of the withdrawer at `id` falls
pub record FallsAt (w : Withdrawing) (id : ℕ) (now : Withdrawing) : Type 0 where
  pub tab : Withdrawer
  pub stands : slice_get w.tabs id ≡ Some tab
  pub tab_now : Withdrawer
  pub stands_now : slice_get now.tabs id ≡ Some tab_now
  pub falls : Falls (tab_measure (count_in w) tab_now) (tab_measure (count_in w) tab)

-- ---- what holds at every moment

abbrev pub is_gone : WithdrawReply → Bool
is_gone Withdrawn = false
is_gone Gone = true
is_gone Absent = false

-- the numbers with a reply of some kind
abbrev pub numbers_that : (WithdrawReply → Bool) → List Withdrawal → List ℕ
numbers_that such answers = map (λ a. a.number) (filter (λ a. such a.reply) answers)

-- the number whose removal was begun and is not answered yet
abbrev pub begun_now : WithdrawState → List ℕ → List ℕ
begun_now Rest left = []
begun_now (Chosen x place) left = []
begun_now state left = take 1 left

-- a withdrawer as the withdrawing invariant sees it
abbrev pub view_of : Withdrawer → WithdrawView
view_of tab = record {
  state = tab.state;
  begun = numbers_that is_withdrawn tab.answers ++ begun_now tab.state tab.left;
  gone = numbers_that is_gone tab.answers;
}

-- The number that stands first: at rest it is held; on the walk it is the one that is chosen; and later there is one.
abbrev pub IsNext : List ℕ → WithdrawState → List ℕ → Type 0
IsNext held Rest [] = ⊤
IsNext held Rest (x ∷ xs) = Contains held x
IsNext held (Chosen y place) left = (0 < length left) × (slice_index left 0 ≡ y)
IsNext held state left = 0 < length left

-- each answer is right and in its order, and what the withdrawer is about was not found gone
pub record IsWithdrawer (held : List ℕ) (tab : Withdrawer) : Type 0 where
  pub next : IsNext held tab.state tab.left
  pub answers : All (λ a. IsRightWithdrawal held a.number a.reply) tab.answers
  pub in_order : AllPairs MayBeWithdrawnBefore tab.answers
  pub not_gone : tab.state ≢ Rest → All (λ a. a.number ≡ slice_index tab.left 0 → a.reply ≢ Gone) tab.answers

-- The set at the opening is a set within the limit, the withdrawing invariant holds of the words and the withdrawers,
-- and each withdrawer answers its list in order.
pub record IsWithdrawing (w : Withdrawing) : Type 0 where
  pub few_bits : w.bits ≤ 16
  pub within_limit : length w.held ≤ w.limit
  pub some : All (λ x. x ≢ 0) w.held
  pub distinct : AllPairs (λ a b. a ≢ b) w.held
  pub invariant : WithdrawInvariant (home_in w) (base_in w) w.words (map view_of w.tabs)
  pub tabs : All (IsWithdrawer w.held) w.tabs
