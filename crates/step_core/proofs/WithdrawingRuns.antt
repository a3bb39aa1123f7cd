-- Whole schedules of a withdrawing phase: what holds at every moment is kept, and a schedule has one run.
use Rattle.std.proofs.Common.{◌≡◌, ◌≢◌, ℕ, ◌+◌, ◌⊎◌, inl, inr, ⊎_elim, List, length, get_or, set, Option, Some, refl, sym, ap, ◌∙◌, subst}
use Rattle.store_spec.proofs.Common.{Chosen, Down, FirstRow, Gone, IsOrdered, IsSomeAnd, Owing, Quiet, StandsInBase, Up, WithdrawMove, WithdrawNote, WithdrawRow, WithdrawState, began, begins, chose, emptied, found_candidate, found_gone, found_lower_candidate, found_owed, goes_on, kept_candidate, looked_higher, looked_lower, lost, refilled, slice_get, walked_on, withdraw_act, word_of}
use Rattle.step_core.proofs.Schedules as schedules
use Rattle.step_core.proofs.WithdrawFirst.{one_place}
use Rattle.step_core.proofs.WithdrawOneRow.{one_row}
use Rattle.step_core.proofs.WithdrawReady.{down_word}
use Rattle.step_core.proofs.WithdrawingSteps.{steps_keep}
use Rattle.step_core.specs.Withdrawing.{IsDone, IsDoneAt, Runs, Steps, Withdrawer, Withdrawing, after_step, base_in, home_in, next_number}
use Rattle.step_core.specs.WithdrawingInvariant.{IsWithdrawing}
use Rattle.store_spec.specs.WithdrawStep.WithdrawState.{Rest}

pub runs_keep : (w : Withdrawing) (ids : List ℕ) (end : Withdrawing) → Runs w ids end → IsWithdrawing w → IsWithdrawing end
runs_keep w ids end run h = schedules.runs_keep Steps IsDoneAt IsWithdrawing steps_keep w ids end h run

-- ---- one move

first_row : (home : ℕ → ℕ) (x found : ℕ) (a b : WithdrawState) (m n : WithdrawNote) → FirstRow home x found a m → FirstRow home x found b n → (a ≡ b) × (m ≡ n)
first_row home x _ _ b _ n found_gone two = only_gone b n two
  where
    only_gone : (b : WithdrawState) (n : WithdrawNote) → FirstRow home x 1 b n → (Rest ≡ b) × (Gone ≡ n)
    only_gone _ _ found_gone = (refl, refl)
first_row home x _ _ b _ n chose two = only_chosen b n two
  where
    only_chosen : (b : WithdrawState) (n : WithdrawNote) → FirstRow home x 0 b n → (Chosen x (home x) ≡ b) × (Quiet ≡ n)
    only_chosen _ _ chose = (refl, refl)

-- at rest no row goes on
no_row : (home : ℕ → ℕ) (from : WithdrawState) (word found left : ℕ) (new : WithdrawState) (note : WithdrawNote) → WithdrawRow home from word found left new note → from ≢ Rest
no_row home _ _ _ _ _ _ (walked_on less) e = cc
no_row home _ _ _ _ _ _ (began stops) e = cc
no_row home _ _ _ _ _ _ found_owed e = cc
no_row home _ _ _ _ _ _ (looked_lower other) e = cc
no_row home _ _ _ _ _ _ (looked_higher misfit) e = cc
no_row home _ _ _ _ _ _ (found_candidate fits) e = cc
no_row home _ _ _ _ _ _ (found_lower_candidate above fits) e = cc
no_row home _ _ _ _ _ _ (kept_candidate above misfit) e = cc
no_row home _ _ _ _ _ _ emptied e = cc
no_row home _ _ _ _ _ _ (refilled some) e = cc
no_row home _ _ _ _ _ _ (lost other) e = cc

-- what a first move is, by its state
record Begins (home : ℕ → ℕ) (base : List ℕ) (x word found left : ℕ) (new : WithdrawState) (note : WithdrawNote) : Type 0 where
  cell : ℕ
  seated : StandsInBase base x cell
  is : word ≡ length base + cell
  puts : left ≡ 1
  row : FirstRow home x found new note

first_of : (home : ℕ → ℕ) (base : List ℕ) (from : WithdrawState) (x word found left : ℕ) (new : WithdrawState) (note : WithdrawNote) → WithdrawMove home base from x word found left new note → from ≡ Rest → Begins home base x word found left new note
first_of home base _ _ _ _ _ _ _ (begins {x} {cell} {found} {new} {note} seated row) e = record { cell = cell; seated = seated; is = refl; puts = refl; row = row }
first_of home base _ _ _ _ _ _ _ (goes_on {state} {cell} {found} {left} {new} {note} row) e = absurd (no_row home state cell found left new note row e)

row_of : (home : ℕ → ℕ) (base : List ℕ) (from : WithdrawState) (x word found left : ℕ) (new : WithdrawState) (note : WithdrawNote) → WithdrawMove home base from x word found left new note → from ≢ Rest → WithdrawRow home from word found left new note
row_of home base _ _ _ _ _ _ _ (begins {x} {cell} {found} {new} {note} seated row) moves = absurd (moves refl)
row_of home base _ _ _ _ _ _ _ (goes_on {state} {cell} {found} {left} {new} {note} row) moves = row

row_word : (home : ℕ → ℕ) (from : WithdrawState) (word found left : ℕ) (new : WithdrawState) (note : WithdrawNote) → WithdrawRow home from word found left new note → word ≡ word_of (withdraw_act from)
row_word home _ _ _ _ _ _ (walked_on less) = refl
row_word home _ _ _ _ _ _ (began stops) = refl
row_word home _ _ _ _ _ _ found_owed = refl
row_word home _ _ _ _ _ _ (looked_lower other) = refl
row_word home _ _ _ _ _ _ (looked_higher misfit) = refl
row_word home _ _ _ _ _ _ (found_candidate fits) = refl
row_word home _ _ _ _ _ _ (found_lower_candidate {x} {bound} {place} {c} {source} above fits) = sym (down_word x bound (place + 1) c source)
row_word home _ _ _ _ _ _ (kept_candidate {x} {bound} {place} {c} {source} above misfit) = sym (down_word x bound (place + 1) c source)
row_word home _ _ _ _ _ _ (emptied {x} {bound} {source}) = sym (down_word x bound bound 0 source)
row_word home _ _ _ _ _ _ (refilled {x} {bound} {c} {source} some) = sym (down_word x bound bound c source)
row_word home _ _ _ _ _ _ (lost {x} {bound} {c} {source} other) = sym (down_word x (bound + 1) (bound + 1) c source)

at_rest_or_not : (s : WithdrawState) → (s ≡ Rest) ⊎ (s ≢ Rest)
at_rest_or_not Rest = inl refl
at_rest_or_not (Chosen x place) = inr (λ e. cc)
at_rest_or_not (Owing x bound) = inr (λ e. cc)
at_rest_or_not (Up x bound place) = inr (λ e. cc)
at_rest_or_not (Down x bound place c source) = inr (λ e. cc)

module _ (home : ℕ → ℕ) (base words : List ℕ) (ordered : IsOrdered home base) (from : WithdrawState) (x v w l k : ℕ) (a b : WithdrawState) (m n : WithdrawNote) (one : WithdrawMove home base from x v (get_or words v 0) l a m) (two : WithdrawMove home base from x w (get_or words w 0) k b n) where
  one_word : v ≡ w
  one_word = ⊎_elim
      (λ (e : from ≡ Rest).
      let f = first_of home base from x v (get_or words v 0) l a m one e in
      let g = first_of home base from x w (get_or words w 0) k b n two e in
      f.is ∙ ap (λ c. length base + c) (one_place home base x f.cell g.cell ordered f.seated.some f.seated.stands g.seated.stands) ∙ sym g.is)
      (λ (moves : from ≢ Rest).
      row_word home from v (get_or words v 0) l a m (row_of home base from x v (get_or words v 0) l a m one moves)
      ∙ sym (row_word home from w (get_or words w 0) k b n (row_of home base from x w (get_or words w 0) k b n two moves)))
      (at_rest_or_not from)

  one_move : (v ≡ w) × (l ≡ k) × (a ≡ b) × (m ≡ n)
  one_move =
      let found : get_or words w 0 ≡ get_or words v 0 = ap (λ i. get_or words i 0) (sym one_word) in
      ⊎_elim
      (λ (e : from ≡ Rest).
      let f = first_of home base from x v (get_or words v 0) l a m one e in
      let g = first_of home base from x w (get_or words w 0) k b n two e in
      let rest = first_row home x (get_or words v 0) a b m n f.row (subst (λ (y : ℕ). FirstRow home x y b n) found g.row) in
      (one_word, f.puts ∙ sym g.puts, rest.0, rest.1))
      (λ (moves : from ≢ Rest).
      one_row home from v w (get_or words v 0) l k a b m n (row_of home base from x v (get_or words v 0) l a m one moves)
      (subst (λ (y : ℕ). WithdrawRow home from w y k b n) found (row_of home base from x w (get_or words w 0) k b n two moves)))
      (at_rest_or_not from)

-- ---- one run

same_tab : (w : Withdrawing) (id : ℕ) (s t : Withdrawer) → slice_get w.tabs id ≡ Some s → slice_get w.tabs id ≡ Some t → s ≡ t
same_tab w id s t e f = cc

-- what is done makes no step
done_stays : (w next : Withdrawing) (id : ℕ) → Steps w id next → ¬ IsDoneAt w id
done_stays w next id s done =
    let own : IsDone s.tab = subst (λ (o : Option Withdrawer). IsSomeAnd o IsDone) s.acts done in
    let f = first_of (home_in w) (base_in w) s.tab.state (next_number s.tab.state s.tab.left) s.word (get_or w.words s.word 0) s.left s.new s.note s.move own.0 in
    f.seated.some (ap (λ t. next_number t s.tab.left) own.0 ∙ ap (λ l. get_or l 0 0) own.1)

one_step : (w a b : Withdrawing) (id : ℕ) → IsWithdrawing w → Steps w id a → Steps w id b → a ≡ b
one_step w a b id h s t =
    let tabs : t.tab ≡ s.tab = same_tab w id t.tab s.tab t.acts s.acts in
    let second = subst (λ (u : Withdrawer). WithdrawMove (home_in w) (base_in w) u.state (next_number u.state u.left) t.word (get_or w.words t.word 0) t.left t.new t.note) tabs t.move in
    let same = one_move (home_in w) (base_in w) w.words h.invariant.begins.ordered s.tab.state (next_number s.tab.state s.tab.left) s.word t.word s.left t.left s.new t.new s.note t.note s.move second in
    let now : List ℕ → List Withdrawer → Withdrawing = λ words tabs. record { bits = w.bits; salt = w.salt; limit = w.limit; held = w.held; words = words; tabs = tabs } in
    s.is
    ∙ ap (λ i. now (set w.words i s.left) (set w.tabs id (after_step w.held s.tab s.new s.note))) same.0
    ∙ ap (λ l. now (set w.words t.word l) (set w.tabs id (after_step w.held s.tab s.new s.note))) same.1
    ∙ ap (λ n. now (set w.words t.word t.left) (set w.tabs id (after_step w.held s.tab n s.note))) same.2
    ∙ ap (λ n. now (set w.words t.word t.left) (set w.tabs id (after_step w.held s.tab t.new n))) same.3
    ∙ ap (λ u. now (set w.words t.word t.left) (set w.tabs id (after_step w.held u t.new t.note))) (sym tabs)
    ∙ sym t.is

pub one_run : (w : Withdrawing) (ids : List ℕ) (a b : Withdrawing) → IsWithdrawing w → Runs w ids a → Runs w ids b → a ≡ b
one_run = schedules.one_run Steps IsDoneAt IsWithdrawing steps_keep one_step done_stays
