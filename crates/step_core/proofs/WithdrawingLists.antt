-- The numbers that a withdrawer has answered, and then those that are left, are its list, whatever steps are made.
use Rattle.std.proofs.Common.{◌≡◌, ◌==◌, true, false, ℕ, ◌<◌, ⊎_elim, List, [], ◌∷◌, ◌++◌, length, get_or, set, drop, map, refl, sym, ap, ◌∙◌, subst, arith}
use Rattle.store_spec.proofs.Common.{All, All-head, All-tail, FirstRow, WithdrawMove, WithdrawNote, WithdrawRow, WithdrawState, Withdrawal, append-nil, append_assoc, ascending, began, begins, cases_Bool, chose, emptied, found_candidate, found_gone, found_lower_candidate, found_owed, get_or_from_slice_get, goes_on, kept_candidate, list_any, looked_higher, looked_lower, lost, map-append, map-set, refilled, set-get_or, walked_on}
use Rattle.step_core.proofs.Schedules.{runs_keep}
use Rattle.step_core.proofs.Sets.{at_place, stands-map}
use Rattle.step_core.proofs.WithdrawingAnswers.{absent_on, absent_stops}
use Rattle.step_core.specs.Withdrawing.{IsDone, IsDoneAt, Runs, Steps, Withdrawer, Withdrawing, absent_first, after_step, answered, answered_in, base_in, home_in, list_of, lists_in, next_number, opened, opened_tab, caught_up}
use Rattle.step_core.specs.WithdrawingInvariant.{IsNext, IsWithdrawer, IsWithdrawing}
use Rattle.step_core.proofs.WithdrawingSteps.{first_held, steps_keep}
use Rattle.store_spec.specs.WithdrawPhase as reply
use Rattle.store_spec.specs.WithdrawStep.WithdrawState.{Rest}

abbrev numbers : List Withdrawal → List ℕ
numbers answers = map (λ (a : Withdrawal). a.number) answers

-- ---- numbers that need no step

absent_numbers : (held xs : List ℕ) → numbers (absent_first held xs) ++ drop (length (absent_first held xs)) xs ≡ xs
absent_numbers held [] = refl
absent_numbers held (x ∷ xs) =
    let Kept : List Withdrawal → Type 0 = λ l. numbers l ++ drop (length l) (x ∷ xs) ≡ x ∷ xs in
    ⊎_elim
    (λ (found : list_any (λ n. n == x) held ≡ true). subst Kept (sym (absent_stops held x xs found)) refl)
    (λ (none : list_any (λ n. n == x) held ≡ false). subst Kept (sym (absent_on held x xs none)) (ap (λ l. x ∷ l) (absent_numbers held xs)))
    (cases_Bool (list_any (λ n. n == x) held))

caught_up_list : (held : List ℕ) (tab : Withdrawer) → list_of (caught_up held tab) ≡ list_of tab
caught_up_list held tab =
    let more = absent_first held tab.left in
    ap (λ l. l ++ drop (length more) tab.left) (map-append (λ (a : Withdrawal). a.number) tab.answers more)
    ∙ append_assoc (numbers tab.answers) (numbers more) (drop (length more) tab.left)
    ∙ ap (λ l. numbers tab.answers ++ l) (absent_numbers held tab.left)

-- ---- a step

answered_list : (given : reply.WithdrawReply) (state : WithdrawState) (answers : List Withdrawal) (left : List ℕ) → 0 < length left → list_of (answered given (record { state = state; answers = answers; left = left })) ≡ numbers answers ++ left
answered_list given state answers [] some = absurd (omega arith)
answered_list given state answers (x ∷ xs) some =
    ap (λ l. l ++ xs) (map-append (λ (a : Withdrawal). a.number) answers (record { number = x; reply = given } ∷ []))
    ∙ append_assoc (numbers answers) (x ∷ []) xs

module _ (held : List ℕ) (answers : List Withdrawal) (left : List ℕ) where
  abbrev tab_in : WithdrawState → Withdrawer
  tab_in state = record { state = state; answers = answers; left = left }

  given_list : (given : reply.WithdrawReply) → 0 < length left → list_of (caught_up held (answered given (tab_in Rest))) ≡ numbers answers ++ left
  given_list given some = caught_up_list held (answered given (tab_in Rest)) ∙ answered_list given Rest answers left some

  row_list : (home : ℕ → ℕ) (from : WithdrawState) (word found leaves : ℕ) (new : WithdrawState) (note : WithdrawNote) → WithdrawRow home from word found leaves new note → IsNext held from left → list_of (after_step held (tab_in from) new note) ≡ numbers answers ++ left
  row_list home _ _ _ _ _ _ (walked_on less) next = refl
  row_list home _ _ _ _ _ _ (began stops) next = refl
  row_list home _ _ _ _ _ _ found_owed next = refl
  row_list home _ _ _ _ _ _ (looked_lower other) next = refl
  row_list home _ _ _ _ _ _ (looked_higher misfit) next = refl
  row_list home _ _ _ _ _ _ (found_candidate fits) next = refl
  row_list home _ _ _ _ _ _ (found_lower_candidate above fits) next = refl
  row_list home _ _ _ _ _ _ (kept_candidate above misfit) next = refl
  row_list home _ _ _ _ _ _ emptied next = given_list reply.Withdrawn next
  row_list home _ _ _ _ _ _ (refilled some) next = refl
  row_list home _ _ _ _ _ _ (lost other) next = refl

  first_list : (home : ℕ → ℕ) (x found : ℕ) (new : WithdrawState) (note : WithdrawNote) → FirstRow home x found new note → 0 < length left → list_of (after_step held (tab_in Rest) new note) ≡ numbers answers ++ left
  first_list home x _ _ _ found_gone some = given_list reply.Gone some
  first_list home x _ _ _ chose some = refl

  move_list : (home : ℕ → ℕ) (base : List ℕ) (from : WithdrawState) (number word found leaves : ℕ) (new : WithdrawState) (note : WithdrawNote) → number ≡ next_number from left → WithdrawMove home base from number word found leaves new note → IsNext held from left → list_of (after_step held (tab_in from) new note) ≡ numbers answers ++ left
  move_list home base _ _ _ _ _ _ _ e (begins {x} {cell} {found} {new} {note} seated row) next =
      first_list home x found new note row (first_held held left next (λ z. seated.some (e ∙ z))).0
  move_list home base _ _ _ _ _ _ _ e (goes_on {state} {cell} {found} {left = leaves} {new} {note} row) next = row_list home state cell found leaves new note row next

pub steps_list : (w : Withdrawing) (id : ℕ) (now : Withdrawing) → IsWithdrawing w → Steps w id now → lists_in now ≡ lists_in w
steps_list w id now h s =
    let own = at_place (IsWithdrawer w.held) w.tabs id s.tab s.acts h.tabs in
    let lists = map list_of w.tabs in
    ap lists_in s.is
    ∙ map-set list_of w.tabs id (after_step w.held s.tab s.new s.note)
    ∙ ap (set lists id) (move_list w.held s.tab.answers s.tab.left (home_in w) (base_in w) s.tab.state (next_number s.tab.state s.tab.left) s.word (get_or w.words s.word 0) s.left s.new s.note refl s.move own.next
    ∙ sym (get_or_from_slice_get lists id (list_of s.tab) (list_of s.tab) (stands-map list_of w.tabs id s.tab s.acts)))
    ∙ set-get_or lists id (list_of s.tab)

-- ---- a phase

opened_each : (held : List ℕ) (lists : List (List ℕ)) → map list_of (map (opened_tab held) lists) ≡ lists
opened_each held [] = refl
opened_each held (list ∷ lists) =
    ap (λ l. l ∷ map list_of (map (opened_tab held) lists)) (caught_up_list held (record { state = Rest; answers = []; left = list }))
    ∙ ap (λ ls. list ∷ ls) (opened_each held lists)

pub opened_lists : (bits salt limit : ℕ) (start : List ℕ) (lists : List (List ℕ)) → lists_in (opened bits salt limit start lists) ≡ lists
opened_lists bits salt limit start lists = opened_each (ascending start) lists

pub runs_list : (w : Withdrawing) (ids : List ℕ) (end : Withdrawing) → Runs w ids end → IsWithdrawing w → lists_in end ≡ lists_in w
runs_list w ids end run h =
    (runs_keep Steps IsDoneAt (λ now. IsWithdrawing now × (lists_in now ≡ lists_in w))
    (λ now id next kept step. (steps_keep now id next kept.0 step, steps_list now id next kept.0 step ∙ kept.1)) w ids end (h, refl) run).1

-- once nothing is left the whole list is answered
answered_each : (tabs : List Withdrawer) → All IsDone tabs → map (λ (tab : Withdrawer). numbers tab.answers) tabs ≡ map list_of tabs
answered_each [] done = refl
answered_each (tab ∷ tabs) done =
    ap (λ l. l ∷ map (λ (tab : Withdrawer). numbers tab.answers) tabs)
    (sym (append-nil (numbers tab.answers)) ∙ ap (λ l. numbers tab.answers ++ l) (sym (All-head IsDone tab tabs done).1))
    ∙ ap (λ ls. list_of tab ∷ ls) (answered_each tabs (All-tail IsDone tab tabs done))

pub all_answered : (w : Withdrawing) → All IsDone w.tabs → answered_in w ≡ lists_in w
all_answered w done = answered_each w.tabs done
