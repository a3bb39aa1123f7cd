-- One step of a withdrawing phase keeps what holds at every moment, and leaves the withdrawer less to do.
use Rattle.std.proofs.Common.{◌≡◌, ◌≢◌, true, ℕ, ◌+◌, ◌-◌, ◌<◌, ◌≤◌, inl, inr, ⊎_elim, Some, slice_get, List, [], ◌∷◌, ◌++◌, length, get_or, set, take, drop, map, refl, sym, ap, ◌∙◌, subst, arith}
use Rattle.store_spec.proofs.Common.{All, All-contains, All-weaker, AllPairs, Chosen, Contains, Contains-append_right, Down, Falls, FirstRow, IsOfBase, IsRightWithdrawal, IsSound, MayBeWithdrawnBefore, Owing, StandsInBase, Up, WithdrawInvariant, WithdrawNote, WithdrawRow, WithdrawState, WithdrawView, Withdrawal, append-nil, began, begins, cases_lt, cell_words, chose, emptied, found_candidate, found_gone, found_lower_candidate, found_owed, get_or-map, get_or-set_same, get_or_from_slice_get, goes_on, is_withdrawn, kept_candidate, length-drop, length-map, length-set, looked_higher, looked_lower, lost, map-set, refilled, slice_get-get_or, slice_get_within, walked_on, withdraw_number, withdraw_view_after}
use Rattle.step_core.proofs.WithdrawReady.{found_taken, row_falls, sound_of}
use Rattle.step_core.proofs.WithdrawRows.{keeps_step}
use Rattle.step_core.proofs.WithdrawingAnswers.{answers_caught_up, next_caught_up, numbers-contains, numbers-caught_up, pairs_caught_up}
use Rattle.step_core.proofs.WithdrawingBase.{base_layout, of_base_held}
use Rattle.step_core.proofs.WordSets.{all_after_set}
use Rattle.step_core.specs.Withdrawing.{Steps, Withdrawer, Withdrawing, absent_first, after_step, answered, base_in, count_in, home_in, next_number, caught_up}
use Rattle.step_core.specs.WithdrawingInvariant.{FallsAt, IsNext, IsWithdrawer, IsWithdrawing, begun_now, is_gone, numbers_that, tab_measure, view_of}
use Rattle.store_spec.specs.WithdrawPhase as reply
use Rattle.store_spec.specs.WithdrawStep.{WithdrawMove, WithdrawStep}
use Rattle.store_spec.specs.WithdrawStep.WithdrawState.{Rest}

-- the first number alone
take_first : (left : List ℕ) → 0 < length left → take 1 left ≡ get_or left 0 0 ∷ []
take_first [] some = absurd (omega arith)
take_first (x ∷ left) some = refl

-- ---- what a move does to the view

same_view : (state : WithdrawState) (b c g h : List ℕ) → b ≡ c → g ≡ h → let one : WithdrawView = record { state = state; begun = b; gone = g } in let two : WithdrawView = record { state = state; begun = c; gone = h } in one ≡ two
same_view state b c g h e f = ap (λ l. record { state = state; begun = l; gone = g }) e ∙ ap (λ l. record { state = state; begun = c; gone = l }) f

module _ (home : ℕ → ℕ) (base held : List ℕ) (answers : List Withdrawal) (left : List ℕ) where
  abbrev view_before : WithdrawState → WithdrawView
  view_before state = view_of (record { state = state; answers = answers; left = left })

  abbrev view_now : WithdrawState → WithdrawState → WithdrawNote → WithdrawView
  view_now from new note = view_of (after_step held (record { state = from; answers = answers; left = left }) new note)

  abbrev withdrawn : List ℕ
  withdrawn = numbers_that is_withdrawn answers

  -- the number that is answered was begun, and stays so
  answered_begun : 0 < length left → numbers_that is_withdrawn ((answers ++ record { number = get_or left 0 0; reply = reply.Withdrawn } ∷ []) ++ absent_first held (drop 1 left)) ++ [] ≡ withdrawn ++ take 1 left
  answered_begun some =
      append-nil _ ∙ numbers-caught_up is_withdrawn held answers (record { number = get_or left 0 0; reply = reply.Withdrawn }) (drop 1 left) refl
      ∙ ap (λ (l : List ℕ). withdrawn ++ l) (sym (take_first left some))

  -- nor was it found gone
  answered_not_gone : numbers_that is_gone ((answers ++ record { number = get_or left 0 0; reply = reply.Withdrawn } ∷ []) ++ absent_first held (drop 1 left)) ≡ numbers_that is_gone answers
  answered_not_gone = numbers-caught_up is_gone held answers (record { number = get_or left 0 0; reply = reply.Withdrawn }) (drop 1 left) refl ∙ append-nil (numbers_that is_gone answers)

  row_view : (from : WithdrawState) (word found leaves : ℕ) (new : WithdrawState) (note : WithdrawNote) → WithdrawRow home from word found leaves new note → IsNext held from left → view_now from new note ≡ withdraw_view_after (view_before from) (withdraw_number from) new note
  row_view _ _ _ _ _ _ (walked_on {x} {place} {word} less) next = refl
  row_view _ _ _ _ _ _ (began {x} {place} {word} stops) next =
      same_view (Owing x place) (withdrawn ++ take 1 left) ((withdrawn ++ []) ++ x ∷ []) (numbers_that is_gone answers) (numbers_that is_gone answers)
      (ap (λ (l : List ℕ). withdrawn ++ l) (take_first left next.0 ∙ ap (λ v. v ∷ []) next.1) ∙ ap (λ (l : List ℕ). l ++ x ∷ []) (sym (append-nil withdrawn)))
      refl
  row_view _ _ _ _ _ _ (found_owed {x} {bound}) next = refl
  row_view _ _ _ _ _ _ (looked_lower {x} {bound} {word} other) next = refl
  row_view _ _ _ _ _ _ (looked_higher {x} {bound} {place} {word} misfit) next = refl
  row_view _ _ _ _ _ _ (found_candidate {x} {bound} {place} {word} fits) next = refl
  row_view _ _ _ _ _ _ (found_lower_candidate {x} {bound} {place} {c} {source} {word} above fits) next = refl
  row_view _ _ _ _ _ _ (kept_candidate {x} {bound} {place} {c} {source} {word} above misfit) next = refl
  row_view _ _ _ _ _ _ (emptied {x} {bound} {source}) next = same_view Rest _ (withdrawn ++ take 1 left) _ (numbers_that is_gone answers) (answered_begun next) answered_not_gone
  row_view _ _ _ _ _ _ (refilled {x} {bound} {c} {source} some) next = refl
  row_view _ _ _ _ _ _ (lost {x} {bound} {c} {source} {word} other) next = refl

  first_view : (x found : ℕ) (new : WithdrawState) (note : WithdrawNote) → x ≡ get_or left 0 0 → FirstRow home x found new note → view_now Rest new note ≡ withdraw_view_after (view_before Rest) x new note
  first_view x _ _ _ e found_gone =
      same_view Rest _ (withdrawn ++ []) _ (numbers_that is_gone answers ++ x ∷ [])
      (append-nil _ ∙ numbers-caught_up is_withdrawn held answers (record { number = get_or left 0 0; reply = reply.Gone }) (drop 1 left) refl)
      (numbers-caught_up is_gone held answers (record { number = get_or left 0 0; reply = reply.Gone }) (drop 1 left) refl ∙ ap (λ v. numbers_that is_gone answers ++ v ∷ []) (sym e))
  first_view x _ _ _ e chose = refl

  move_view : (from : WithdrawState) (number word found leaves : ℕ) (new : WithdrawState) (note : WithdrawNote) → number ≡ next_number from left → WithdrawMove home base from number word found leaves new note → IsNext held from left → view_now from new note ≡ withdraw_view_after (view_before from) number new note
  move_view _ _ _ _ _ _ _ e (begins {x} {cell} {found} {new} {note} seated row) next = first_view x found new note e row
  move_view _ _ _ _ _ _ _ e (goes_on {state} {cell} {found} {left = leaves} {new} {note} row) next = row_view state cell found leaves new note row next

-- ---- what a move does to the answers

module _ (held : List ℕ) (answers : List Withdrawal) (left : List ℕ) where
  abbrev tab_in : WithdrawState → Withdrawer
  tab_in state = record { state = state; answers = answers; left = left }

  answered_tab : (given : reply.WithdrawReply) → All (λ a. IsRightWithdrawal held a.number a.reply) answers → AllPairs MayBeWithdrawnBefore answers → IsRightWithdrawal held (get_or left 0 0) given → All (λ b. MayBeWithdrawnBefore b (record { number = get_or left 0 0; reply = given })) answers → IsWithdrawer held (caught_up held (answered given (tab_in Rest)))
  answered_tab given right pairs one before =
      let a : Withdrawal = record { number = get_or left 0 0; reply = given } in
      record {
        next = next_caught_up held (drop 1 left);
        answers = answers_caught_up (λ b. IsRightWithdrawal held b.number b.reply) held answers a (drop 1 left) (λ b absent. subst (λ r. IsRightWithdrawal held b.number r) (sym absent.reply) absent.not_held) right one;
        in_order = pairs_caught_up held answers a (drop 1 left) pairs before;
        not_gone = λ moves. absurd (moves refl);
      }

  -- a step that answers nothing
  going_on : (from new : WithdrawState) → IsWithdrawer held (tab_in from) → from ≢ Rest → IsNext held new left → IsWithdrawer held (tab_in new)
  going_on from new h moves next = record { next = next; answers = h.answers; in_order = h.in_order; not_gone = λ m. h.not_gone moves }

  row_tab : (home : ℕ → ℕ) (from : WithdrawState) (word found leaves : ℕ) (new : WithdrawState) (note : WithdrawNote) → WithdrawRow home from word found leaves new note → IsWithdrawer held (tab_in from) → (begun_now from left ≡ take 1 left → 0 < length left → Contains held (get_or left 0 0)) → IsWithdrawer held (after_step held (tab_in from) new note)
  row_tab home _ _ _ _ _ _ (walked_on {x} {place} {word} less) h done = going_on (Chosen x place) (Chosen x (place + 1)) h (λ e. cc) h.next
  row_tab home _ _ _ _ _ _ (began {x} {place} {word} stops) h done = going_on (Chosen x place) (Owing x place) h (λ e. cc) h.next.0
  row_tab home _ _ _ _ _ _ (found_owed {x} {bound}) h done = going_on (Owing x bound) (Up x bound (bound + 1)) h (λ e. cc) h.next
  row_tab home _ _ _ _ _ _ (looked_lower {x} {bound} {word} other) h done = going_on (Owing x (bound + 1)) (Owing x bound) h (λ e. cc) h.next
  row_tab home _ _ _ _ _ _ (looked_higher {x} {bound} {place} {word} misfit) h done = going_on (Up x bound place) (Up x bound (place + 1)) h (λ e. cc) h.next
  row_tab home _ _ _ _ _ _ (found_candidate {x} {bound} {place} {word} fits) h done = going_on (Up x bound (place + 1)) (Down x bound place word (place + 1)) h (λ e. cc) h.next
  row_tab home _ _ _ _ _ _ (found_lower_candidate {x} {bound} {place} {c} {source} {word} above fits) h done = going_on (Down x bound (place + 1) c source) (Down x bound place word (place + 1)) h (λ e. cc) h.next
  row_tab home _ _ _ _ _ _ (kept_candidate {x} {bound} {place} {c} {source} {word} above misfit) h done = going_on (Down x bound (place + 1) c source) (Down x bound place c source) h (λ e. cc) h.next
  row_tab home _ _ _ _ _ _ (emptied {x} {bound} {source}) h done = answered_tab reply.Withdrawn h.answers h.in_order (done refl h.next)
      (All-weaker (λ b. b.number ≡ get_or left 0 0 → b.reply ≢ reply.Gone) (λ b. MayBeWithdrawnBefore b (record { number = get_or left 0 0; reply = reply.Withdrawn }))
      (λ b not_gone same gone. absurd (not_gone same gone)) answers (h.not_gone (λ e. cc)))
  row_tab home _ _ _ _ _ _ (refilled {x} {bound} {c} {source} some) h done = going_on (Down x bound bound c source) (Owing c source) h (λ e. cc) h.next
  row_tab home _ _ _ _ _ _ (lost {x} {bound} {c} {source} {word} other) h done = going_on (Down x (bound + 1) (bound + 1) c source) (Owing x bound) h (λ e. cc) h.next

  first_tab : (home : ℕ → ℕ) (x found : ℕ) (new : WithdrawState) (note : WithdrawNote) → x ≡ get_or left 0 0 → 0 < length left → Contains held (get_or left 0 0) → FirstRow home x found new note → IsWithdrawer held (tab_in Rest) → (found ≡ 0 → All (λ a. a.number ≡ get_or left 0 0 → a.reply ≢ reply.Gone) answers) → IsWithdrawer held (after_step held (tab_in Rest) new note)
  first_tab home x _ _ _ e some stands found_gone h untaken = answered_tab reply.Gone h.answers h.in_order stands (λ k d lt same gone withdrawn. cc)
  first_tab home x _ _ _ e some stands chose h untaken = record { next = (some, sym e); answers = h.answers; in_order = h.in_order; not_gone = λ m. untaken refl }

-- ---- what a move leaves to do

module _ (held : List ℕ) (answers : List Withdrawal) (left : List ℕ) where
  fewer_left : (given : reply.WithdrawReply) → length (caught_up held (answered given (record { state = Rest; answers = answers; left = left }))).left ≤ length left - 1
  fewer_left given = omega (arith, length-drop (length (absent_first held (drop 1 left))) (drop 1 left), length-drop 1 left)

  row_less : (home : ℕ → ℕ) (base cells : List ℕ) (views : List WithdrawView) (from : WithdrawState) (word found leaves : ℕ) (new : WithdrawState) (note : WithdrawNote) → WithdrawRow home from word found leaves new note → IsSound home base cells views from → Falls (tab_measure (length base) (after_step held (record { state = from; answers = answers; left = left }) new note)) (tab_measure (length base) (record { state = from; answers = answers; left = left }))
  row_less home base cells views _ _ _ _ _ _ (walked_on {x} {place} {word} less) s = inr (refl, row_falls home base cells views _ _ _ _ _ _ (walked_on less) s)
  row_less home base cells views _ _ _ _ _ _ (began {x} {place} {word} stops) s = inr (refl, row_falls home base cells views _ _ _ _ _ _ (began stops) s)
  row_less home base cells views _ _ _ _ _ _ (found_owed {x} {bound}) s = inr (refl, row_falls home base cells views _ _ _ _ _ _ found_owed s)
  row_less home base cells views _ _ _ _ _ _ (looked_lower {x} {bound} {word} other) s = inr (refl, row_falls home base cells views _ _ _ _ _ _ (looked_lower other) s)
  row_less home base cells views _ _ _ _ _ _ (looked_higher {x} {bound} {place} {word} misfit) s = inr (refl, row_falls home base cells views _ _ _ _ _ _ (looked_higher misfit) s)
  row_less home base cells views _ _ _ _ _ _ (found_candidate {x} {bound} {place} {word} fits) s = inr (refl, row_falls home base cells views _ _ _ _ _ _ (found_candidate fits) s)
  row_less home base cells views _ _ _ _ _ _ (found_lower_candidate {x} {bound} {place} {c} {source} {word} above fits) s = inr (refl, row_falls home base cells views _ _ _ _ _ _ (found_lower_candidate {c = c} {source = source} above fits) s)
  row_less home base cells views _ _ _ _ _ _ (kept_candidate {x} {bound} {place} {c} {source} {word} above misfit) s = inr (refl, row_falls home base cells views _ _ _ _ _ _ (kept_candidate above misfit) s)
  row_less home base cells views _ _ _ _ _ _ (emptied {x} {bound} {source}) s =
      let few = fewer_left reply.Withdrawn in
      let now = length (caught_up held (answered reply.Withdrawn (record { state = Rest; answers = answers; left = left }))).left in
      ⊎_elim
      (λ (less : now < length left - 1). inl less)
      (λ (same : length left - 1 ≤ now). inr (let e : now ≡ length left - 1 = omega arith in e, row_falls home base cells views _ _ _ _ _ _ (emptied {x = x} {bound = bound} {source = source}) s))
      (cases_lt now (length left - 1))
  row_less home base cells views _ _ _ _ _ _ (refilled {x} {bound} {c} {source} some) s = inr (refl, row_falls home base cells views _ _ _ _ _ _ (refilled some) s)
  row_less home base cells views _ _ _ _ _ _ (lost {x} {bound} {c} {source} {word} other) s = inr (refl, row_falls home base cells views _ _ _ _ _ _ (lost {c = c} {source = source} other) s)

  first_less : (home : ℕ → ℕ) (cells x found : ℕ) (new : WithdrawState) (note : WithdrawNote) → 0 < length left → FirstRow home x found new note → Falls (tab_measure cells (after_step held (record { state = Rest; answers = answers; left = left }) new note)) (tab_measure cells (record { state = Rest; answers = answers; left = left }))
  first_less home cells x _ _ _ some found_gone = let few = fewer_left reply.Gone in inl (omega arith)
  first_less home cells x _ _ _ some chose = inl (omega arith)

-- at rest the number that stands first is held
pub first_held : (held left : List ℕ) → IsNext held Rest left → get_or left 0 0 ≢ 0 → (0 < length left) × Contains held (get_or left 0 0)
first_held held [] next some = absurd (some refl)
first_held held (x ∷ left) next some = (omega arith, next)

module _ (home : ℕ → ℕ) (base held : List ℕ) (answers : List Withdrawal) (left : List ℕ) where
  abbrev tab_of : WithdrawState → Withdrawer
  tab_of state = record { state = state; answers = answers; left = left }

  abbrev NotGone : Type 0
  NotGone = All (λ a. a.number ≡ get_or left 0 0 → a.reply ≢ reply.Gone) answers

  move_tab : (from : WithdrawState) (number word found leaves : ℕ) (new : WithdrawState) (note : WithdrawNote) → number ≡ next_number from left → WithdrawMove home base from number word found leaves new note → IsWithdrawer held (tab_of from) → (begun_now from left ≡ take 1 left → 0 < length left → Contains held (get_or left 0 0)) → ((cell : ℕ) → StandsInBase base number cell → word ≡ length base + cell → found ≡ 0 → from ≡ Rest → NotGone) → IsWithdrawer held (after_step held (tab_of from) new note)
  move_tab _ _ _ _ _ _ _ e (begins {x} {cell} {found} {new} {note} seated row) h done untaken =
      let first = first_held held left h.next (λ z. seated.some (e ∙ z)) in
      first_tab held answers left home x found new note e first.0 first.1 row h (λ none. untaken cell seated refl none refl)
  move_tab _ _ _ _ _ _ _ e (goes_on {state} {cell} {found} {left = leaves} {new} {note} row) h done untaken = row_tab held answers left home state cell found leaves new note row h done

  move_less : (cells : List ℕ) (views : List WithdrawView) (from : WithdrawState) (number word found leaves : ℕ) (new : WithdrawState) (note : WithdrawNote) → number ≡ next_number from left → WithdrawMove home base from number word found leaves new note → IsNext held from left → IsSound home base cells views from → Falls (tab_measure (length base) (after_step held (tab_of from) new note)) (tab_measure (length base) (tab_of from))
  move_less cells views _ _ _ _ _ _ _ e (begins {x} {cell} {found} {new} {note} seated row) next sound =
      first_less held answers left home (length base) x found new note (first_held held left next (λ z. seated.some (e ∙ z))).0 row
  move_less cells views _ _ _ _ _ _ _ e (goes_on {state} {cell} {found} {left = leaves} {new} {note} row) next sound = row_less held answers left home base cells views state cell found leaves new note row sound

-- ---- the step

module _ (w : Withdrawing) (id : ℕ) (now : Withdrawing) (h : IsWithdrawing w) (s : Steps w id now) where
  abbrev tab : Withdrawer
  tab = s.tab

  abbrev views : List WithdrawView
  views = map view_of w.tabs

  within : id < length w.tabs
  within = slice_get_within w.tabs id s.tab s.acts

  at : get_or w.tabs id s.tab ≡ s.tab
  at = get_or_from_slice_get w.tabs id s.tab s.tab s.acts

  -- what holds of the withdrawer that steps
  own : IsWithdrawer w.held s.tab
  own = subst (IsWithdrawer w.held) at (h.tabs id s.tab within)

  has : slice_get (map view_of w.tabs) id ≡ Some (view_of s.tab)
  has =
      let lt : id < length (map view_of w.tabs) = let short = within in omega (arith, length-map w.tabs view_of) in
      slice_get-get_or (map view_of w.tabs) id (view_of s.tab) lt
      ∙ ap Some (get_or-map view_of w.tabs id s.tab (view_of s.tab) within ∙ ap view_of at)

  abbrev tab_now : Withdrawer
  tab_now = after_step w.held s.tab s.new s.note

  held_of_base : (x : ℕ) → IsOfBase (base_in w) x → Contains w.held x
  held_of_base x of = of_base_held w.bits w.salt w.limit w.held h.few_bits h.within_limit h.some h.distinct x of

  invariant_now : WithdrawInvariant (home_in w) (base_in w) (set w.words s.word s.left) (map view_of (set w.tabs id tab_now))
  invariant_now =
      let view_is : view_of tab_now ≡ withdraw_view_after (view_of s.tab) (next_number s.tab.state s.tab.left) s.new s.note =
      move_view (home_in w) (base_in w) w.held s.tab.answers s.tab.left s.tab.state (next_number s.tab.state s.tab.left) s.word (get_or w.words s.word 0) s.left s.new s.note refl s.move own.next in
      let one : WithdrawStep (home_in w) (base_in w) w.words views id (set w.words s.word s.left) (set views id (withdraw_view_after (view_of s.tab) (next_number s.tab.state s.tab.left) s.new s.note)) = record {
        view = view_of s.tab;
        acts = has;
        number = next_number s.tab.state s.tab.left;
        word = s.word;
        left = s.left;
        new = s.new;
        note = s.note;
        move = s.move;
        words_now = refl;
        view_now = refl;
      } in
      let kept = keeps_step (home_in w) (base_in w) w.words views id (set w.words s.word s.left) (set views id (withdraw_view_after (view_of s.tab) (next_number s.tab.state s.tab.left) s.new s.note)) one h.invariant in
      subst (λ (l : List WithdrawView). WithdrawInvariant (home_in w) (base_in w) (set w.words s.word s.left) l)
      (ap (λ (v : WithdrawView). set views id v) (sym view_is) ∙ sym (map-set view_of w.tabs id tab_now)) kept

  -- what the withdrawer is about is held
  begun_held : begun_now s.tab.state s.tab.left ≡ take 1 s.tab.left → 0 < length s.tab.left → Contains w.held (get_or s.tab.left 0 0)
  begun_held is some =
      let lt = slice_get_within (map view_of w.tabs) id (view_of s.tab) has in
      let all : All (IsOfBase (base_in w)) (view_of s.tab).begun =
      subst (λ (v : WithdrawView). All (IsOfBase (base_in w)) v.begun) (get_or_from_slice_get (map view_of w.tabs) id (view_of s.tab) (view_of s.tab) has) (h.invariant.flags.begun id (view_of s.tab) lt) in
      let among : Contains (begun_now s.tab.state s.tab.left) (get_or s.tab.left 0 0) =
      subst (λ (l : List ℕ). Contains l (get_or s.tab.left 0 0)) (sym (is ∙ take_first s.tab.left some)) (0, omega arith, refl) in
      held_of_base (get_or s.tab.left 0 0)
      (All-contains (IsOfBase (base_in w)) (view_of s.tab).begun (get_or s.tab.left 0 0) all (Contains-append_right (numbers_that is_withdrawn s.tab.answers) (begun_now s.tab.state s.tab.left) (get_or s.tab.left 0 0) among))

  -- a number that was found gone has its flag set
  untaken : (cell : ℕ) → StandsInBase (base_in w) (next_number s.tab.state s.tab.left) cell → s.word ≡ length (base_in w) + cell → get_or w.words s.word 0 ≡ 0 → s.tab.state ≡ Rest → All (λ a. a.number ≡ get_or s.tab.left 0 0 → a.reply ≢ reply.Gone) s.tab.answers
  untaken cell seated is none rests = All-weaker (λ a. is_gone a.reply ≡ true → Contains (numbers_that is_gone s.tab.answers) a.number) (λ a. a.number ≡ get_or s.tab.left 0 0 → a.reply ≢ reply.Gone)
      (λ a among same gone.
      let first : next_number s.tab.state s.tab.left ≡ get_or s.tab.left 0 0 = ap (λ t. next_number t s.tab.left) rests in
      let among_gone : Contains (numbers_that is_gone s.tab.answers) (next_number s.tab.state s.tab.left) =
      subst (λ (n : ℕ). Contains (numbers_that is_gone s.tab.answers) n) (same ∙ sym first) (among (ap is_gone gone)) in
      let flag : get_or w.words (length (base_in w) + cell) 0 ≡ 1 = found_taken (home_in w) (base_in w) w.words views id (view_of s.tab) h.invariant has (next_number s.tab.state s.tab.left) cell seated (inr among_gone) in
      let here : get_or w.words (length (base_in w) + cell) 0 ≡ 0 = subst (λ (k : ℕ). get_or w.words k 0 ≡ 0) is none in
      let no : ⊥ = omega arith in no)
      s.tab.answers (numbers-contains is_gone s.tab.answers)

  tab_kept : IsWithdrawer w.held tab_now
  tab_kept = move_tab (home_in w) (base_in w) w.held s.tab.answers s.tab.left s.tab.state (next_number s.tab.state s.tab.left) s.word (get_or w.words s.word 0) s.left s.new s.note refl s.move own begun_held untaken

  abbrev as_stepped : Withdrawing
  as_stepped = record { bits = w.bits; salt = w.salt; limit = w.limit; held = w.held; words = set w.words s.word s.left; tabs = set w.tabs id tab_now }

  pub steps_keep : IsWithdrawing now
  steps_keep = subst IsWithdrawing (sym s.is) (let kept : IsWithdrawing as_stepped = record {
    few_bits = h.few_bits;
    within_limit = h.within_limit;
    some = h.some;
    distinct = h.distinct;
    invariant = invariant_now;
    tabs = all_after_set (IsWithdrawer w.held) w.tabs id tab_now tab_kept (λ k d lt other. h.tabs k d lt);
  } in kept)

  pub steps_fall : FallsAt w id now
  steps_fall =
      let size : length (base_in w) ≡ count_in w = (base_layout w.bits w.salt w.limit w.held h.few_bits h.within_limit h.some h.distinct).size in
      let sound : IsSound (home_in w) (base_in w) (cell_words (base_in w) w.words) views s.tab.state = sound_of (home_in w) (base_in w) w.words views id (view_of s.tab) h.invariant has s.tab.state refl in
      let less = move_less (home_in w) (base_in w) w.held s.tab.answers s.tab.left (cell_words (base_in w) w.words) views s.tab.state (next_number s.tab.state s.tab.left) s.word (get_or w.words s.word 0) s.left s.new s.note refl s.move own.next sound in
      let lt : id < length (set w.tabs id tab_now) = let short = within in omega (arith, length-set w.tabs id tab_now) in
      let there : slice_get (set w.tabs id tab_now) id ≡ Some tab_now = slice_get-get_or (set w.tabs id tab_now) id tab_now lt ∙ ap Some (get_or-set_same w.tabs id tab_now tab_now within) in
      subst (λ (n : Withdrawing). FallsAt w id n) (sym s.is) (let falls : FallsAt w id as_stepped = record {
        tab = s.tab;
        stands = s.acts;
        tab_now = tab_now;
        stands_now = there;
        falls = subst (λ (n : ℕ). Falls (tab_measure n tab_now) (tab_measure n s.tab)) size less;
      } in falls)
