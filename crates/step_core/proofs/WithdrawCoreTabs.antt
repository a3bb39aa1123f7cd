-- A withdrawer of the code, as the definitions see it, where it answers numbers and acts on words.
use Rattle.std.proofs.Common.{◌≡◌, ◌≢◌, ◌==◌, ℕ, ◌+◌, ◌<◌, ⊎_elim, List, [], ◌∷◌, ◌++◌, length, get_or, set, drop, Some, None, true, false, refl, sym, ap, ◌∙◌, subst, arith}
use Rattle.store_spec.proofs.Common.{Absent, Act, Chosen, Contains, Down, FirstRow, Owing, StandsInBase, Up, WithdrawNote, WithdrawRow, WithdrawState, append-nil, append_assoc, begins, cases_Bool, cond-false, cond-true, drop-drop, goes_on, left_by, length_push, list_any, slice_get, withdraw_act, withdraw_number, word_of}
use Rattle.step_core.proofs.WithdrawingAnswers.{is_held, is_not_held}
use Rattle.step_core.specs.CellIndex.{HasPlace, IsCellIndex}
use Rattle.step_core.specs.WithdrawCore.{Moves, answers_of, reply_of}
use Rattle.step_core.specs.WithdrawTables.{LeadsTo, state_of}
use Rattle.step_core.specs.Withdrawing.{Withdrawer, absent_first, answered, next_number, caught_up}
use Rattle.step_core.specs.declared.withdraw.WithdrawState as states
use Rattle.step_core.specs.declared.withdraw.WithdrawState.TheVariants as variants
use Rattle.step_core.specs.declared.withdrawer.WithdrawReply.{WithdrawReply}
use Rattle.store_spec.specs.WithdrawPhase as outcome
use Rattle.store_spec.specs.WithdrawStep.WithdrawState.{Rest}

-- ---- one reply more

pub answers_push : (numbers : List ℕ) (replies : List WithdrawReply) (reply : WithdrawReply) → 0 < length (drop (length replies) numbers) → answers_of numbers (replies ++ reply ∷ []) ≡ answers_of numbers replies ++ record { number = get_or (drop (length replies) numbers) 0 0; reply = reply_of reply } ∷ []
answers_push [] [] reply some = absurd (omega arith)
answers_push (x ∷ numbers) [] reply some = refl
answers_push [] (r ∷ replies) reply some = absurd (omega arith)
answers_push (x ∷ numbers) (r ∷ replies) reply some =
    ap (λ given. (let a : outcome.Withdrawal = record { number = x; reply = reply_of r } in a) ∷ given) (answers_push numbers replies reply some)

pub left_push : (numbers : List ℕ) (replies : List WithdrawReply) (reply : WithdrawReply) → drop (length (replies ++ reply ∷ [])) numbers ≡ drop 1 (drop (length replies) numbers)
left_push numbers replies reply = ap (λ n. drop n numbers) (length_push replies reply) ∙ sym (drop-drop 1 (length replies) numbers)

pub tab_push : (state : WithdrawState) (numbers : List ℕ) (replies : List WithdrawReply) (reply : WithdrawReply) → 0 < length (drop (length replies) numbers) → let now : Withdrawer = record { state = state; answers = answers_of numbers (replies ++ reply ∷ []); left = drop (length (replies ++ reply ∷ [])) numbers } in now ≡ answered (reply_of reply) (record { state = state; answers = answers_of numbers replies; left = drop (length replies) numbers })
tab_push state numbers replies reply some =
    ap (λ given. record { state = state; answers = given; left = drop (length (replies ++ reply ∷ [])) numbers }) (answers_push numbers replies reply some)
    ∙ ap (λ l. record { state = state; answers = answers_of numbers replies ++ record { number = get_or (drop (length replies) numbers) 0 0; reply = reply_of reply } ∷ []; left = l }) (left_push numbers replies reply)

-- ---- answers that need no step

module _ (held : List ℕ) (state : WithdrawState) (answers : List outcome.Withdrawal) where
  abbrev tab : List ℕ → Withdrawer
  tab left = record { state = state; answers = answers; left = left }

  -- by what stands first
  caught_up_by : (left : List ℕ) (absent : List outcome.Withdrawal) → absent_first held left ≡ absent → caught_up held (tab left) ≡ record { state = state; answers = answers ++ absent; left = drop (length absent) left }
  caught_up_by left absent e = ap (λ given. record { state = state; answers = answers ++ given; left = drop (length given) left }) e

  no_answer : (left : List ℕ) → let more : Withdrawer = record { state = state; answers = answers ++ []; left = left } in more ≡ tab left
  no_answer left = ap (λ given. record { state = state; answers = given; left = left }) (append-nil answers)

  pub caught_up_empty : (left : List ℕ) → slice_get left 0 ≡ None → caught_up held (tab left) ≡ tab left
  caught_up_empty [] none = no_answer []
  caught_up_empty (x ∷ left) none = absurd (let no : ⊥ = cc in no)

  pub caught_up_stops : (left : List ℕ) (x : ℕ) → slice_get left 0 ≡ Some x → Contains held x → caught_up held (tab left) ≡ tab left
  caught_up_stops [] x first c = absurd (let no : ⊥ = cc in no)
  caught_up_stops (y ∷ left) x first c =
      let same : y ≡ x = cc in
      ⊎_elim
      (λ (found : list_any (λ n. n == y) held ≡ true).
      caught_up_by (y ∷ left) [] (cond-true (list_any (λ n. n == y) held) [] (record { number = y; reply = Absent } ∷ absent_first held left) found) ∙ no_answer (y ∷ left))
      (λ (none : list_any (λ n. n == y) held ≡ false). absurd (is_not_held held y none (subst (λ (v : ℕ). Contains held v) (sym same) c)))
      (cases_Bool (list_any (λ n. n == y) held))

  pub caught_up_on : (left : List ℕ) (x : ℕ) → slice_get left 0 ≡ Some x → ¬ Contains held x → caught_up held (answered Absent (tab left)) ≡ caught_up held (tab left)
  caught_up_on [] x first out = absurd (let no : ⊥ = cc in no)
  caught_up_on (y ∷ left) x first out =
      let same : y ≡ x = cc in
      let a : outcome.Withdrawal = record { number = y; reply = Absent } in
      ⊎_elim
      (λ (found : list_any (λ n. n == y) held ≡ true). absurd (out (subst (λ (v : ℕ). Contains held v) same (is_held held y found))))
      (λ (none : list_any (λ n. n == y) held ≡ false).
      ap (λ given. record { state = state; answers = given; left = drop (length (absent_first held left)) left }) (append_assoc answers (a ∷ []) (absent_first held left))
      ∙ sym (caught_up_by (y ∷ left) (a ∷ absent_first held left) (cond-false (list_any (λ n. n == y) held) [] (a ∷ absent_first held left) none)))
      (cases_Bool (list_any (λ n. n == y) held))

-- ---- acts

pub first_moves : (home : ℕ → ℕ) (base words numbers places : List ℕ) (number cell cells found : ℕ) (words_now : List ℕ) (new : WithdrawState) (note : WithdrawNote) → number ≢ 0 → length base ≡ cells → IsCellIndex base numbers places → HasPlace numbers places number cell → found ≡ get_or words (cells + cell) 0 → words_now ≡ set words (cells + cell) 1 → FirstRow home number found new note → Moves home base words Rest number words_now new note
first_moves home base words numbers places number cell cells found words_now new note some size index at finds put row =
    let seated : StandsInBase base number cell = record { some = some; stands = ap (λ k. get_or base k 0) (sym at.place) ∙ index.stands at.rank at.within ∙ at.is } in
    record {
      word = length base + cell;
      left = 1;
      move = begins seated (subst (λ (f : ℕ). FirstRow home number f new note) (finds ∙ ap (λ n. get_or words (n + cell) 0) (sym size)) row);
      put = put ∙ ap (λ n. set words (n + cell) 1) (sym size);
    }

pub next_moves : (home : ℕ → ℕ) (base words : List ℕ) (from : WithdrawState) (act : Act) (found : ℕ) (words_now : List ℕ) (new : WithdrawState) (note : WithdrawNote) → act ≡ withdraw_act from → found ≡ get_or words (word_of act) 0 → words_now ≡ set words (word_of act) (left_by act found) → LeadsTo home from found new note → Moves home base words from (withdraw_number from) words_now new note
next_moves home base words from act found words_now new note is finds put row = record {
  word = word_of (withdraw_act from);
  left = left_by (withdraw_act from) found;
  move = goes_on (subst (λ (f : ℕ). WithdrawRow home from (word_of (withdraw_act from)) f (left_by (withdraw_act from) found) new note) (finds ∙ ap (λ a. get_or words (word_of a) 0) is) row);
  put = put ∙ ap (λ a. set words (word_of a) (left_by a found)) is;
}

-- away from rest the number is that of the state
pub later_number : (from : WithdrawState) (left : List ℕ) → from ≢ Rest → withdraw_number from ≡ next_number from left
later_number Rest left moves = absurd (moves refl)
later_number (Chosen x place) left moves = refl
later_number (Owing x bound) left moves = refl
later_number (Up x bound place) left moves = refl
later_number (Down x bound place c source) left moves = refl

-- a state of the code that is not rest is seen as none
pub moves_on : (s : states.WithdrawState) → s ≢ variants.Rest → state_of s ≢ Rest
moves_on variants.Rest n = λ e. n refl
moves_on (variants.Chosen number place) n = λ e. cc
moves_on (variants.Owing number bound) n = λ e. cc
moves_on (variants.Up number bound place) n = λ e. cc
moves_on (variants.Down number bound place candidate source) n = λ e. cc
