-- How the withdrawers of a core are seen, and what one step does with a withdrawer and the words.
use Rattle.std.specs.Prelude.{◌≡◌, ◌≢◌, ℕ, ◌+◌, ◌^◌, ◌<◌, ◌≤◌, All, List, [], ◌∷◌, length, drop, slice_index, slice_set, vec_len, vec_capacity}
use Rattle.step_core.specs.Shape.{homes_of}
use Rattle.step_core.specs.WithdrawTables.{FitsIn, MayFind, state_of}
use Rattle.step_core.specs.Withdrawing as phase
use Rattle.step_core.specs.Withdrawing.{after_step, next_number}
use Rattle.step_core.specs.WithdrawingInvariant.{IsNext}
use Rattle.step_core.specs.declared.shape.Shape.{Shape}
use Rattle.step_core.specs.declared.withdrawer.WithdrawReply.{WithdrawReply}
use Rattle.step_core.specs.declared.withdrawer.WithdrawReply.TheVariants as replies
use Rattle.step_core.specs.declared.withdrawer.Withdrawer.{Withdrawer}
use Rattle.store_spec.specs.Act.{word_of}
use Rattle.store_spec.specs.Layout.{layout_of}
use Rattle.store_spec.specs.WithdrawPhase as outcome
use Rattle.store_spec.specs.WithdrawPhase.WithdrawReply.{Withdrawn, Gone, Absent}
use Rattle.store_spec.specs.WithdrawStep as notes
use Rattle.store_spec.specs.WithdrawStep.{WithdrawMove, WithdrawNote, WithdrawState, withdraw_act}
use Rattle.store_spec.specs.WithdrawStep.WithdrawState.{Rest}

abbrev pub reply_of : WithdrawReply → outcome.WithdrawReply
reply_of replies.Withdrawn = Withdrawn
reply_of replies.Gone = Gone
reply_of replies.Absent = Absent

-- the first numbers of a list with their replies
abbrev pub answers_of : List ℕ → List WithdrawReply → List outcome.Withdrawal
answers_of numbers [] = []
answers_of [] (reply ∷ replies) = []
answers_of (x ∷ numbers) (reply ∷ replies) = record { number = x; reply = reply_of reply } ∷ answers_of numbers replies

abbrev pub tab_of : Withdrawer → phase.Withdrawer
tab_of tab = record {
  state = state_of tab.state;
  answers = answers_of tab.list.items tab.replies.items;
  left = drop (length tab.replies.items) tab.list.items;
}

-- there is room for a reply to each number of the list
pub record HasReplyRoom (tab : Withdrawer) : Type 0 where
  pub no_more : vec_len tab.replies ≤ vec_len tab.list
  pub room : vec_len tab.list ≤ vec_capacity tab.replies

-- the list and the room for replies are as they were
pub record KeepsList (old now : Withdrawer) : Type 0 where
  pub list : now.list ≡ old.list
  pub room : HasReplyRoom now

-- a number is left where the note answers one
abbrev pub MayTell : WithdrawNote → List ℕ → Type 0
MayTell notes.Quiet left = Unit {0}
MayTell notes.Gone left = 0 < length left
MayTell notes.Begun left = Unit {0}
MayTell notes.Done left = 0 < length left

-- the cells at the opening of a phase of this shape, which held these numbers
abbrev pub base_of : Shape → List ℕ → List ℕ
base_of shape held = layout_of (homes_of shape) shape.cells held

-- the shape is that of a withdrawing phase over this base
pub record IsShape (shape : Shape) (base : List ℕ) : Type 0 where
  pub cells : length base ≡ shape.cells
  pub small : shape.cells + shape.claims < 2 ^ 32

-- what a step asks of a withdrawer and the words
pub record MayStep (base held words : List ℕ) (tab : phase.Withdrawer) : Type 0 where
  pub fits : FitsIn (length base) tab.state
  pub finds : tab.state ≢ Rest → MayFind tab.state (slice_index words (word_of (withdraw_act tab.state)))
  pub flags : (cell : ℕ) → slice_index words (length base + cell) ≤ 1
  pub some : All (λ x. x ≢ 0) held
  pub next : IsNext held tab.state tab.left

-- what a step for a number does with the words, and where it leads
pub record Moves (home : ℕ → ℕ) (base words : List ℕ) (from : WithdrawState) (number : ℕ) (words_now : List ℕ) (new : WithdrawState) (note : WithdrawNote) : Type 0 where
  pub word : ℕ
  pub left : ℕ
  pub move : WithdrawMove home base from number word (slice_index words word) left new note
  pub put : words_now ≡ slice_set words word left

-- what a step leaves of a withdrawer and the words
pub record TabSteps (shape : Shape) (held words : List ℕ) (tab : phase.Withdrawer) (words_now : List ℕ) (tab_now : phase.Withdrawer) : Type 0 where
  pub new : WithdrawState
  pub note : WithdrawNote
  pub moves : Moves (homes_of shape) (base_of shape held) words tab.state (next_number tab.state tab.left) words_now new note
  pub is : tab_now ≡ after_step held tab new note
