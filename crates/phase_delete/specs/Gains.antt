-- What a number that is withdrawn adds to the lists of its seat.
use Rattle.std.specs.Prelude.{◌≡◌, ℕ, Contains}
use Rattle.step_core.specs.declared.withdrawer.WithdrawReply.{WithdrawReply}
use Rattle.step_core.specs.declared.withdrawer.WithdrawReply.TheVariants.{Withdrawn, Gone, Absent}
use Rattle.store_spec.specs.WithdrawStep.{WithdrawView}
use Rattle.word_rule.specs.WithdrawRemoval.{HasFoundGone, HasRemoved}
use Rattle.word_rule.specs.WithdrawWords.{WithdrawsByRows}

-- The number is behind those of the list that the reply names, and the seat is at rest. Where it was not held, nothing
-- changes.
abbrev pub Gains : WithdrawView → ℕ → WithdrawReply → WithdrawView → Type 0
Gains old number Withdrawn now = HasRemoved number old now
Gains old number Gone now = HasFoundGone number old now
Gains old number Absent now = now ≡ old

-- The seat made the steps for the number, each a row of the table. Where it was not held, it made none.
abbrev pub StepsFor : (ℕ → ℕ) → WithdrawView → ℕ → WithdrawReply → WithdrawView → Type 0
StepsFor home old number Withdrawn now = WithdrawsByRows home number old now
StepsFor home old number Gone now = WithdrawsByRows home number old now
StepsFor home old number Absent now = now ≡ old

-- a reply to a number that was held
abbrev pub IsRemoval : WithdrawReply → Type 0
IsRemoval Withdrawn = Unit {0}
IsRemoval Gone = Unit {0}
IsRemoval Absent = ⊥

-- the seat has neither begun to remove the number nor found it gone
pub record IsNewTo (view : WithdrawView) (number : ℕ) : Type 0 where
  pub not_begun : ¬ Contains view.begun number
  pub not_gone : ¬ Contains view.gone number
