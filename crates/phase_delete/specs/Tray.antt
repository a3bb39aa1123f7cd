-- The tray of a withdrawer, and what it tells of the lists of its seat.
use Rattle.std.specs.Prelude.{◌≡◌, ℕ, List, map, All, AllPairs}
use Rattle.phase_kind.specs.Phase.{OpenPhase}
use Rattle.phase_kind.specs.AnsweredItem.{AnsweredItem}
use Rattle.step_core.specs.WithdrawCore.{reply_of}
use Rattle.step_core.specs.WithdrawingInvariant.{is_gone, numbers_that}
use Rattle.step_core.specs.declared.withdrawer.WithdrawReply.{WithdrawReply}
use Rattle.store_spec.specs.Ballot.{numbers_of}
use Rattle.store_spec.specs.WithdrawPhase as outcome
use Rattle.store_spec.specs.WithdrawPhase.{IsRightWithdrawal, MayBeWithdrawnBefore, is_withdrawn}
use Rattle.store_spec.specs.WithdrawStep.{WithdrawView}
use Rattle.store_spec.specs.WithdrawStep.WithdrawState.{Rest}

-- a number that was withdrawn, and what it was answered
abbrev pub TrayWithdrawal : Type 0
TrayWithdrawal = AnsweredItem ℕ WithdrawReply

-- a number of a tray with its reply, as a line of its list
abbrev pub tray_line : TrayWithdrawal → outcome.Withdrawal
tray_line w = record { number = w.item; reply = reply_of w.reply }

-- the numbers of a tray that were withdrawn, and those that were found gone
abbrev pub withdrawn_of : List TrayWithdrawal → List ℕ
withdrawn_of tray = numbers_that is_withdrawn (map tray_line tray)

abbrev pub gone_of : List TrayWithdrawal → List ℕ
gone_of tray = numbers_that is_gone (map tray_line tray)

-- the seat is at rest, its lists are what the tray tells, and each reply is right and in its order
pub record IsTrayOf (phase : OpenPhase) (view : WithdrawView) (tray : List TrayWithdrawal) : Type 0 where
  pub at_rest : view.state ≡ Rest
  pub begun : withdrawn_of tray ≡ view.begun
  pub gone : gone_of tray ≡ view.gone
  pub right : All (λ a. IsRightWithdrawal (numbers_of phase.base.ballots) a.number a.reply) (map tray_line tray)
  pub in_order : AllPairs MayBeWithdrawnBefore (map tray_line tray)
