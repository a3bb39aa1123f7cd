-- What a reply says of the number that is withdrawn, and of the seat from which it is withdrawn.
use Rattle.std.specs.Prelude.{◌≡◌, ◌↔◌, ℕ, Contains}
use Rattle.body_store.specs.Contents.{Contents}
use Rattle.phase_delete.specs.Gains.{Gains, IsNewTo, StepsFor}
use Rattle.phase_kind.specs.Phase.{OpenPhase}
use Rattle.step_core.specs.Shape.{homes_of}
use Rattle.step_core.specs.WithdrawCore.{reply_of}
use Rattle.step_core.specs.declared.withdrawer.WithdrawReply.{WithdrawReply}
use Rattle.step_core.specs.declared.withdrawer.WithdrawReply.TheVariants.{Withdrawn, Absent}
use Rattle.store_spec.specs.Ballot.{numbers_of}
use Rattle.store_spec.specs.WithdrawPhase.{IsRightWithdrawal}
use Rattle.store_spec.specs.WithdrawStep.{WithdrawView}

-- a withdrawing phase has no claim words
abbrev pub claims_none : Contents → ℕ → Type 0
claims_none store claims = claims ≡ 0

-- The reply is right: a number that was not held at the opening is answered without a step. The seat gained the number and
-- made the steps for it, and where it was withdrawn, it was new to the seat.
pub record IsReply (phase : OpenPhase) (old : WithdrawView) (number : ℕ) (reply : WithdrawReply) (now : WithdrawView) : Type 0 where
  pub right : IsRightWithdrawal (numbers_of phase.base.ballots) number (reply_of reply)
  pub absent : reply ≡ Absent ↔ (¬ Contains (numbers_of phase.base.ballots) number)
  pub zero : number ≡ 0 → reply ≡ Absent
  pub gains : Gains old number reply now
  pub steps : StepsFor (homes_of phase.words.shape) old number reply now
  pub new : reply ≡ Withdrawn → IsNewTo old number
