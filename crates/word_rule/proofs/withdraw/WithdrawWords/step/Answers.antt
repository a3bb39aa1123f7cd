use Rattle.std.proofs.Common.{subst}
use Rattle.step_core.specs.Shape.{homes_of}
use Rattle.step_core.specs.WithdrawTables.{LeadsTo, note_of, state_of}
use Rattle.step_core.specs.declared.shape.Shape.{Shape}
use Rattle.word_rule.proofs.WithdrawAnswers.{HasStepped, allows_act, has_stepped}
use Rattle.word_rule.proofs.withdraw.WithdrawWords.step.Goals as goal

pub perform-found-requires-clause-rule : goal.perform-found-requires-clause-rule
perform-found-requires-clause-rule c =
    allows_act c.self.inside.shape c.self.inside.table.shared c.args.self.now (state_of c.args.state) c.args.seat.now c.self.view_is c.self.invariant c.requires.about _ _ _ c.requires.moving c.withdraw_act-act.ensures

stepped : (c : goal.After-withdraw_after) → HasStepped c.args.self.now (state_of c.args.state) c.args.seat.now c.perform-found.new.seat c.withdraw_after.result.0 (note_of c.withdraw_after.result.1)
stepped c =
    has_stepped c.args.self.now (state_of c.args.state) c.args.seat.now c.perform-found.new.seat _ c.perform-found.result _ _ c.requires.about c.perform-found.ensures.table c.perform-found.ensures.told
    (subst (λ (s : Shape). LeadsTo (homes_of s) (state_of c.args.state) c.perform-found.result (state_of c.withdraw_after.result.0) (note_of c.withdraw_after.result.1)) c.requires.own c.withdraw_after.ensures)

pub returns-clause-about : goal.returns-clause-about
returns-clause-about c = (stepped c).about

pub returns-clause-row : goal.returns-clause-row
returns-clause-row c = (stepped c).row

pub returns-clause-falls : goal.returns-clause-falls
returns-clause-falls c = (stepped c).falls
