use Rattle.std.proofs.Common.{◌≡◌, ◌+◌, refl, ap, subst}
use Rattle.store_spec.proofs.Common.{FirstRow}
use Rattle.step_core.specs.Shape.{homes_of}
use Rattle.step_core.specs.WithdrawTables.{note_of, state_of}
use Rattle.step_core.specs.declared.shape.Shape.{Shape}
use Rattle.store_spec.specs.WithdrawStep.WithdrawState.{Rest}
use Rattle.word_rule.proofs.WithdrawAnswers.{HasBegun, allows_first, has_begun, stored_shape}
use Rattle.word_rule.proofs.withdraw.WithdrawWords.begin.Goals as goal

pub perform-found-requires-clause-rule : goal.perform-found-requires-clause-rule
perform-found-requires-clause-rule c =
    allows_first c.self.inside.shape c.self.inside.table.shared c.args.self.now Rest c.args.seat.now c.self.view_is c.self.invariant c.requires.at_rest c.args.number c.args.place c.requires.seated
    _ _ _ refl refl refl

begun : (c : goal.After-withdraw_first) → HasBegun c.args.self.now c.args.number c.args.seat.now c.perform-found.new.seat c.withdraw_first.result.0 (note_of c.withdraw_first.result.1)
begun c =
    let own : c.self.inside.shape ≡ c.args.self.now.shape = stored_shape c.self.inside.shape c.self.inside.table.shared c.args.self.now c.self.view_is c.self.invariant in
    has_begun c.args.self.now Rest c.args.seat.now c.perform-found.new.seat c.args.number c.args.place _ c.perform-found.result _ _ c.requires.at_rest c.requires.seated c.perform-found.ensures.table
    (ap (λ (s : Shape). s.cells + c.args.place) own) c.perform-found.ensures.told
    (subst (λ (s : Shape). FirstRow (homes_of s) c.args.number c.perform-found.result (state_of c.withdraw_first.result.0) (note_of c.withdraw_first.result.1)) own c.withdraw_first.ensures)

pub returns-clause-about : goal.returns-clause-about
returns-clause-about c = (begun c).about

pub returns-clause-row : goal.returns-clause-row
returns-clause-row c = (begun c).row

pub returns-clause-again : goal.returns-clause-again
returns-clause-again c = (begun c).again
