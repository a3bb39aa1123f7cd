use Rattle.std.proofs.Common.{sym, ap, ◌∙◌, length, drop}
use Rattle.store_spec.proofs.Common.{iff_false}
use Rattle.step_core.proofs.WithdrawCoreTabs.{caught_up_empty, caught_up_on, caught_up_stops}
use Rattle.step_core.proofs.withdrawer.Withdrawer.catch_up.Goals as goal
use Rattle.step_core.specs.WithdrawCore.{answers_of}
use Rattle.step_core.specs.WithdrawTables.{state_of}
use Rattle.step_core.specs.Withdrawing.{caught_up}

pub returns-then-holds-clause-caught_up : goal.returns-then-holds-clause-caught_up
returns-then-holds-clause-caught_up c =
    let self = c.answers.self in let list = self.list.items in let replies = self.replies.items in
    sym (caught_up_stops c.args.index.now.numbers.items (state_of self.state) (answers_of list replies) (drop (length replies) list) c.in-Some.number (sym c.first.ensures ∙ c.in-Some.is) (c.holds.ensures.0 c.if-holds.true))
    ∙ c.answers.invariant.0

pub answers-preserved : goal.answers-preserved
answers-preserved c =
    let self = c.answers.self in let list = self.list.items in let replies = self.replies.items in
    let held = c.args.index.now.numbers.items in (
      ap (caught_up held) c.answer.ensures.answered
          ∙ caught_up_on held (state_of self.state) (answers_of list replies) (drop (length replies) list) c.in-Some.number (sym c.first.ensures ∙ c.in-Some.is) (iff_false c.holds.ensures c.if-holds.false)
          ∙ c.answers.invariant.0,
      record { list = c.answer.ensures.kept.list ∙ c.answers.invariant.1.list; room = c.answer.ensures.kept.room },
    )

pub returns-clause-caught_up : goal.returns-clause-caught_up
returns-clause-caught_up c =
    let self = c.answers.self in let list = self.list.items in let replies = self.replies.items in
    sym (caught_up_empty c.args.index.now.numbers.items (state_of self.state) (answers_of list replies) (drop (length replies) list) (sym c.first.ensures ∙ c.in_default.is))
    ∙ c.answers.invariant.0
