use Rattle.std.proofs.Common.{ℕ, length, drop, subst}
use Rattle.store_spec.proofs.Common.{home_of}
use Rattle.step_core.proofs.WithdrawCoreTabs.{later_number, moves_on}
use Rattle.step_core.proofs.withdrawer.Withdrawer.act.Goals as goal
use Rattle.step_core.specs.WithdrawCore.{Moves, base_of}
use Rattle.step_core.specs.WithdrawTables.{note_of, state_of}

pub returns-in_default : goal.returns-in_default
returns-in_default c =
    let self = c.args.self.now in
    let order = c.args.shape.now.order in
    let base = base_of c.args.shape.now c.args.index.now.numbers.items in
    subst (λ (n : ℕ). Moves (home_of order.bits order.salt) base c.args.words.now (state_of self.state) n c.next_act.new.words (state_of c.next_act.result.0) (note_of c.next_act.result.1))
    (later_number (state_of self.state) (drop (length self.replies.items) self.list.items) (moves_on self.state c.in_default.not-Rest))
    (c.next_act.ensures base)
