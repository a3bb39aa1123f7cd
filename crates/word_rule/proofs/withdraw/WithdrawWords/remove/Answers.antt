use Rattle.std.proofs.Common.{ap, subst, arith}
use Rattle.store_spec.proofs.Common.{WithdrawState, withdraw_number}
use Rattle.step_core.specs.Shape.{homes_of}
use Rattle.step_core.specs.WithdrawTables.{note_of, state_of}
use Rattle.word_rule.proofs.WithdrawWay.{Follows, HasMoved, has_chosen, has_moved}
use Rattle.word_rule.proofs.withdraw.WithdrawWords.remove.Goals as goal
use Rattle.word_rule.specs.Chain.Rows.{no_row}

pub walk-init : goal.walk-init
walk-init c =
    let chosen = c.requires.chosen in
    let kept = has_chosen c.args.self.now.shape.cells chosen.0 chosen.1 c.args.seat.now.me.0.view (state_of c.args.chosen) chosen.2 c.requires.about.state_is in
    record {
      about = c.requires.about;
      way = record { removing = kept.removing; rows = no_row; bounded = kept.bounded };
      walks = kept.walks;
    }

walked : (c : goal.After-step) → HasMoved (homes_of c.args.self.now.shape) (withdraw_number (state_of c.args.chosen)) c.args.self.now.shape.cells c.args.seat.now.me.0.view (state_of c.walk.state) (state_of c.step.result.0) c.step.new.seat.me.0.view
walked c =
    let i = c.walk.invariant in
    has_moved (homes_of c.args.self.now.shape) (withdraw_number (state_of c.args.chosen)) c.args.self.now.shape.cells c.args.seat.now.me.0.view c.walk.seat.me.0.view c.step.new.seat.me.0.view (state_of c.walk.state) (state_of c.step.result.0) (note_of c.step.result.1)
    i.way i.about.state_is c.step.ensures.about.state_is c.step.ensures.row c.step.ensures.falls

pub walk-smaller : goal.walk-smaller
walk-smaller c = (walked c).falls

pub walk-preserved : goal.walk-preserved
walk-preserved c = record {
  about = c.step.ensures.about;
  way = (walked c).way;
  walks = subst (λ (s : WithdrawState). Follows s (state_of c.step.result.0)) (ap state_of c.in-Chosen.is) (walked c).follows;
}

looked : (c : goal.After-step-in-Owing) → HasMoved (homes_of c.args.self.now.shape) (withdraw_number (state_of c.args.chosen)) c.args.self.now.shape.cells c.args.seat.now.me.0.view (state_of c.owed.state) (state_of c.step-in-Owing.result.0) c.step-in-Owing.new.seat.me.0.view
looked c =
    let i = c.owed.invariant in
    let last = c.step-in-Owing in
    has_moved (homes_of c.args.self.now.shape) (withdraw_number (state_of c.args.chosen)) c.args.self.now.shape.cells c.args.seat.now.me.0.view c.owed.seat.me.0.view last.new.seat.me.0.view (state_of c.owed.state) (state_of last.result.0) (note_of last.result.1)
    i.way i.about.state_is last.ensures.about.state_is last.ensures.row last.ensures.falls

pub up-init : goal.up-init
up-init c = record {
  about = c.step-in-Owing.ensures.about;
  way = (looked c).way;
  rises = subst (λ (s : WithdrawState). Follows s (state_of c.step-in-Owing.result.0)) (ap state_of c.in-Owing.is) (looked c).follows;
  less = omega arith;
}

risen : (c : goal.After-step-in-Up) → HasMoved (homes_of c.args.self.now.shape) (withdraw_number (state_of c.args.chosen)) c.args.self.now.shape.cells c.args.seat.now.me.0.view (state_of c.up.state) (state_of c.step-in-Up.result.0) c.step-in-Up.new.seat.me.0.view
risen c =
    let i = c.up.invariant in
    let last = c.step-in-Up in
    has_moved (homes_of c.args.self.now.shape) (withdraw_number (state_of c.args.chosen)) c.args.self.now.shape.cells c.args.seat.now.me.0.view c.up.seat.me.0.view last.new.seat.me.0.view (state_of c.up.state) (state_of last.result.0) (note_of last.result.1)
    i.way i.about.state_is last.ensures.about.state_is last.ensures.row last.ensures.falls

pub up-smaller : goal.up-smaller
up-smaller c = (risen c).falls

pub up-preserved : goal.up-preserved
up-preserved c = record {
  about = c.step-in-Up.ensures.about;
  way = (risen c).way;
  rises = subst (λ (s : WithdrawState). Follows s (state_of c.step-in-Up.result.0)) (ap state_of c.in-Up.is) (risen c).follows;
  less = omega (arith, (risen c).falls, c.up.invariant.less);
}

sunk : (c : goal.After-step-in-Down) → HasMoved (homes_of c.args.self.now.shape) (withdraw_number (state_of c.args.chosen)) c.args.self.now.shape.cells c.args.seat.now.me.0.view (state_of c.down.state) (state_of c.step-in-Down.result.0) c.step-in-Down.new.seat.me.0.view
sunk c =
    let i = c.down.invariant in
    let last = c.step-in-Down in
    has_moved (homes_of c.args.self.now.shape) (withdraw_number (state_of c.args.chosen)) c.args.self.now.shape.cells c.args.seat.now.me.0.view c.down.seat.me.0.view last.new.seat.me.0.view (state_of c.down.state) (state_of last.result.0) (note_of last.result.1)
    i.way i.about.state_is last.ensures.about.state_is last.ensures.row last.ensures.falls

pub down-smaller : goal.down-smaller
down-smaller c = (sunk c).falls

pub down-preserved : goal.down-preserved
down-preserved c = record {
  about = c.step-in-Down.ensures.about;
  way = (sunk c).way;
  sinks = subst (λ (s : WithdrawState). Follows s (state_of c.step-in-Down.result.0)) (ap state_of c.in-Down.is) (sunk c).follows;
  less = omega (arith, (sunk c).falls, c.down.invariant.less);
}

pub owed-smaller : goal.owed-smaller
owed-smaller c =
    let i = c.owed.invariant in
    let last = c.step-in-Owing in
    let look = has_moved (homes_of c.args.self.now.shape) (withdraw_number (state_of c.args.chosen)) c.args.self.now.shape.cells c.args.seat.now.me.0.view c.owed.seat.me.0.view last.new.seat.me.0.view (state_of c.owed.state) (state_of last.result.0) (note_of last.result.1)
    i.way i.about.state_is last.ensures.about.state_is last.ensures.row last.ensures.falls in
    omega (arith, look.falls, c.up.invariant.less, c.down.invariant.less)
