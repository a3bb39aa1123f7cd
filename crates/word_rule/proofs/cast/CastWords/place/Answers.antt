use Rattle.std.proofs.Common.{◌≡◌, ◌≢◌, ℕ, sym, ap, ◌∙◌, arith}
use Rattle.store_spec.proofs.Common.{Carrying, Ready, Rest, cast_number}
use Rattle.step_core.specs.CastTables.{note_of, state_of}
use Rattle.step_core.specs.Shape.{table_of}
use Rattle.step_core.specs.declared.cast.CastState.{CastState}
use Rattle.store_spec.specs.CastStep as definition
use Rattle.word_rule.proofs.CastHands.{HasMoved, has_moved, held_first}
use Rattle.word_rule.proofs.cast.CastWords.place.Goals as goal
use Rattle.word_rule.specs.Chain.Rows.{no_row}

pub cells-init : goal.cells-init
cells-init c =
    let hand = c.requires.in_hand in
    let view = c.args.seat.now.me.0.view in
    record {
      about = c.requires.about;
      held = held_first hand.0 hand.1 (state_of c.args.in_hand) hand.2;
      lists = ap (λ (s : definition.CastState). record view { state = s }) c.requires.about.state_is;
      rows = no_row;
      seen_none = λ number place seen same. let clash : Carrying hand.0 hand.1 ≡ Ready number place seen = sym hand.2 ∙ same in cc;
    }

carries : (number place : ℕ) (state : CastState) → state_of state ≡ Carrying number place → state_of state ≢ Rest
carries number place state is rests = let clash : Carrying number place ≡ Rest = sym is ∙ rests in cc

looked : (c : goal.After-step) → HasMoved (table_of c.args.self.now.shape) (cast_number (state_of c.args.in_hand)) c.args.seat.now.me.0.view (state_of c.cells.state) (state_of c.step.result.0) c.step.new.seat.me.0.view
looked c =
    let i = c.cells.invariant in
    has_moved (table_of c.args.self.now.shape) (cast_number (state_of c.args.in_hand)) c.args.seat.now.me.0.view c.cells.seat.me.0.view c.step.new.seat.me.0.view (state_of c.cells.state) (state_of c.step.result.0) (note_of c.step.result.1)
    (carries c.in-Carrying.number c.in-Carrying.place c.cells.state (ap state_of c.in-Carrying.is)) i.held i.lists i.rows c.step.ensures.row c.step.ensures.about.state_is c.step.ensures.falls

exchanged : (c : goal.After-step-in-Ready) → HasMoved (table_of c.args.self.now.shape) (cast_number (state_of c.args.in_hand)) c.args.seat.now.me.0.view (state_of c.exchanges.state) (state_of c.step-in-Ready.result.0) c.step-in-Ready.new.seat.me.0.view
exchanged c =
    let i = c.exchanges.invariant in
    let last = c.step-in-Ready in
    has_moved (table_of c.args.self.now.shape) (cast_number (state_of c.args.in_hand)) c.args.seat.now.me.0.view c.exchanges.seat.me.0.view last.new.seat.me.0.view (state_of c.exchanges.state) (state_of last.result.0) (note_of last.result.1)
    (λ rests. let clash : Ready c.in-Ready.number c.in-Ready.place c.in-Ready.seen ≡ Rest = sym (ap state_of c.in-Ready.is) ∙ rests in cc)
    i.held i.lists i.rows last.ensures.row last.ensures.about.state_is last.ensures.falls

pub exchanges-init : goal.exchanges-init
exchanges-init c = record { about = c.step.ensures.about; held = (looked c).held; lists = (looked c).lists; rows = (looked c).rows; less = omega arith }

pub exchanges-smaller : goal.exchanges-smaller
exchanges-smaller c = (exchanged c).falls

pub exchanges-preserved : goal.exchanges-preserved
exchanges-preserved c = record {
  about = c.step-in-Ready.ensures.about;
  held = (exchanged c).held;
  lists = (exchanged c).lists;
  rows = (exchanged c).rows;
  less = omega (arith, (exchanged c).falls, c.exchanges.invariant.less);
}

pub cells-smaller : goal.cells-smaller
cells-smaller c =
    let i = c.cells.invariant in
    let look = has_moved (table_of c.args.self.now.shape) (cast_number (state_of c.args.in_hand)) c.args.seat.now.me.0.view c.cells.seat.me.0.view c.step.new.seat.me.0.view (state_of c.cells.state) (state_of c.step.result.0) (note_of c.step.result.1)
    (carries c.in-Carrying.number c.in-Carrying.place c.cells.state (ap state_of c.in-Carrying.is)) i.held i.lists i.rows c.step.ensures.row c.step.ensures.about.state_is c.step.ensures.falls in
    omega (arith, look.falls, c.exchanges.invariant.less)
