use Rattle.std.proofs.Common.{◌≢◌, ℕ, sym, ap, ◌∙◌, subst}
use Rattle.store_spec.proofs.Common.{Carrying, CastState, CastView, Probing, Rest, cast_view_after}
use Rattle.crossbeam_utils.specs.Padded.{padded_value}
use Rattle.step_core.specs.CastTables.{note_of, state_of}
use Rattle.step_core.specs.Shape.{table_of}
use Rattle.word_rule.proofs.CastAnswers.{rest_again}
use Rattle.word_rule.proofs.CastProbes.{placed_so, refused_so, rests_after}
use Rattle.word_rule.proofs.CastStates.{not_carrying}
use Rattle.word_rule.proofs.Chains.{led_on}
use Rattle.word_rule.proofs.cast.CastWords.cast.Goals as goal
use Rattle.word_rule.specs.CastSeats.{CastsByRows, IsToldAlike, MakesNextRow, MakesRow}
use Rattle.word_rule.specs.CastWords.{IsAbout}
use Rattle.word_rule.specs.Places.{Place}

other : (c : goal.In_default) → (v i : ℕ) → c.claim-state.new.seat.me.0.view.state ≢ Carrying v i
other c v i same = not_carrying c.claim-state.result.0 c.in_default.not-Carrying v i (sym c.claim-state.ensures.about.state_is ∙ same)

pub invariant_of-seat-in_default : goal.invariant_of-seat-in_default
invariant_of-seat-in_default c =
    let claimed = c.claim-state in
    let rests = rests_after (table_of c.args.self.now.shape) c.args.number c.seat.inside.seat.me.0.view claimed.new.seat.me.0.view (note_of claimed.result.1) (other c) claimed.ensures.told claimed.ensures.probes in
    rest_again c.args.self.now (padded_value c.seat.inside.standing) c.seat.inside.seat claimed.new.seat c.seat.invariant
    (ap (λ (p : Place CastView). p.view.state) c.seat.view_is ∙ c.requires.at_rest)
    (subst (λ (s : CastState). IsAbout c.args.self.now s claimed.new.seat) (sym claimed.ensures.about.state_is ∙ rests) claimed.ensures.about)

pub returns-in_default : goal.returns-in_default
returns-in_default c =
    let claimed = c.claim-state in
    let so = refused_so (table_of c.args.self.now.shape) c.args.number c.seat.inside.seat.me.0.view claimed.new.seat.me.0.view (note_of claimed.result.1) (other c) claimed.ensures.told claimed.ensures.probes in
    record {
      words = claimed.ensures.about.belongs ∙ sym c.requires.belongs;
      answers = so.answers;
      view = so.view ∙ ap (λ (p : Place CastView). cast_view_after p.view c.args.number Rest (note_of claimed.result.1)) c.seat.view_is;
      told_alike = subst (λ (p : Place CastView). IsToldAlike p.view c.args.number (note_of claimed.result.1)) c.seat.view_is claimed.ensures.told_alike;
      chain = subst (λ (p : Place CastView). CastsByRows (table_of c.args.self.now.shape) c.args.number p.view claimed.new.seat.me.0.view) c.seat.view_is claimed.ensures.chain;
    }

pub returns-in-Carrying : goal.returns-in-Carrying
returns-in-Carrying c =
    let claimed = c.claim-state in
    let t = table_of c.args.self.now.shape in
    let so = placed_so (table_of c.args.self.now.shape) c.args.number c.in-Carrying.number c.in-Carrying.place c.seat.inside.seat.me.0.view claimed.new.seat.me.0.view c.place.new.seat.me.0.view (note_of claimed.result.1)
    (claimed.ensures.about.state_is ∙ ap state_of c.in-Carrying.is) claimed.ensures.probes c.place.ensures.placed in
    record {
      words = c.place.ensures.at_rest.belongs ∙ sym c.requires.belongs;
      answers = so.answers;
      view = so.view ∙ ap (λ (p : Place CastView). cast_view_after p.view c.args.number Rest (note_of claimed.result.1)) c.seat.view_is;
      told_alike = subst (λ (p : Place CastView). IsToldAlike p.view c.args.number (note_of claimed.result.1)) c.seat.view_is claimed.ensures.told_alike;
      chain = subst (λ (p : Place CastView). CastsByRows t c.args.number p.view c.place.new.seat.me.0.view) c.seat.view_is
          (led_on (MakesNextRow t) (MakesRow t (Probing c.args.number 0)) c.seat.inside.seat.me.0.view claimed.new.seat.me.0.view c.place.new.seat.me.0.view claimed.ensures.chain c.place.ensures.rows);
    }
