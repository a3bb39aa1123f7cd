use Rattle.std.proofs.Common.{◌≢◌, ap, sym, ◌∙◌, subst}
use Rattle.store_spec.proofs.Common.{CastState, Rest, cast_act, numbers_in}
use Rattle.step_core.specs.CastTables.{LeadsTo, note_of, state_of}
use Rattle.step_core.specs.Shape.{table_of}
use Rattle.step_core.specs.declared.shape.Shape.{Shape}
use Rattle.word_rule.proofs.CastAnswers.{HasStepped, allows_act, has_stepped, same_shape}
use Rattle.word_rule.proofs.CastKept.{goes_on_from}
use Rattle.word_rule.proofs.cast.CastWords.step.Goals as goal
use Rattle.word_rule.specs.CastSeats.{StepsFrom}

pub perform-found-requires-clause-rule : goal.perform-found-requires-clause-rule
perform-found-requires-clause-rule c =
    let seat = c.args.seat.now in
    let known = seat.me.0 in
    let shared = c.self.inside.table.shared in
    let state = c.requires.about.state_is in
    allows_act shared.key shared.table_id.slots seat.id seat.me known.view.state c.args.shape _
    (c.requires.own ∙ same_shape c.args.self.now (state_of c.args.state) seat c.requires.about)
    (c.cast_act_from-act.ensures ∙ ap (cast_act (table_of c.args.shape)) (sym state))
    c.requires.about.single.weight
    (goes_on_from (table_of known.shape) (numbers_in known.base) known.view.state (subst (λ (s : CastState). s ≢ Rest) (sym state) c.requires.moving))

stepped : (c : goal.After-cast_after) → HasStepped c.args.self.now (state_of c.args.state) c.args.seat.now c.perform-found.new.seat (state_of c.cast_after.result.0) (note_of c.cast_after.result.1)
stepped c =
    let seat = c.args.seat.now in
    let now = c.perform-found.new.seat in
    has_stepped c.args.self.now (state_of c.args.state) (state_of c.args.state) seat now c.perform-found.result _ _ c.requires.about c.perform-found.ensures.table c.requires.about.fits
    (subst (λ (s : CastState). StepsFrom s seat.me c.perform-found.result now.me) c.requires.about.state_is c.perform-found.ensures.told)
    (subst (λ (s : Shape). LeadsTo (table_of s) (state_of c.args.state) c.perform-found.result (state_of c.cast_after.result.0) (note_of c.cast_after.result.1)) c.requires.own c.cast_after.ensures)

pub returns-clause-about : goal.returns-clause-about
returns-clause-about c = (stepped c).about

pub returns-clause-row : goal.returns-clause-row
returns-clause-row c = (stepped c).row

pub returns-clause-told_alike : goal.returns-clause-told_alike
returns-clause-told_alike c = (stepped c).told_alike

pub returns-clause-falls : goal.returns-clause-falls
returns-clause-falls c = (stepped c).falls

pub returns-clause-begins : goal.returns-clause-begins
returns-clause-begins c = (stepped c).begins c.args.first c.requires.begins
