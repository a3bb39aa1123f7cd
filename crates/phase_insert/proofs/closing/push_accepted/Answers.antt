use Rattle.std.proofs.Common.{[], ◌∷◌, ◌++◌, append_assoc, arith, get_or, sym, take, ap, ◌∙◌}
use Rattle.store_spec.proofs.Common.{slice_get-get_or, take_all}
use Rattle.phase_insert.proofs.Casts.{cast_of, no_ballot}
use Rattle.phase_kind.proofs.Trays.{length-told, take_next}
use Rattle.phase_insert.proofs.Trays.{ballots_that-push}
use Rattle.phase_insert.proofs.closing.push_accepted.Goals as goal
use Rattle.phase_insert.specs.Tray.{ballots_that, casts_of, is_accepted}
use Rattle.phase_insert.specs.declared.reply.CastReply.TheVariants.{Accepted}

pub loop-place-preserved : goal.loop-place-preserved
loop-place-preserved c =
    let tray = c.args.tray.now in
    let casts = casts_of tray in
    let place = c.loop-place.place in
    let none = cast_of no_ballot Accepted in
    let cast = get_or casts place none in
    let there = slice_get-get_or casts place none (omega (arith, length-told tray.items.ballots tray.replies.items c.requires.paired, c.len-place-end.ensures, c.loop-place-test.true, tray.replies.ok.0)) in
    let put = c.in_ok-push_if_accepted.ensures in
    let first = c.args.accepted.now.ballots in
    record {
      election = put.election ∙ c.loop-place.invariant.election;
      ballots =
          put.pushed cast there
          ∙ ap (λ l. l ++ ballots_that is_accepted (cast ∷ [])) c.loop-place.invariant.ballots
          ∙ append_assoc first (ballots_that is_accepted (take place casts)) (ballots_that is_accepted (cast ∷ []))
          ∙ ap (λ l. first ++ l) (sym (ballots_that-push is_accepted (take place casts) cast) ∙ ap (ballots_that is_accepted) (sym (take_next casts place cast there)));
    }

pub returns-clause-pushed : goal.returns-clause-pushed
returns-clause-pushed c =
    let tray = c.args.tray.now in
    c.loop-place.invariant.ballots
    ∙ ap (λ l. c.args.accepted.now.ballots ++ ballots_that is_accepted l)
    (take_all c.loop-place.place (casts_of tray) (omega (arith, length-told tray.items.ballots tray.replies.items c.requires.paired, c.len-place-end.ensures, c.loop-place-test.false, tray.replies.ok.0)))
