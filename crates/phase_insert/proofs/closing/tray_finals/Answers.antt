use Rattle.std.proofs.Common.{[], ◌∷◌, ◌++◌, arith, get_or, sym, take, ap, subst, ◌∙◌}
use Rattle.store_spec.proofs.Common.{slice_get-get_or, take_all}
use Rattle.phase_insert.proofs.Casts.{cast_of, no_ballot}
use Rattle.phase_kind.proofs.Trays.{length-told, next_told}
use Rattle.phase_insert.proofs.Rows.{finals_more}
use Rattle.phase_insert.proofs.closing.tray_finals.Goals as goal
use Rattle.phase_insert.specs.Ends.{AreFinals}
use Rattle.phase_insert.specs.Tray.{casts_of}

pub loop-place-preserved : goal.loop-place-preserved
loop-place-preserved c =
    let tray = c.args.tray.now in
    let casts = casts_of tray in
    let place = c.loop-place.place in
    let ballots = tray.items.ballots in
    let reply = c.index.result.now in
    let b = get_or ballots place no_ballot in
    let there = slice_get-get_or ballots place no_ballot (omega (arith, c.requires.paired, c.len-place-end.ensures, c.loop-place-test.true, tray.replies.ok.0)) in
    let more = next_told ballots tray.replies.items place b reply c.requires.paired there ∙ ap (λ r. take place casts ++ cast_of b r ∷ []) (sym c.index.ensures) in
    record {
      told = finals_more c.args.after.now.ballots (take place casts) _ _ _ (cast_of b reply) c.final_of.result
          more c.push_reserved.ensures.items c.loop-place.invariant.told
          (c.final_of.ensures b there);
      count = omega (arith, c.push_reserved.ensures.len, c.loop-place.invariant.count);
      space = omega (arith, c.push_reserved.ensures.capacity, c.loop-place.invariant.space);
    }

pub returns : goal.returns
returns c =
    let tray = c.args.tray.now in
    subst (λ l. AreFinals c.args.after.now.ballots l c.loop-place.finals.items)
    (take_all c.loop-place.place (casts_of tray) (omega (arith, length-told tray.items.ballots tray.replies.items c.requires.paired, c.len-place-end.ensures, c.loop-place-test.false, tray.replies.ok.0)))
    c.loop-place.invariant.told
