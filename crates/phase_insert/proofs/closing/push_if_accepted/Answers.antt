use Rattle.std.proofs.Common.{◌≡◌, ◌≢◌, [], ◌∷◌, ◌++◌, Some, refl, sym, ap, ◌∙◌}
use Rattle.store_spec.proofs.Common.{append-nil, get_or_from_slice_get}
use Rattle.ballot_record.specs.BallotList.{ListedBallots}
use Rattle.phase_kind.proofs.Trays.{told_parts}
use Rattle.phase_insert.proofs.Trays.{one_accepted, one_other}
use Rattle.phase_insert.proofs.closing.push_if_accepted.Goals as goal
use Rattle.phase_insert.specs.declared.reply.CastReply.TheVariants.{Accepted}

pub returns-in_ok-push_from-in-Accepted-clause-pushed : goal.returns-in_ok-push_from-in-Accepted-clause-pushed
returns-in_ok-push_from-in-Accepted-clause-pushed c cast there =
    let tray = c.args.tray.now in
    let put = c.in_ok-push_from-in-Accepted.ensures.pushed in
    let parts = told_parts tray.items.ballots tray.replies.items c.args.place cast c.requires.paired there in
    let same : Some put.0 ≡ Some cast.item = sym put.1 ∙ parts.0 in
    let one : put.0 ≡ cast.item = cc in
    let reply : cast.reply ≡ Accepted = sym (get_or_from_slice_get tray.replies.items c.args.place cast.reply c.index.result.now parts.1) ∙ sym c.index.ensures ∙ c.in-Accepted.is in
    ap (λ (l : ListedBallots). l.ballots) put.2
    ∙ ap (λ b. c.args.accepted.now.ballots ++ b ∷ []) one
    ∙ ap (λ l. c.args.accepted.now.ballots ++ l) (sym (one_accepted cast reply))

pub returns-in_default : goal.returns-in_default
returns-in_default c = record {
  election = refl;
  pushed = λ cast there.
      let tray = c.args.tray.now in
      let parts = told_parts tray.items.ballots tray.replies.items c.args.place cast c.requires.paired there in
      let other : cast.reply ≢ Accepted = λ is. c.in_default.not-Accepted (c.index.ensures ∙ get_or_from_slice_get tray.replies.items c.args.place cast.reply c.index.result.now parts.1 ∙ is) in
      sym (ap (λ l. c.args.accepted.now.ballots ++ l) (one_other cast other) ∙ append-nil c.args.accepted.now.ballots);
}
