use Rattle.std.proofs.Common.{◌<◌, length, get_or, sym, subst, arith}
use Rattle.store_spec.proofs.Common.{All, All-nil, All-push, Ballot, slice_range}
use Rattle.ballot_record.proofs.BallotNumbers.{no_ballot, number_at}
use Rattle.merge_media.proofs.Ranges.{range_more, range_none}
use Rattle.merge_media.proofs.adding.first_not_below.Goals as goal

pub loop-at-init : goal.loop-at-init
loop-at-init c =
    let P : Ballot → Type 0 = λ b. b.number < c.args.number in
    subst (All P) (sym (range_none c.args.kept.now.ballots c.args.from)) (All-nil P)

pub loop-at-preserved : goal.loop-at-preserved
loop-at-preserved c =
    let kept = c.args.kept.now.ballots in
    let at = c.loop-at.at in
    let P : Ballot → Type 0 = λ b. b.number < c.args.number in
    let within : at < length kept = omega arith in
    let here : (get_or kept at no_ballot).number < c.args.number = omega (arith, number_at kept at 0 within) in
    subst (All P) (sym (range_more kept c.args.from at no_ballot (omega arith) within))
    (All-push P (slice_range kept c.args.from at) (get_or kept at no_ballot) c.loop-at.invariant here)
