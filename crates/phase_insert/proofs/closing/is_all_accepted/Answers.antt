use Rattle.std.proofs.Common.{◌≡◌, get_or, take, sym, subst, ◌∙◌, arith}
use Rattle.store_spec.proofs.Common.{All, All-push, get_or_default, take_all, take_more}
use Rattle.phase_insert.proofs.closing.is_all_accepted.Goals as goal
use Rattle.phase_insert.specs.declared.reply.CastReply.{CastReply}
use Rattle.phase_insert.specs.declared.reply.CastReply.TheVariants.{Accepted}

pub loop-reply-preserved : goal.loop-reply-preserved
loop-reply-preserved c =
    let replies = c.args.replies.now in
    let at = c.loop-reply.reply-index in
    let is : get_or replies at Accepted ≡ Accepted =
    get_or_default replies at Accepted _ c.loop-reply-test.true ∙ c.was_not_accepted.ensures c.if-was_not_accepted.false in
    subst (All (λ (reply : CastReply). reply ≡ Accepted)) (sym (take_more replies at Accepted c.loop-reply-test.true))
    (All-push (λ (reply : CastReply). reply ≡ Accepted) (take at replies) (get_or replies at Accepted) c.loop-reply.invariant is)

pub returns : goal.returns
returns c _ =
    let replies = c.args.replies.now in
    subst (All (λ (reply : CastReply). reply ≡ Accepted)) (take_all c.loop-reply.reply-index replies (omega (arith, c.loop-reply-test.false))) c.loop-reply.invariant
