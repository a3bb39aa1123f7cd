use Rattle.std.proofs.Common.{◌≡◌, take}
use Rattle.store_spec.proofs.Common.{All}
use Rattle.phase_insert.proofs.closing.is_all_accepted.Given as goal
use Rattle.phase_insert.specs.declared.reply.CastReply.TheVariants.{Accepted}

-- those so far were accepted
abbrev pub invariant-loop-reply : goal.invariant-loop-reply
invariant-loop-reply l = All (λ reply. reply ≡ Accepted) (take l.reply-index l.replies)
