use Rattle.std.proofs.Common.{◌<◌}
use Rattle.store_spec.proofs.Common.{All, slice_range}
use Rattle.merge_media.proofs.adding.first_not_below.Given as goal

-- those before are below it
abbrev pub invariant-loop-at : goal.invariant-loop-at
invariant-loop-at l = All (λ b. b.number < l.number) (slice_range l.kept.ballots l.from l.at)
