use Rattle.std.proofs.Common.{◌≡◌, ℕ, ◌+◌, ◌<◌, get_or}
use Rattle.store_spec.proofs.Common.{bit_at}
use Rattle.tally_export.proofs.counts.add_choices.Given as goal

-- the choices that are left are not counted yet
abbrev pub invariant-loop-rest : goal.invariant-loop-rest
invariant-loop-rest l =
    (c : ℕ) → c < 64 → get_or l.counts c 0 + bit_at l.rest c ≡ get_or l.fn.counts c 0 + bit_at l.set c

abbrev pub decreases-loop-rest : goal.decreases-loop-rest
decreases-loop-rest l = l.rest
