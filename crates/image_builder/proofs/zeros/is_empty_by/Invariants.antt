use Rattle.std.proofs.Common.{◌≡◌, ℕ, ◌-◌, ◌+◌, ◌<◌, get_or}
use Rattle.image_builder.proofs.zeros.is_empty_by.Given as goal

-- the bytes so far
abbrev pub invariant-loop-from : goal.invariant-loop-from
invariant-loop-from l = record {
  within : l.from < l.last + l.step;
  zeros : (k : ℕ) → k < l.from → get_or l.cell k 0 ≡ 0;
}

abbrev pub decreases-loop-from : goal.decreases-loop-from
decreases-loop-from l = l.last - l.from
