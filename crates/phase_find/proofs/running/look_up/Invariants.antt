use Rattle.std.proofs.Common.{◌≡◌, ℕ, ◌<◌, length, get_or, false}
use Rattle.phase_find.specs.Present.{is_present}
use Rattle.phase_find.proofs.running.look_up.Given as goal

-- the first numbers are answered
abbrev pub invariant-loop-index : goal.invariant-loop-index
invariant-loop-index g l = record {
  as_many : length l.found ≡ length l.list;
  answered : (k : ℕ) → k < l.index → get_or l.found k false ≡ is_present l.closed.ballots (get_or l.list k 0);
}
