use Rattle.std.proofs.Common.{◌≡◌, ◌+◌, length}
use Rattle.phase_kind.proofs.Listed.{IsUnderWay}
use Rattle.phase_kind.proofs.running.answer_waiting.Given as goal

abbrev pub invariant-loop-index : goal.invariant-loop-index
invariant-loop-index g l = record {
  on : IsUnderWay g.K.Kind.rests l.initial.worker l.worker;
  left : length l.worker.waiting + l.index ≡ length l.initial.worker.waiting;
}
