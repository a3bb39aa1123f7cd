use Rattle.step_core.specs.Shape.{table_of}
use Rattle.store_spec.specs.CastStep.CastNote.{Quiet}
use Rattle.store_spec.proofs.Common.{Probing}
use Rattle.word_rule.proofs.CastProbes.{tries_left}
use Rattle.word_rule.proofs.cast.CastWords.claim.Given as goal
use Rattle.word_rule.specs.CastSeats.{CastsByRows, Probes}
use Rattle.word_rule.specs.CastWords.{IsAbout}

abbrev pub invariant-tries : goal.invariant-tries
invariant-tries l = record {
  about : IsAbout l.self (Probing l.number l.tries) l.seat;
  probes : Probes (table_of l.self.shape) l.number l.fn.seat.me.0.view Quiet l.seat.me.0.view;
  chain : CastsByRows (table_of l.self.shape) l.number l.fn.seat.me.0.view l.seat.me.0.view;
}

abbrev pub decreases-tries : goal.decreases-tries
decreases-tries l = tries_left (table_of l.self.shape) (Probing l.number l.tries)
