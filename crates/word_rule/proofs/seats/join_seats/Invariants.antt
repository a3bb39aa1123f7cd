use Rattle.word_rule.proofs.Joining.{IsJoining}
use Rattle.word_rule.proofs.seats.join_seats.Given as goal
use Rattle.word_rule.specs.Places.{words_seen}

abbrev pub invariant-loop-seat : goal.invariant-loop-seat
invariant-loop-seat g l = IsJoining g.Q.PhaseRule.both g.Q.PhaseRule.rests (words_seen l.shared) l.fn.seats.items l.whole l.seat-iterator.rest.items
