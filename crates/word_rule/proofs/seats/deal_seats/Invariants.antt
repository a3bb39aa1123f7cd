use Rattle.std.proofs.Common.{◌≡◌, ◌+◌, length}
use Rattle.word_rule.proofs.Dealing.{IsDealing}
use Rattle.word_rule.proofs.seats.deal_seats.Given as goal

-- as many seats are cut off as the loop has counted
abbrev pub invariant-loop : goal.invariant-loop
invariant-loop g l = record {
  dealing : IsDealing l.shared g.Q.PhaseRule.fresh l.count l.first l.seats.items;
  made : length l.seats.items + 1 ≡ l.counter;
}
