use Rattle.std.proofs.Common.{◌≡◌, ◌+◌, ◌-◌, ◌≤◌, length}
use Rattle.outside_io.specs.Told.{IfTold}
use Rattle.run_command.specs.ElectionText.{election_limit}
use Rattle.run_command.proofs.Texts.{HasTaken}
use Rattle.run_command.proofs.election.read_text.Given as goal

-- what was read stands in front of what the source has left
abbrev pub invariant-pieces : goal.invariant-pieces
invariant-pieces g l = record {
  text : IfTold (g.E.Source.left l.initial.source) (g.E.Source.left l.source) (λ whole left. HasTaken l.text.items whole left);
  few : length l.text.items ≤ election_limit + 1;
  size : l.piece.len ≡ 65536;
  faults : g.E.Source.faults l.source ≡ g.E.Source.faults l.initial.source;
}

-- each piece has a byte or more
abbrev pub decreases-pieces : goal.decreases-pieces
decreases-pieces g l = election_limit + 1 - length l.text.items
