use Rattle.std.proofs.Common.{◌≡◌, ◌↔◌}
use Rattle.ballot_record.proofs.Fitting.{FitUpTo}
use Rattle.ballot_record.proofs.record.Record.has_marks.Given as goal

-- the mark sets so far
abbrev pub invariant-known : goal.invariant-known
invariant-known l = l.marked ≡ 0 ↔ FitUpTo l.election l.self.style l.self.marks l.place

abbrev pub invariant-others : goal.invariant-others
invariant-others l = l.marked ≡ 0 ↔ FitUpTo l.election l.self.style l.self.marks l.place
