use Rattle.std.proofs.Common.{◌≡◌}
use Rattle.outside_io.proofs.Reading.{ReadSoFar}
use Rattle.outside_io.specs.Outside.{output}
use Rattle.sample_commands.proofs.Telling.{Replied}
use Rattle.sample_commands.proofs.compare.answer_lines.Given as goal

-- the lines so far were answered, and nothing failed
abbrev pub invariant-lines : goal.invariant-lines
invariant-lines g l = record {
  read : ReadSoFar (Replied l.election l.initial.compare.sample (output g.K.Sink.taken g.K.Sink.faults l.initial.out) (output g.K.Sink.taken g.K.Sink.faults l.out) l.compare.rest l.count)
      l.lines (g.S.Source.left l.initial.script) (g.S.Source.left l.script);
  sample : l.compare.sample ≡ l.initial.compare.sample;
  steady : g.S.Source.faults l.script ≡ g.S.Source.faults l.initial.script;
}

-- each line takes a byte or more of the room
abbrev pub decreases-lines : goal.decreases-lines
decreases-lines g l = l.lines.room
