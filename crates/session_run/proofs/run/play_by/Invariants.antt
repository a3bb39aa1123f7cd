use Rattle.std.proofs.Common.{◌≡◌, ◌+◌, ◌≤◌}
use Rattle.store_spec.proofs.Common.{script_limit}
use Rattle.outside_io.specs.Outside.{output}
use Rattle.phase_gate.specs.Around.{around, rows_of}
use Rattle.any_store.specs.Beside.{AreRows}
use Rattle.any_store.specs.Disks.{store_model}
use Rattle.phase_gate.specs.Writing.{written_of}
use Rattle.session_run.proofs.Going.{HandledSoFar}
use Rattle.session_run.proofs.run.play_by.Given as goal
use Rattle.session_run.specs.History.{Stands}

-- the lines so far were handled, nothing of the script failed, and there is room for the number of a line
abbrev pub invariant-lines : goal.invariant-lines
invariant-lines g l = record {
  read : HandledSoFar (store_model g.Y.Store.closes g.M.Disks.disks)
      (written_of l.fn.session.writing) l.fn.session.election l.fn.session.state l.session.state l.index
      l.lines (g.S.Source.left l.fn.script) (g.S.Source.left l.script)
      (around (output g.K.Sink.taken g.K.Sink.faults l.fn.out) l.fn.disks l.fn.report)
      (around (output g.K.Sink.taken g.K.Sink.faults l.out) l.disks l.report);
  own : l.session.election ≡ l.fn.session.election;
  writing : l.session.writing ≡ l.fn.session.writing;
  counted : l.index + l.lines.room ≤ script_limit;
  no_fault : g.S.Source.faults l.script ≡ g.S.Source.faults l.fn.script;
  stands : Stands g.M.Disks.disks l.fn.disks l.disks
      l.report.marks.items;
  others : AreRows g.M.Disks.disks l.report.begun l.report.marks.items (rows_of l.report);
  begun : l.report.begun ≡ l.fn.report.begun;
  leads : g.M.Disks.leads_to l.fn.disks l.disks;
}

-- each line takes a byte or more of the room
abbrev pub decreases-lines : goal.decreases-lines
decreases-lines g l = l.lines.room
