use Rattle.std.proofs.Common.{◌≡◌, ◌++◌, drop}
use Rattle.outside_io.proofs.Written.{IsWritten}
use Rattle.tally_export.specs.Exported.{records_text}
use Rattle.tally_export.proofs.lines.put_records.Given as goal

-- what was gathered before and the lines of the first ballots are written or gathered
abbrev pub invariant-records : goal.invariant-records
invariant-records g l = record {
  written : IsWritten (g.K.Sink.taken l.initial.out) (g.K.Sink.taken l.out) l.text.items
      (records_text l.closed.election (drop l.place-index l.closed.ballots))
      (l.initial.text.items ++ records_text l.closed.election l.closed.ballots);
  steady : g.K.Sink.faults l.out ≡ g.K.Sink.faults l.initial.out;
}
