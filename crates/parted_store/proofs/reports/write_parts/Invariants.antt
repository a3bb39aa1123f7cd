use Rattle.std.proofs.Common.{◌≡◌, take}
use Rattle.outside_io.specs.Stream.{TakesAll}
use Rattle.parted_store.proofs.reports.write_parts.Given as goal
use Rattle.partition_store.specs.Parted.{joined}
use Rattle.tally_export.specs.Exported.{records_text}

-- the lines of the parts so far were written
abbrev pub invariant-parts : goal.invariant-parts
invariant-parts g l = record {
  written : TakesAll (g.K.Sink.taken l.initial.out)
      (records_text l.store.election (joined (take l.place l.store.sets))) (g.K.Sink.taken l.out);
  steady : g.K.Sink.faults l.out ≡ g.K.Sink.faults l.initial.out;
}
