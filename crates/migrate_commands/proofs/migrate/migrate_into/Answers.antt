use Rattle.std.proofs.Common.{◌∙◌}
use Rattle.store_spec.proofs.Common.{disk_model}
use Rattle.migrate_commands.proofs.Migrated.{told_migrated}
use Rattle.migrate_commands.proofs.migrate.migrate_into.Goals as goal
use Rattle.outside_io.specs.Outside.{output}

pub returns : goal.returns
returns g c =
    let old = output g.K.Sink.taken g.K.Sink.faults c.args.out.now in
    let new = output g.K.Sink.taken g.K.Sink.faults c.write_out.new.out in
    record {
      tells = told_migrated (disk_model g.D.Disk.seen g.D.Disk.calls g.D.Disk.may_leave g.D.Disk.faults) c.args.election.now c.args.disk.now c.filled.new.disk c.args.target.now c.filled.new.target
          c.write_out.result old new c.in_ok-count.count c.deref.result.now c.in_ok-count.ensures.migrated (c.deref.ensures.value ∙ c.in_ok-line.ensures)
          c.write_out.ensures.all c.write_out.ensures.some c.write_out.ensures.failed c.write_out.ensures.fault;
      crashes = c.in_ok-count.ensures.crashes;
      reads = c.in_ok-count.ensures.reads;
      told = c.in_ok-count.ensures.told;
    }
