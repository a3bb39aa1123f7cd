use Rattle.std.proofs.Common.{◌∙◌, refl}
use Rattle.store_spec.proofs.Common.{disk_model}
use Rattle.merge_commands.proofs.Merged.{none_told, told_merged}
use Rattle.merge_commands.proofs.merge.merge.Goals as goal
use Rattle.merge_commands.specs.Merge.{MergeWrites}
use Rattle.outside_io.specs.Outside.{output}
use Rattle.run_outcome.proofs.Laws.{ended_with}
use Rattle.run_outcome.specs.declared.status.Status.TheVariants as status

pub returns : goal.returns
returns g c =
    let old = output g.K.Sink.taken g.K.Sink.faults c.args.out.now in
    let new = output g.K.Sink.taken g.K.Sink.faults c.write_out.new.out in
    record {
      tells = told_merged (disk_model g.D.Disk.seen g.D.Disk.calls g.D.Disk.may_leave g.D.Disk.faults) c.args.election.now c.write_out.result old new c.args.disk.now c.united.new.disk c.args.more.now c.united.new.more
          c.in_ok-count.count c.deref.result.now c.in_ok-count.ensures.merged (c.deref.ensures.value ∙ c.in_ok-line.ensures) c.write_out.ensures.all c.write_out.ensures.some c.write_out.ensures.failed c.write_out.ensures.fault;
      crashes = c.in_ok-count.ensures.crashes;
      throughout = c.in_ok-count.ensures.throughout;
      reads = c.in_ok-count.ensures.reads;
      told = c.in_ok-count.ensures.told;
    }

pub returns-in_err-line : goal.returns-in_err-line
returns-in_err-line g c =
    let model = disk_model g.D.Disk.seen g.D.Disk.calls g.D.Disk.may_leave g.D.Disk.faults in
    let e = c.args.election.now in
    let out = output g.K.Sink.taken g.K.Sink.faults c.args.out.now in
    let merges = c.in_ok-count.ensures.merged in
    record {
      tells = ended_with c.from_residual-in_err-line.result status.Memory (λ a. MergeWrites model e a out out c.args.disk.now c.united.new.disk c.args.more.now c.united.new.more) c.from_residual-in_err-line.ensures.1
          (none_told model e c.args.disk.now c.united.new.disk c.args.more.now c.united.new.more c.in_ok-count.count merges, refl);
      crashes = c.in_ok-count.ensures.crashes;
      throughout = c.in_ok-count.ensures.throughout;
      reads = c.in_ok-count.ensures.reads;
      told = c.in_ok-count.ensures.told;
    }
