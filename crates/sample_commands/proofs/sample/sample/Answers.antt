use Rattle.std.proofs.Common.{◌∙◌, List, ℕ}
use Rattle.store_spec.proofs.Common.{disk_model}
use Rattle.outside_io.specs.Outside.{output}
use Rattle.outside_io.specs.Stream.{TakesAll, TakesSome}
use Rattle.run_outcome.proofs.Laws.{ended_told}
use Rattle.sample_commands.proofs.Sampling.{drawn_valid, text_drawn}
use Rattle.sample_commands.specs.Sample.{SampleWrites}
use Rattle.sample_commands.proofs.sample.sample.Goals as goal

pub text_of-requires : goal.text_of-requires
text_of-requires g c =
    drawn_valid (disk_model g.D.Disk.seen g.D.Disk.calls g.D.Disk.may_leave g.D.Disk.faults) c.args.election.now c.args.asked.now c.in_ok-records.records.items c.deref.result.now c.args.disk.now c.drawn.new.disk c.in_ok-records.ensures.drawn c.deref.ensures.value

pub returns : goal.returns
returns g c =
    let model = disk_model g.D.Disk.seen g.D.Disk.calls g.D.Disk.may_leave g.D.Disk.faults in
    let e = c.args.election.now in
    let asked = c.args.asked.now in
    let old = output g.K.Sink.taken g.K.Sink.faults c.args.out.now in
    let new = output g.K.Sink.taken g.K.Sink.faults c.write_out.new.out in
    let before = c.args.disk.now in
    let after = c.drawn.new.disk in
    let bytes = c.deref-2.ensures.value ∙ c.in_ok-text.ensures in
    let written = λ (Takes : List ℕ → Type 0) (takes : Takes c.deref-2.result.now).
    text_drawn model e asked c.in_ok-records.records.items c.deref.result.now c.deref-2.result.now before after Takes c.in_ok-records.ensures.drawn c.deref.ensures.value bytes takes in
    record {
      tells = ended_told c.write_out.result _ _ old.faults new.faults (λ status. SampleWrites model e asked status old new before after) c.write_out.ensures.all c.write_out.ensures.some c.write_out.ensures.failed c.write_out.ensures.fault
          (λ told steady. (written (λ text. TakesAll old.taken text new.taken) told, steady))
          (λ cut rose. (written (λ text. TakesSome old.taken text new.taken) cut, rose));
      writes_nothing = c.in_ok-records.ensures.reads;
    }
