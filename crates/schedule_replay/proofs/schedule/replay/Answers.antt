use Rattle.std.proofs.Common.{◌≡◌, ℕ, List, Err, ap, subst, refl, ◌∙◌}
use Rattle.store_spec.proofs.Common.{string_bytes}
use Rattle.outside_io.specs.Stream.{TakesAll, TakesSome}
use Rattle.schedule_replay.proofs.Ending.{ends_with, no_memory, script_refused, writes_replay}
use Rattle.outside_io.specs.Outside.{input, output, outside}
use Rattle.schedule_replay.specs.declared.fault.ReplayFault.TheVariants.{Memory, ReadFault, WriteFault}
use Rattle.schedule_replay.proofs.schedule.replay.Goals as goal

pub returns-in_err-input : goal.returns-in_err-input
returns-in_err-input g c =
    let sink = output g.K.Sink.taken g.K.Sink.faults c.args.out.now in
    let before = outside (input g.S.Source.left g.S.Source.faults c.args.script.now) sink in
    let after = outside (input g.S.Source.left g.S.Source.faults c.read_script.new.source) sink in
    let fault = c.in_err-input.field-0.0 in
    let read = c.in_err-input.ensures in
    ends_with c.args.election.now c.from_residual.result fault before after c.from_residual.ensures.1
    (script_refused c.args.election.now fault before after read.other read.refused refl (record {
      never_falls = read.fault.never_falls;
      steady = λ other. read.fault.steady (λ is. other (let same : fault ≡ ReadFault = cc in same));
      rose = λ is. read.fault.rose (ap Err is);
    }))

pub returns-in_err-text : goal.returns-in_err-text
returns-in_err-text g c =
    let sink = output g.K.Sink.taken g.K.Sink.faults c.args.out.now in
    let before = outside (input g.S.Source.left g.S.Source.faults c.args.script.now) sink in
    let after = outside (input g.S.Source.left g.S.Source.faults c.read_script.new.source) sink in
    let read = c.in_ok-input.ensures in
    ends_with c.args.election.now c.from_residual-in_err-text.result Memory before after c.from_residual-in_err-text.ensures.1
    (no_memory c.args.election.now c.in_ok-input.input before after read.input refl (read.fault.steady (λ failed. cc)))

pub returns-in_err-write_all : goal.returns-in_err-write_all
returns-in_err-write_all g c =
    let before = outside (input g.S.Source.left g.S.Source.faults c.args.script.now) (output g.K.Sink.taken g.K.Sink.faults c.args.out.now) in
    let after = outside (input g.S.Source.left g.S.Source.faults c.read_script.new.source) (output g.K.Sink.taken g.K.Sink.faults c.write_all.new.self) in
    let bytes = c.as_bytes.ensures.value ∙ c.as_str.ensures.value in
    let Takes : List ℕ → Type 0 = λ text. TakesSome before.sink.taken text after.sink.taken in
    ends_with c.args.election.now c.from_residual-in_err-write_all.result WriteFault before after c.from_residual-in_err-write_all.ensures.1 (
      writes_replay c.args.election.now c.in_ok-input.input (string_bytes c.in_ok-text.text) before after Takes c.in_ok-input.ensures.input c.in_ok-text.ensures
          (subst Takes bytes c.in_err-write_all.ensures.some),
      c.in_err-write_all.ensures.fault.rose,
    )

pub returns : goal.returns
returns g c =
    let before = outside (input g.S.Source.left g.S.Source.faults c.args.script.now) (output g.K.Sink.taken g.K.Sink.faults c.args.out.now) in
    let after = outside (input g.S.Source.left g.S.Source.faults c.read_script.new.source) (output g.K.Sink.taken g.K.Sink.faults c.write_all.new.self) in
    let bytes = c.as_bytes.ensures.value ∙ c.as_str.ensures.value in
    let Takes : List ℕ → Type 0 = λ text. TakesAll before.sink.taken text after.sink.taken in (
      writes_replay c.args.election.now c.in_ok-input.input (string_bytes c.in_ok-text.text) before after Takes c.in_ok-input.ensures.input c.in_ok-text.ensures
          (subst Takes bytes c.in_ok-write_all.ensures.all),
      record { script = c.in_ok-input.ensures.fault.steady (λ failed. cc); sink = c.in_ok-write_all.ensures.fault.steady },
    )
