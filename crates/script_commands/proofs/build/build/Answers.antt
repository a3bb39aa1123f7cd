use Rattle.std.proofs.Common.{◌≡◌, ℕ, List, ◌++◌, Err, ap, ap₂, subst, refl, sym, ◌∙◌}
use Rattle.store_spec.proofs.Common.{cell_bytes, flat_map, image_of}
use Rattle.outside_io.specs.Outside.{input, output, outside}
use Rattle.outside_io.specs.Stream.{TakesAll, TakesSome}
use Rattle.run_outcome.proofs.Laws.{ended_told, ended_with}
use Rattle.run_outcome.specs.declared.status.Status.TheVariants.{Memory}
use Rattle.script_commands.proofs.Building.{no_memory, script_refused, writes_image}
use Rattle.script_commands.specs.Ballots.{ballots_so_far}
use Rattle.script_commands.specs.Build.{BuildEnds}
use Rattle.script_commands.specs.declared.build.script.ScriptFault.TheVariants.{ReadFault}
use Rattle.script_commands.proofs.build.build.Goals as goal

pub returns-in-Err : goal.returns-in-Err
returns-in-Err g c =
    let sink = output g.K.Sink.taken g.K.Sink.faults c.args.out.now in
    let before = outside (input g.S.Source.left g.S.Source.faults c.args.script.now) sink in
    let after = outside (input g.S.Source.left g.S.Source.faults c.read_ballots.new.script) sink in
    let fault = c.in-Err.fault in
    subst (λ status. BuildEnds c.args.election.now status before after) (sym c.status_of.ensures)
    (script_refused c.args.election.now fault before after c.in-Err.ensures.reads refl (record {
      never_falls = c.in-Err.ensures.fault.never_falls;
      steady = λ other. c.in-Err.ensures.fault.steady (λ is. other (let same : fault ≡ ReadFault = cc in same));
      rose = λ is. c.in-Err.ensures.fault.rose (ap Err is);
    }))

pub returns-in_err-cells : goal.returns-in_err-cells
returns-in_err-cells g c =
    let sink = output g.K.Sink.taken g.K.Sink.faults c.args.out.now in
    let before = outside (input g.S.Source.left g.S.Source.faults c.args.script.now) sink in
    let after = outside (input g.S.Source.left g.S.Source.faults c.read_ballots.new.script) sink in
    ended_with c.from_residual.result Memory (λ status. BuildEnds c.args.election.now status before after) c.from_residual.ensures.1
    (no_memory c.args.election.now (ballots_so_far c.in-Ok.ballots) before after c.in-Ok.ensures.reads refl (c.in-Ok.ensures.fault.steady (λ failed. cc)))

pub returns-in_err-page : goal.returns-in_err-page
returns-in_err-page g c =
    let sink = output g.K.Sink.taken g.K.Sink.faults c.args.out.now in
    let before = outside (input g.S.Source.left g.S.Source.faults c.args.script.now) sink in
    let after = outside (input g.S.Source.left g.S.Source.faults c.read_ballots.new.script) sink in
    ended_with c.from_residual-in_err-page.result Memory (λ status. BuildEnds c.args.election.now status before after) c.from_residual-in_err-page.ensures.1
    (no_memory c.args.election.now (ballots_so_far c.in-Ok.ballots) before after c.in-Ok.ensures.reads refl (c.in-Ok.ensures.fault.steady (λ failed. cc)))

pub returns : goal.returns
returns g c =
    let before = outside (input g.S.Source.left g.S.Source.faults c.args.script.now) (output g.K.Sink.taken g.K.Sink.faults c.args.out.now) in
    let after = outside (input g.S.Source.left g.S.Source.faults c.read_ballots.new.script) (output g.K.Sink.taken g.K.Sink.faults c.put_cells.new.out) in
    let e = c.args.election.now in
    let listing = ballots_so_far c.in-Ok.ballots in
    let sound = c.in-Ok.ensures.sound in
    let bytes = c.in_ok-page.page.items ++ flat_map (cell_bytes e listing) c.deref.result.now in
    let image : bytes ≡ image_of e listing =
    ap₂ (λ (header cells : List ℕ). header ++ flat_map (cell_bytes e listing) cells) c.in_ok-page.ensures.header (c.deref.ensures.value ∙ c.in_ok-cells.ensures) in
    let written = λ (Takes : List ℕ → Type 0) (takes : Takes bytes).
    writes_image e listing bytes before after Takes c.in-Ok.ensures.reads sound.listing sound.within_limit image takes in
    ended_told c.put_cells.result _ _ before.sink.faults after.sink.faults (λ status. BuildEnds e status before after) c.put_cells.ensures.all c.put_cells.ensures.some c.put_cells.ensures.failed c.put_cells.ensures.fault
    (λ told steady. (
      written (λ image. TakesAll before.sink.taken image after.sink.taken) told,
      record { script = c.in-Ok.ensures.fault.steady (λ failed. cc); sink = steady },
    ))
    (λ cut rose. (written (λ image. TakesSome before.sink.taken image after.sink.taken) cut, rose))
