use Rattle.std.proofs.Common.{◌≡◌, ◌∙◌, ◌++◌, [], ap, arith, get_or, refl, replicate}
use Rattle.schedule_replay.specs.Script.{lists_of}
use Rattle.schedule_replay.proofs.Takings.{form_one, line_of_one, first_number, took_kind}
use Rattle.schedule_replay.proofs.script.Script.take_kind.Goals as goal

pub returns : goal.returns
returns c e parts h =
    let old = c.args.self.now in
    let numbers = c.args.numbers.now in
    let form = form_one c.args.kind numbers c.requires.read.form in
    let named = first_number numbers [] form.0 c.requires.read.each in
    let count : c.loop.counter ≡ get_or numbers 0 0 = omega (arith, c.loop-test.false, c.loop.auto.counter-end) in
    line_of_one c.args.kind numbers e _ parts form.0
    (took_kind e old _ c.args.kind (get_or numbers 0 0) c.requires.stage refl refl c.loop.invariant.1 (c.loop.invariant.0 ∙ ap (λ n. lists_of old ++ replicate n []) count) c.loop.invariant.2 (named.0).0 form.1 parts h)
