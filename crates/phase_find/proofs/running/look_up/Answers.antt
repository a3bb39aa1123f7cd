use Rattle.std.proofs.Common.{◌≡◌, ◌∙◌, arith, false, length, map, sym}
use Rattle.store_spec.proofs.Common.{ext_get_or, get_or-map, length-map}
use Rattle.phase_find.specs.Present.{is_present}
use Rattle.phase_find.proofs.running.look_up.Goals as goal

pub returns : goal.returns
returns g c =
    let found = c.loop-index.found in
    let list = c.args.list.now in
    let answer = is_present c.args.closed.now.ballots in
    let many : length found ≡ length (map answer list) =
    c.loop-index.invariant.as_many ∙ sym (length-map list answer) in
    ext_get_or false found (map answer list) many (λ i within.
    c.loop-index.invariant.answered i (omega (arith, c.loop-index.auto.index-end, c.loop-index-test.false))
    ∙ sym (get_or-map answer list i 0 false (omega (arith, c.loop-index.invariant.as_many))))
