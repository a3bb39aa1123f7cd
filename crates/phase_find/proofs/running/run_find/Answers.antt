use Rattle.std.proofs.Common.{◌≡◌, ◌∙◌, ◌++◌, ap, arith, drop, length, map, sym, take}
use Rattle.store_spec.proofs.Common.{map-map, take_at}
use Rattle.phase_find.specs.Present.{is_present}
use Rattle.phase_find.proofs.running.run_find.Goals as goal

pub returns : goal.returns
returns g c =
    let before = c.in_ok-found.found in
    let found = c.look_up_all.new.found in
    let whole : take before.len (found ++ drop (length found) before.items) ≡ found =
    take_at found (drop (length found) before.items) before.len
    (omega (arith, c.look_up_all.ensures.as_many, c.deref_mut.ensures.len, before.ok)) in
    ap (map (λ list. list.items)) whole ∙ c.look_up_all.ensures.answers
    ∙ sym (map-map (map (is_present c.args.closed.now.ballots)) (λ list. list.items) c.args.work.now)
