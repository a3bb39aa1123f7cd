use Rattle.std.proofs.Common.{◌-◌, ◌<◌, ◌∷◌, ◌++◌, [], length, map, arith, ap, ◌∙◌}
use Rattle.store_spec.proofs.Common.{length-map, map-set_same, queued}
use Rattle.phase_gate.proofs.Queues.{on_any_err, queued_there}
use Rattle.phase_gate.proofs.waiting.queue.Goals as goal

pub returns-clause-goes : goal.returns-clause-goes
returns-clause-goes g c =
    let lists = c.args.lists.now.items in
    let place = c.from-place.result in
    let within : place - 1 < length lists = omega arith in (
      omega (arith, length-map lists (λ list. list.items)),
      queued_there (λ list. list.items) lists place c.index_mut.result.now c.push.new.self c.args.item within
          (c.in_ok-push.ensures.items ∙ ap (λ v. v.items ++ c.args.item ∷ []) c.index_mut.ensures.value)
          ∙ ap (λ t. queued (map (λ list. list.items) lists) t c.args.item) c.from-place.ensures,
    )

pub returns-in_err-push-clause-unchanged : goal.returns-in_err-push-clause-unchanged
returns-in_err-push-clause-unchanged g c =
    on_any_err c.from_residual.result
    (map-set_same (λ list. list.items) c.args.lists.now.items (c.from-place.result - 1) c.push.new.self
    c.index_mut.result.now (c.in_err-push.ensures.items ∙ ap (λ v. v.items) c.index_mut.ensures.value))
