use Rattle.std.proofs.Common.{◌≡◌, ◌<◌, [], arith, get_or, length, subst}
use Rattle.phase_kind.proofs.Listed.{at_both}
use Rattle.phase_kind.proofs.Sent.{worker_send}
use denote.Exit.{no}
use denote.Param.{copied, param}
use denote.Param.Send.{arg_send, param_send}
use Rattle.phase_kind.proofs.running.run_waiting.Goals as goal
use Rattle.phase_kind.specs.Worker.{HasFinished, WorkerView}

pub for_each_mut-requires-send-T : goal.for_each_mut-requires-send-T
for_each_mut-requires-send-T g c κs within =
    let row = g.row in
    param_send 1 _
    (arg_send _ no _
    (worker_send (param 2 row.K) (param 3 row.K-Sight) (param 4 row.K-Words) (param 5 row.K-Seat) (param 6 row.K-Item) (param 7 row.K-List) (copied 8 row.K-Reply) (param 9 row.K-Final) g.K.Kind c.type_bounds.send-K-Seat c.type_bounds.send-K-List c.type_bounds.send-K-Reply))

pub returns-clause-finished : goal.returns-clause-finished
returns-clause-finished g c = at_both (HasFinished g.K.Kind.rests) c.args.workers.now c.for_each_mut.new.s c.for_each_mut.auto.s
    (λ k worker within.
    let W = WorkerView g.row.K-Sight.Denot g.row.K-Item.Denot g.row.K-Reply.Denot in
    let at = (c.for_each_mut.ensures k worker within).1 in
    let finished : HasFinished g.K.Kind.rests at.argument.now at.after_call.now = at.call.1 in
    subst (λ (t : W). HasFinished g.K.Kind.rests t (get_or c.for_each_mut.new.s k worker)) {x = at.argument.now} {y = get_or c.args.workers.now k worker} at.argument_is
    (subst (λ (t : W). HasFinished g.K.Kind.rests at.argument.now t) {x = at.after_call.now} {y = get_or c.for_each_mut.new.s k worker} at.left finished))

pub returns-clause-idle : goal.returns-clause-idle
returns-clause-idle g c k d within =
    let before : k < length c.args.workers.now = omega (arith, within, c.for_each_mut.auto.s) in
    let at = (c.for_each_mut.ensures k d before).1 in
    let finished : HasFinished g.K.Kind.rests at.argument.now at.after_call.now = at.call.1 in
    subst (λ (t : WorkerView g.row.K-Sight.Denot g.row.K-Item.Denot g.row.K-Reply.Denot). t.waiting ≡ []) {x = at.after_call.now} {y = get_or c.for_each_mut.new.s k d} at.left finished.idle
