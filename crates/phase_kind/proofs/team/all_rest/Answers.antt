use Rattle.std.proofs.Common.{All, get_or, subst, sym, take}
use Rattle.store_spec.proofs.Common.{All-nil, All-push, take_all, take_more}
use Rattle.phase_kind.proofs.team.all_rest.Goals as goal
use Rattle.phase_kind.specs.Worker.{WorkerView}

pub loop-worker-init : goal.loop-worker-init
loop-worker-init g c = All-nil (λ (worker : WorkerView g.row.K-Sight.Denot g.row.K-Item.Denot g.row.K-Reply.Denot). g.K.Kind.rests worker.seat)

pub loop-worker-preserved : goal.loop-worker-preserved
loop-worker-preserved g c =
    let W = WorkerView g.row.K-Sight.Denot g.row.K-Item.Denot g.row.K-Reply.Denot in
    let Rests : W → Type 0 = λ worker. g.K.Kind.rests worker.seat in
    let team = c.args.team.now in
    let index = c.loop-worker.worker-index in
    let worker = c.worker-item.result in
    subst (All Rests) (sym (take_more team index worker c.loop-worker-test.true))
    (All-push Rests (take index team) (get_or team index worker) c.loop-worker.invariant
    (subst Rests c.worker-item.is (c.trays_tell.ensures.at_rest worker.phase worker.seat worker.tray c.room.ensures.told)))

pub returns : goal.returns
returns g c =
    let W = WorkerView g.row.K-Sight.Denot g.row.K-Item.Denot g.row.K-Reply.Denot in
    subst (All (λ (worker : W). g.K.Kind.rests worker.seat)) (take_all c.loop-worker.worker-index c.args.team.now c.loop-worker-test.false) c.loop-worker.invariant
