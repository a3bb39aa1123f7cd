use Rattle.std.proofs.Common.{◌≡◌, ◌++◌, [], ◌∷◌, All, List, ap, length, map-id, ◌∙◌, rules, subst, sym}
use Rattle.store_spec.proofs.Common.{All-push, YieldsList-end, YieldsList-from_vec, YieldsList-turn, map_push}
use Rattle.phase_kind.proofs.Trays.{front_and_last}
use Rattle.phase_kind.proofs.closing.taken_apart.Goals as goal
use Rattle.phase_kind.specs.Phase.{OpenPhase}
use Rattle.phase_kind.specs.AnsweredItem.{AnsweredItem, answered_items}
use Rattle.phase_kind.specs.Worker.{AreSeatsAndTrays, WorkerView, seat_of}
use Rattle.phase_kind.specs.declared.tray.Tray.{Tray}
use Rattle.word_rule.specs.Places.{Place}

pub take_apart-requires-clause-idle : goal.take_apart-requires-clause-idle
take_apart-requires-clause-idle g c κs within =
    let workers = c.args.workers.items in
    let turn = YieldsList-turn (YieldsList-from_vec workers (search rules) (search rules)) c.loop-worker.yielded c.loop-worker.worker-iterator c.loop-worker.yielded_by c.next.result c.next.new.self c.in-Some.worker c.in-Some.is c.next.ensures.steps in
    subst (λ (w : WorkerView g.row.K-Sight.Denot g.row.K-Item.Denot g.row.K-Reply.Denot). w.waiting ≡ []) (sym turn.1) (c.requires (length c.loop-worker.yielded) c.in-Some.worker turn.0)

pub take_apart-requires-clause-paired : goal.take_apart-requires-clause-paired
take_apart-requires-clause-paired g c κs within = c.loop-worker.invariant.paired

pub loop-worker-preserved : goal.loop-worker-preserved
loop-worker-preserved g c =
    let k = g.K.Kind in
    let W = WorkerView g.row.K-Sight.Denot g.row.K-Item.Denot g.row.K-Reply.Denot in
    let T = Tray g.row.K-List.Denot g.row.K-Reply.Denot in
    let i = c.loop-worker.invariant in
    let before = c.loop-worker.yielded in
    let worker = c.in-Some.worker in
    let e = c.in_ok-take_apart.ensures in
    record {
      seats_are = e.seats ∙ ap (λ (l : List (Place g.row.K-Sight.Denot)). l ++ seat_of worker ∷ []) i.seats_are ∙ sym (map_push (λ (w : W). seat_of w) before worker);
      trays_are = e.trays ∙ ap (λ (l : List (List (AnsweredItem g.row.K-Item.Denot g.row.K-Reply.Denot))). l ++ worker.tray ∷ []) i.trays_are ∙ sym (map_push (λ (w : W). w.tray) before worker);
      of_base = λ phase belong.
          let both = front_and_last (λ (w : W). w.phase ≡ phase) before worker belong in
          subst (λ (p : OpenPhase). All (λ (t : T). k.is_of p.base t.items) c.take_apart.new.trays.items) both.1
          (e.is_of (subst (λ (p : OpenPhase). All (λ (t : T). k.is_of p.base t.items) c.loop-worker.trays.items) (sym both.1) (i.of_base phase both.0)));
      paired = e.paired;
      all_told = All-push (λ (w : W). k.tells w.phase w.seat w.tray) before worker i.all_told e.told;
    }

pub returns : goal.returns
returns g c =
    let k = g.K.Kind in
    let W = WorkerView g.row.K-Sight.Denot g.row.K-Item.Denot g.row.K-Reply.Denot in
    let T = Tray g.row.K-List.Denot g.row.K-Reply.Denot in
    let end = YieldsList-end (YieldsList-from_vec c.args.workers.items (search rules) (search rules)) c.loop-worker.yielded c.loop-worker.worker-iterator c.loop-worker.yielded_by c.next.result c.next.new.self c.in-None.is c.next.ensures.steps in
    subst (λ (ws : List W). AreSeatsAndTrays k.standing (λ (t : T). answered_items (k.items t.items) t.replies.items) (λ base (t : T). k.is_of base t.items) (λ (t : T). length (k.items t.items) ≡ length t.replies.items) k.tells ws c.loop-worker.seats.items c.loop-worker.trays.items) (sym (map-id c.loop-worker.yielded) ∙ end.0) c.loop-worker.invariant
