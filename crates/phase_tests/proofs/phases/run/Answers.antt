use Rattle.std.proofs.Common.{◌≡◌, ◌≤◌, ◌∙◌, ◌++◌, [], ◌∷◌, ℕ, All, List, ap, arith, drop, length, map, refl, subst, sym, take}
use Rattle.store_spec.proofs.Common.{All-cons, All-map, All-nil, length-map, take_at, zip}
use Rattle.phase_kind.specs.Worker.{AreAll, WorkerView, new_worker}
use Rattle.phase_tests.proofs.phases.run.Goals as goal

-- workers that are planned by their lists have room for them
planned_room : {A V : Type 0} (room : A → ℕ) (made : ℕ → A) (size : V → ℕ) → ((n : ℕ) → n ≤ room (made n)) → (work : List V) → All (λ at. size at.1 ≤ room at.0) (zip (map made (map size work)) work)
planned_room {A} {V} room made size right [] = All-nil (λ (at : A × V). size at.1 ≤ room at.0)
planned_room {A} {V} room made size right (list ∷ work) =
    All-cons (λ (at : A × V). size at.1 ≤ room at.0) (made (size list), list) (zip (map made (map size work)) work) (right (size list)) (planned_room room made size right work)

pub run-requires-clause-belong : goal.run-requires-clause-belong
run-requires-clause-belong g c κs bounds =
    let W = WorkerView g.row.K-Sight.Denot g.row.K-Item.Denot g.row.K-Reply.Denot in
    subst (All (λ (w : W). w.phase ≡ c.in-Ok.phase)) (sym (c.deref_mut.ensures.value ∙ c.in-Ok.ensures.workers)) (All-map (λ (w : W). w.phase ≡ c.in-Ok.phase) (new_worker g.K.Kind.fresh c.in-Ok.phase) c.deref.result.now (λ k d within. refl))

pub run-requires-clause-idle : goal.run-requires-clause-idle
run-requires-clause-idle g c κs bounds =
    let W = WorkerView g.row.K-Sight.Denot g.row.K-Item.Denot g.row.K-Reply.Denot in
    subst (All (λ (w : W). w.waiting ≡ [])) (sym (c.deref_mut.ensures.value ∙ c.in-Ok.ensures.workers)) (All-map (λ (w : W). w.waiting ≡ []) (new_worker g.K.Kind.fresh c.in-Ok.phase) c.deref.result.now (λ k d within. refl))

pub run-requires-clause-room : goal.run-requires-clause-room
run-requires-clause-room g c κs bounds =
    let W = WorkerView g.row.K-Sight.Denot g.row.K-Item.Denot g.row.K-Reply.Denot in
    let made : ℕ → W = new_worker g.K.Kind.fresh c.in-Ok.phase in
    let size : g.row.K-List.Denot → ℕ = λ list. length (g.K.Kind.items list) in
    let planned : c.deref.result.now ≡ map size c.args.work.now = c.deref.ensures.value ∙ c.in_ok-plan.ensures in
    let workers : c.deref_mut.result.now ≡ map made (map size c.args.work.now) = c.deref_mut.ensures.value ∙ c.in-Ok.ensures.workers ∙ ap (map made) planned in
    subst (λ (workers : List W). All (λ at. size at.1 ≤ at.0.room) (zip workers c.args.work.now)) (sym workers) (planned_room (λ (w : W). w.room) made size (λ n. omega arith) c.args.work.now)

pub close-requires-clause-all : goal.close-requires-clause-all
close-requires-clause-all g c κs bounds =
    let W = WorkerView g.row.K-Sight.Denot g.row.K-Item.Denot g.row.K-Reply.Denot in
    let after = c.run.new.workers in
    let all : length after ≡ c.in-Ok.workers.len = omega (arith, c.run.ensures.as_many, ap length c.deref_mut.ensures.value, c.in-Ok.workers.ok.0) in
    let whole : take c.in-Ok.workers.len (after ++ drop (length after) c.in-Ok.workers.items) ≡ after = take_at after (drop (length after) c.in-Ok.workers.items) c.in-Ok.workers.len all in
    subst (λ (workers : List W). AreAll c.in-Ok.phase workers) (sym whole) (record {
      all = c.run.ensures.as_many ∙ ap length (c.deref_mut.ensures.value ∙ c.in-Ok.ensures.workers) ∙ length-map c.deref.result.now (new_worker g.K.Kind.fresh c.in-Ok.phase) ∙ sym c.in-Ok.ensures.seats;
      belong = c.run.ensures.belong;
      idle = c.run.ensures.idle;
    })
