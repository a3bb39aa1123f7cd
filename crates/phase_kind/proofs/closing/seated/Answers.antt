use Rattle.std.proofs.Common.{◌≡◌, ◌+◌, ◌++◌, [], ◌∷◌, List, Some, ap, arith, get_or, length, length-append, map, ℕ, ◌∙◌, rules, slice_get, subst, sym, zip}
use Rattle.store_spec.proofs.Common.{YieldsList-end, YieldsList-from_vec, YieldsList-turn, map-id, map_push, slice_get-get_or}
use Rattle.phase_kind.proofs.Trays.{made_alike, zip_under}
use Rattle.phase_kind.proofs.closing.seated.Goals as goal
use Rattle.phase_kind.specs.Worker.{WorkerView, new_worker}
use Rattle.word_rule.specs.Seats.{SharedWords}

pub seat_one-requires-clause-new : goal.seat_one-requires-clause-new
seat_one-requires-clause-new g c κs within =
    let seats = c.args.seats.items in
    let turn = YieldsList-turn (YieldsList-from_vec seats (search rules) (search rules)) c.loop-seat.yielded c.loop-seat.seat-iterator c.loop-seat.yielded_by c.next.result c.next.new.self c.in-Some.seat c.in-Some.is c.next.ensures.steps in
    subst (λ (seat : g.row.K-Seat.Denot). (g.K.Kind.standing seat).view ≡ g.K.Kind.fresh) (sym turn.1) (c.requires.new (length c.loop-seat.yielded) c.in-Some.seat turn.0)

pub seat_one-requires-clause-within : goal.seat_one-requires-clause-within
seat_one-requires-clause-within g c κs within =
    let seats = c.args.seats.items in
    let turn = YieldsList-turn (YieldsList-from_vec seats (search rules) (search rules)) c.loop-seat.yielded c.loop-seat.seat-iterator c.loop-seat.yielded_by c.next.result c.next.new.self c.in-Some.seat c.in-Some.is c.next.ensures.steps in
    omega (arith, turn.0, c.requires.as_many, c.loop-seat.invariant.as_many)

pub loop-seat-preserved : goal.loop-seat-preserved
loop-seat-preserved g c =
    let k = g.K.Kind in
    let W = WorkerView g.row.K-Sight.Denot g.row.K-Item.Denot g.row.K-Reply.Denot in
    let i = c.loop-seat.invariant in
    let seats = c.args.seats.items in
    let plan = c.args.plan.now in
    let yielded = c.loop-seat.yielded in
    let workers = c.loop-seat.workers.items in
    let seat = c.in-Some.seat in
    let made_at : g.row.K-Seat.Denot × ℕ → W = λ place. new_worker k.fresh (record { base = c.args.closed.now; words = (k.standing place.0).words }) place.1 in
    let turn = YieldsList-turn (YieldsList-from_vec seats (search rules) (search rules)) c.loop-seat.yielded c.loop-seat.seat-iterator c.loop-seat.yielded_by c.next.result c.next.new.self c.in-Some.seat c.in-Some.is c.next.ensures.steps in
    let room = get_or plan (length workers) 0 in
    let pushed = c.in_ok-seat_one.ensures 0 in
    let there : slice_get plan (length yielded) ≡ Some room = ap (slice_get plan) (sym i.as_many) ∙ slice_get-get_or plan (length workers) 0 (omega (arith, turn.0, c.requires.as_many, i.as_many)) in
    record {
      as_many = ap length pushed ∙ length-append workers (made_at (seat, room) ∷ []) ∙ ap (λ n. n + 1) i.as_many ∙ sym (length-append yielded (seat ∷ []));
      made = pushed ∙ ap (λ (l : List W). l ++ made_at (seat, room) ∷ []) i.made ∙ sym (ap (map made_at) (zip_under yielded plan seat room there) ∙ map_push made_at (zip yielded plan) (seat, room));
    }

pub returns : goal.returns
returns g c words same =
    let k = g.K.Kind in
    let W = WorkerView g.row.K-Sight.Denot g.row.K-Item.Denot g.row.K-Reply.Denot in
    let base = c.args.closed.now in
    let seats = c.args.seats.items in
    let plan = c.args.plan.now in
    let made : SharedWords → ℕ → W = λ w n. new_worker k.fresh (record { base = base; words = w }) n in
    let made_at : g.row.K-Seat.Denot × ℕ → W = λ place. made (k.standing place.0).words place.1 in
    let end = YieldsList-end (YieldsList-from_vec seats (search rules) (search rules)) c.loop-seat.yielded c.loop-seat.seat-iterator c.loop-seat.yielded_by c.next.result c.next.new.self c.in-None.is c.next.ensures.steps in
    c.loop-seat.invariant.made
    ∙ ap (λ (l : List g.row.K-Seat.Denot). map made_at (zip l plan)) (sym (map-id c.loop-seat.yielded) ∙ end.0)
    ∙ made_alike made_at (made words) seats plan c.requires.as_many (λ i d within n. ap (λ (w : SharedWords). made w n) (same i d within))
