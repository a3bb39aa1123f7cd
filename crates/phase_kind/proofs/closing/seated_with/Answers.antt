use Rattle.std.proofs.Common.{◌≡◌, ◌++◌, [], ◌∷◌, List, ap, ap₂, length, map, sym, zip, ◌∙◌, rules}
use Rattle.store_spec.proofs.Common.{map-map, map_push, nil_from_length}
use Rattle.phase_kind.proofs.Planned.{holds_at}
use Rattle.phase_kind.proofs.Taken.{all_taken, beside_there, none_taken, one_taken, there}
use Rattle.phase_kind.proofs.Trays.{made_alike, zip_more}
use Rattle.phase_kind.proofs.closing.seated_with.Goals as goal
use Rattle.phase_kind.specs.Worker.{WorkerView, worker_with}
use Rattle.word_rule.specs.Seats.{SharedWords}

pub loop-seat-init : goal.loop-seat-init
loop-seat-init g c = ([], [], none_taken c.args.seats.items c.args.work.items _ _ (search rules) (search rules), c.in_ok-workers.ensures.items)

pub seat_one_with-requires-clause-new : goal.seat_one_with-requires-clause-new
seat_one_with-requires-clause-new g c κs within =
    let i = c.loop-seat.invariant in
    holds_at (λ (seat : g.row.K-Seat.Denot). (g.K.Kind.standing seat).view ≡ g.K.Kind.fresh) c.args.seats.items (length i.0) c.in-Some.seat c.requires.new
    (there c.args.seats.items c.args.work.items i.0 i.1 c.loop-seat.seat-iterator.rest.items c.loop-seat.rest.rest.items i.2 c.in-Some.seat c.next.new.self.rest.items c.in-Some-next.list c.next-in-loop-seat.new.self.rest.items c.in-Some.ensures.steps.0 c.in-Some-next.ensures.items)

pub seat_one_with-requires-clause-is_of : goal.seat_one_with-requires-clause-is_of
seat_one_with-requires-clause-is_of g c κs within =
    let i = c.loop-seat.invariant in
    holds_at (λ (list : g.row.K-List.Denot). g.K.Kind.is_of c.args.closed.now list) c.args.work.items (length i.0) c.in-Some-next.list c.requires.is_of
    (beside_there c.args.seats.items c.args.work.items i.0 i.1 c.loop-seat.seat-iterator.rest.items c.loop-seat.rest.rest.items i.2 c.in-Some.seat c.next.new.self.rest.items c.in-Some-next.list c.next-in-loop-seat.new.self.rest.items c.in-Some.ensures.steps.0 c.in-Some-next.ensures.items)

pub loop-seat-preserved : goal.loop-seat-preserved
loop-seat-preserved g c =
    let k = g.K.Kind in
    let S = g.row.K-Seat.Denot in
    let L = g.row.K-List.Denot in
    let W = WorkerView g.row.K-Sight.Denot g.row.K-Item.Denot g.row.K-Reply.Denot in
    let i = c.loop-seat.invariant in
    let seat = c.in-Some.seat in
    let list = c.in-Some-next.list in
    let made_at : S × L → W = λ place. worker_with k.fresh (record { base = c.args.closed.now; words = (k.standing place.0).words }) (k.items place.1) in (
      i.0 ++ seat ∷ [],
      i.1 ++ list ∷ [],
      one_taken c.args.seats.items c.args.work.items i.0 i.1 c.loop-seat.seat-iterator.rest.items c.loop-seat.rest.rest.items i.2 c.in-Some.seat c.next.new.self.rest.items c.in-Some-next.list c.next-in-loop-seat.new.self.rest.items c.in-Some.ensures.steps.0 c.in-Some-next.ensures.items,
      c.in_ok-seat_one_with.ensures
          ∙ ap (λ (l : List W). l ++ made_at (seat, list) ∷ []) i.3
          ∙ sym (ap (map made_at) (zip_more i.0 i.1 seat list i.2.as_many) ∙ map_push made_at (zip i.0 i.1) (seat, list)),
    )

pub returns : goal.returns
returns g c words same =
    let k = g.K.Kind in
    let S = g.row.K-Seat.Denot in
    let L = g.row.K-List.Denot in
    let W = WorkerView g.row.K-Sight.Denot g.row.K-Item.Denot g.row.K-Reply.Denot in
    let base = c.args.closed.now in
    let i = c.loop-seat.invariant in
    let made : SharedWords → L → W = λ w list. worker_with k.fresh (record { base = base; words = w }) (k.items list) in
    let made_at : S × L → W = λ place. made (k.standing place.0).words place.1 in
    let none = nil_from_length c.loop-seat.seat-iterator.rest.items (sym c.loop-seat.seat-iterator.rest.ok.0 ∙ c.in-None.ensures.steps.0) in
    let all = all_taken c.args.seats.items c.args.work.items i.0 i.1 c.loop-seat.seat-iterator.rest.items c.loop-seat.rest.rest.items i.2 (sym c.requires.as_many) none in
    i.3
    ∙ ap₂ (λ (xs : List S) (ys : List L). map made_at (zip xs ys)) all.0 all.1
    ∙ made_alike made_at (made words) c.args.seats.items c.args.work.items c.requires.as_many (λ i d within list. ap (λ (w : SharedWords). made w list) (same i d within))
    ∙ sym (map-map (worker_with k.fresh (record { base = base; words = words })) k.items c.args.work.items)
