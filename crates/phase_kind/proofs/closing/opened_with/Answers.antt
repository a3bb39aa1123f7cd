use Rattle.std.proofs.Common.{◌≡◌, ap, arith}
use Rattle.store_spec.proofs.Common.{length-map}
use Rattle.phase_kind.proofs.closing.opened_with.Goals as goal
use Rattle.step_core.proofs.Sets.{All-from_map}
use Rattle.word_rule.specs.Places.{Place}

pub seated_with-requires-clause-as_many : goal.seated_with-requires-clause-as_many
seated_with-requires-clause-as_many g c κs within =
    let made = c.in_ok-shape in
    omega (arith, length-map made.seats.items g.K.Kind.standing, made.ensures.seats.count, made.ensures.as_many, c.len.ensures, c.args.work.ok.0)

pub seated_with-requires-clause-new : goal.seated_with-requires-clause-new
seated_with-requires-clause-new g c κs within =
    let made = c.in_ok-shape in
    All-from_map (λ (s : Place g.row.K-Sight.Denot). s.view ≡ g.K.Kind.fresh) g.K.Kind.standing made.seats.items (λ k d within. ap (λ (s : Place g.row.K-Sight.Denot). s.view) (made.ensures.seats.each k d within))

pub returns-clause-workers : goal.returns-clause-workers
returns-clause-workers g c =
    let made = c.in_ok-shape in
    let words = g.K.Kind.seen made.words in
    c.in_ok-workers.ensures words
    (All-from_map (λ (s : Place g.row.K-Sight.Denot). s.words ≡ words) g.K.Kind.standing made.seats.items (λ k d within. ap (λ (s : Place g.row.K-Sight.Denot). s.words) (made.ensures.seats.each k d within)))
