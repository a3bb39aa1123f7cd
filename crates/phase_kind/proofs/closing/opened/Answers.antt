use Rattle.std.proofs.Common.{◌≡◌, ap, sym, ◌∙◌}
use Rattle.store_spec.proofs.Common.{length-map}
use Rattle.phase_kind.proofs.closing.opened.Goals as goal
use Rattle.step_core.proofs.Sets.{All-from_map}
use Rattle.word_rule.specs.Places.{Place}

pub seated-requires-clause-as_many : goal.seated-requires-clause-as_many
seated-requires-clause-as_many g c κs within =
    let made = c.in_ok-shape in
    sym (length-map made.seats.items g.K.Kind.standing) ∙ made.ensures.seats.count ∙ made.ensures.as_many

pub seated-requires-clause-new : goal.seated-requires-clause-new
seated-requires-clause-new g c κs within =
    let made = c.in_ok-shape in
    All-from_map (λ (s : Place g.row.K-Sight.Denot). s.view ≡ g.K.Kind.fresh) g.K.Kind.standing made.seats.items (λ k d within. ap (λ (s : Place g.row.K-Sight.Denot). s.view) (made.ensures.seats.each k d within))

pub returns-clause-workers : goal.returns-clause-workers
returns-clause-workers g c =
    let made = c.in_ok-shape in
    let words = g.K.Kind.seen made.words in
    c.in_ok-workers.ensures words
    (All-from_map (λ (s : Place g.row.K-Sight.Denot). s.words ≡ words) g.K.Kind.standing made.seats.items (λ k d within. ap (λ (s : Place g.row.K-Sight.Denot). s.words) (made.ensures.seats.each k d within)))
