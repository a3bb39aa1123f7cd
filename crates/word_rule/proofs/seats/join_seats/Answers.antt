use Rattle.std.proofs.Common.{rules, sym, ap, subst, ◌∙◌, arith}
use Rattle.store_spec.proofs.Common.{nil_from_length}
use Rattle.word_rule.proofs.Joining.{all_joined, next_left, none_joined, one_joined}
use Rattle.word_rule.proofs.Weights.{takes_in}
use Rattle.word_rule.proofs.seats.join_seats.Goals as goal
use Rattle.word_rule.specs.Places.{Place, words_seen}

pub loop-seat-init : goal.loop-seat-init
loop-seat-init g c =
    none_joined g.Q.PhaseRule.both g.Q.PhaseRule.rests (words_seen c.args.shared.now) c.args.seats.items c.into_iter-seat-iterator.result.rest.items c.in-Some.first c.into_seat-whole.result
    c.requires.whole (search rules) c.into_seat-whole.ensures.place c.into_seat-whole.ensures.single

pub join_seat-requires : goal.join_seat-requires
join_seat-requires g c =
    let q = g.Q.PhaseRule in
    let h = c.loop-seat.invariant in
    let seat = c.into_seat.result in
    let own = next_left q.both q.rests (words_seen c.args.shared.now) c.args.seats.items c.loop-seat.seat-iterator.rest.items c.next-in-loop-seat.new.self.rest.items c.in-Some-seat.seat c.loop-seat.whole h c.in-Some-seat.ensures.steps.0 in
    let place = c.into_seat.ensures.place in (
      h.has.of,
      ap (λ (p : Place g.row.V.Denot). p.words.table) place ∙ ap (λ w. w.table) own.0,
      c.into_seat.ensures.single.holds_none,
      c.requires.words,
      takes_in q.holds q.fresh c.args.shared.now.key q.both q.rests c.loop-seat.whole.id seat.id c.loop-seat.whole.me.0 seat.me.0 c.laws.ensures.keeps (λ none. omega (arith, h.has.weight, h.some, none)) h.has.at_rest
          (subst (λ (p : Place g.row.V.Denot). q.rests p.view) (sym place) own.1),
    )

pub loop-seat-preserved : goal.loop-seat-preserved
loop-seat-preserved g c =
    one_joined g.Q.PhaseRule.both g.Q.PhaseRule.rests (words_seen c.args.shared.now) c.laws.ensures.keeps.still c.args.seats.items c.loop-seat.seat-iterator.rest.items c.next-in-loop-seat.new.self.rest.items c.in-Some-seat.seat c.loop-seat.whole c.join_seat.new.seat c.into_seat.result
    c.loop-seat.invariant c.in-Some-seat.ensures.steps.0 c.into_seat.ensures.place c.into_seat.ensures.single c.join_seat.ensures.0 c.join_seat.ensures.2

pub returns : goal.returns
returns g c =
    let none = nil_from_length c.loop-seat.seat-iterator.rest.items (sym c.loop-seat.seat-iterator.rest.ok.0 ∙ c.in-None.ensures.steps.0) in
    all_joined g.Q.PhaseRule.both g.Q.PhaseRule.rests (words_seen c.args.shared.now) c.args.seats.items c.loop-seat.seat-iterator.rest.items c.loop-seat.whole c.loop-seat.invariant none
