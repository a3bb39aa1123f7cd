use Rattle.std.proofs.Common.{arith, ◌≡◌, ap, ◌∙◌, length, length-append, [], ◌∷◌}
use Rattle.word_rule.proofs.Dealing.{all_dealt, cut_dealt, last_dealt, one_dealt}
use Rattle.word_rule.proofs.Weights.{cuts}
use Rattle.word_rule.proofs.seats.deal_seats.Goals as goal

pub split_seat-requires : goal.split_seat-requires
split_seat-requires g c =
    let q = g.Q.PhaseRule in
    let h = c.loop.invariant.dealing in
    (h.of, c.requires.table.1, cuts q.holds q.fresh c.args.shared.now.key c.loop.first.id c.loop.first.me.0 (omega (arith, h.weight, c.loop.invariant.made, c.loop-test.true)) c.laws.ensures.keeps.made)

pub loop-preserved : goal.loop-preserved
loop-preserved g c =
    let h = c.loop.invariant.dealing in
    let pushed = c.in_ok-push.ensures.items in
    let new = cut_dealt c.args.shared.now g.Q.PhaseRule.fresh c.args.count c.loop.first c.split_seat.result c.loop.seats.items h c.split_seat.ensures.3 c.split_seat.ensures.4 in
    record {
      dealing = one_dealt c.args.shared.now g.Q.PhaseRule.fresh c.args.count c.loop.first c.split_seat.new.seat c.new.result c.loop.seats.items c.push.new.self.items h
          c.split_seat.ensures.0 c.split_seat.ensures.2 (c.new.ensures ∙ new.new) pushed (omega (arith, h.weight, c.loop.invariant.made, c.loop-test.true));
      made = omega (arith, c.loop.invariant.made, ap length pushed ∙ length-append c.loop.seats.items (c.new.result ∷ []));
    }

pub returns : goal.returns
returns g c =
    let h = c.loop.invariant.dealing in
    let end = c.loop.auto.counter-end c.requires.some in
    let light : c.loop.first.me.0.weight ≡ 1 = omega (arith, h.weight, c.loop.invariant.made, c.loop-test.false, end) in
    let last = last_dealt c.args.shared.now g.Q.PhaseRule.fresh c.args.count c.loop.first c.loop.seats.items h light in
    all_dealt c.args.shared.now g.Q.PhaseRule.fresh c.args.count c.loop.first c.new-2.result c.loop.seats.items c.push-2.new.self.items h (c.new-2.ensures ∙ last.new) c.in_ok-push-2.ensures.items light c.requires.asked
