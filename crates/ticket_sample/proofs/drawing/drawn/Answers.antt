use Rattle.std.proofs.Common.{◌∙◌, List, ap, arith, subst, sym}
use Rattle.std.specs.Ordering.{is_lt}
use Rattle.ticket_sample.specs.Drawing.{IsBound, numbers_at}
use Rattle.ticket_sample.specs.Ticket.{Lot}
use Rattle.ticket_sample.proofs.Lots.{lots_apart, place_passed, place_taken}
use Rattle.ticket_sample.proofs.drawing.drawn.Goals as goal
use Rattle.ticket_sample.proofs.drawing.drawn.Goals.{then-is_lt+in_ok-push, else-is_lt}

pub bound-requires-clause-apart : goal.bound-requires-clause-apart
bound-requires-clause-apart c = lots_apart c.args.dice.now (numbers_at c.args.places.now) c.deref.result.now (c.deref.ensures.value ∙ c.in_ok-lots.ensures) c.requires.apart

pub loop-at-preserved : goal.loop-at-preserved
loop-at-preserved c =
    let places = c.args.places.now in
    let dice = c.args.dice.now in
    let lots = c.in_ok-lots.lots.items in
    let bound : IsBound lots c.args.count c.in_ok-bound.bound = subst (λ (lots : List Lot). IsBound lots c.args.count c.in_ok-bound.bound) c.deref.ensures.value c.in_ok-bound.ensures in
    let compared = ap is_lt (sym c.cmp.ensures) ∙ sym c.is_lt.ensures in
    elim c.if-is_lt.branch [
      | then-is_lt+in_ok-push w ↦
          ap (λ v. v.items) w.chosen-is ∙ w.in_ok-push.ensures.items
          ∙ place_taken dice places c.args.count lots c.in_ok-bound.bound c.in_ok-lots.ensures bound c.loop-at.at c.index.result.now c.loop-at.chosen.items (omega arith) c.index.ensures c.loop-at.invariant (compared ∙ w.if-is_lt.true)
      | else-is_lt w ↦
          ap (λ v. v.items) w.chosen-is
          ∙ place_passed dice places c.args.count lots c.in_ok-bound.bound c.in_ok-lots.ensures bound c.loop-at.at c.index.result.now c.loop-at.chosen.items (omega arith) c.index.ensures c.loop-at.invariant (compared ∙ w.if-is_lt.false)
    ]
