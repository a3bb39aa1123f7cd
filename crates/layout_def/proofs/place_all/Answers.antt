use Rattle.std.proofs.Common.{◌≡◌, ◌≢◌, ℕ, length, drop, subst, ap, sym, ◌∙◌, arith, rules}
use Rattle.store_spec.proofs.Common.{IsFirstEmpty, laid_out}
use Rattle.layout_def.proofs.Skips.{sound_filled}
use Rattle.layout_def.proofs.Taken.{taken, finds, goes}
use Rattle.layout_def.proofs.place_all.Goals as goal
use Rattle.layout_def.proofs.LaidOut.{layout_of_rising}

pub first_empty-place-requires-clause-one_left : goal.first_empty-place-requires-clause-one_left
first_empty-place-requires-clause-one_left g c =
    let i = c.loop-v.invariant in
    let s = finds (g.O.Order.home c.args.order.now) _ _ _ _ _ c.loop-v.cells c.in-Some.v c.requires.rising c.requires.fits i.left c.in-Some.ensures.items i.placed in
    let first = s.1 in
    let from = first.after in
    let same = c.home.ensures in
    (s.0, omega arith, first.within, first.empty)

-- the number goes into the cell that was found
pub loop-v-preserved : goal.loop-v-preserved
loop-v-preserved g c =
    let i = c.loop-v.invariant in
    let home = g.O.Order.home c.args.order.now in
    let first = c.first_empty-place.ensures.first in
    let t = taken _ _ _ c.in-Some.v i.left c.in-Some.ensures.items in
    let some : c.in-Some.v ≢ 0 = λ z. c.requires.fits.some (length c.pop.new.self.items) 0 t.within (t.stands ∙ z) in
    record {
      left = t.left;
      placed = goes home _ _ _ _ c.loop-v.cells c.in-Some.v _ i.left c.in-Some.ensures.items i.placed
          (subst (λ (from : ℕ). IsFirstEmpty c.loop-v.cells from c.first_empty-place.result) c.home.ensures first);
      sound = sound_filled _ _ _ _ c.first_empty-place.ensures.still_sound some first.within;
    }

-- none waits any more
pub returns : goal.returns
returns g c =
    let none : length c.loop-v.waiting.items ≡ 0 = search rules in
    let home = g.O.Order.home c.args.order.now in
    c.loop-v.invariant.placed
    ∙ ap (λ n. laid_out home (length c.args.cells.now) (drop n c.args.waiting.items)) none
    ∙ sym (layout_of_rising home _ _ c.requires.rising)
