use Rattle.std.proofs.Common.{◌≡◌, ◌≢◌, ℕ, ◌⊎◌, ◌<◌, inl, inr, ⊎_elim, List, length, get_or, set, sym, ap, ◌∙◌, subst, arith}
use Rattle.store_spec.proofs.Common.{IsOrdered, MayStand, cases_eq, set-get_or}
use Rattle.layout_def.proofs.Carried.{displaced_about, nothing_left}
use Rattle.layout_def.proofs.Displaced.{displaced_ordered, displaced_stands_on, passes_greater, stands_at_home}
use Rattle.layout_def.proofs.walk.put.Goals as goal
use Rattle.layout_def.proofs.walk.put.Goals.{then-found-eq0-via-then-found-eq0, then-found-eq0-via-else-found-eq0+then-found-carried-2}

-- nothing was written yet, and the number may stand at its home
pub loop-place-init : goal.loop-place-init
loop-place-init g c =
    let home = g.O.Order.home c.args.order.now in
    record {
      ordered = c.requires.ordered;
      stands = subst (λ (p : ℕ). MayStand home c.args.cells.now c.args.number p) (sym c.home-home.ensures) (stands_at_home home c.args.cells.now c.args.number);
      some = c.requires.some;
      about = λ v some. (λ was. was, λ was. was);
    }

-- a greater number is passed
pub loop-place-preserved-then-found-carried : goal.loop-place-preserved-then-found-carried
loop-place-preserved-then-found-carried g c =
    let i = c.loop-place.invariant in
    record {
      ordered = i.ordered;
      stands = passes_greater _ _ _ _ i.stands c.if-found-carried.true;
      some = i.some;
      about = i.about;
    }

-- what was found is not greater, and is nothing or the same number
pub returns-then-found-eq0-clause-ordered : goal.returns-then-found-eq0-clause-ordered
returns-then-found-eq0-clause-ordered g c told =
    let i = c.loop-place.invariant in
    let home = g.O.Order.home c.args.order.now in
    let cells = c.loop-place.cells in
    let place = c.loop-place.place in
    let within : place < length cells = omega (arith, c.loop-place-test.true, c.min-end.ensures, c.loop-place.auto.cells) in
    ⊎_elim
    (λ (same : get_or cells place 0 ≡ c.loop-place.carried).
    subst (λ (l : List ℕ). IsOrdered home l) (sym (ap (set cells place) (sym same) ∙ set-get_or cells place 0)) i.ordered)
    (λ (other : get_or cells place 0 ≢ c.loop-place.carried).
    displaced_ordered home cells c.loop-place.carried place i.ordered i.stands within (omega (arith, c.if-found-carried.false, other)))
    (cases_eq (get_or cells place 0) c.loop-place.carried)

pub returns-then-found-eq0-clause-also : goal.returns-then-found-eq0-clause-also
returns-then-found-eq0-clause-also g c told =
    let i = c.loop-place.invariant in
    let cells = c.loop-place.cells in
    let place = c.loop-place.place in
    let within : place < length cells = omega (arith, c.loop-place-test.true, c.min-end.ensures, c.loop-place.auto.cells) in
    let end : (get_or cells place 0 ≡ 0) ⊎ (get_or cells place 0 ≡ c.loop-place.carried) =
    elim c.then-found-eq0.branch [
      | then-found-eq0-via-then-found-eq0 w ↦ inl w.if-found-eq0.true
      | then-found-eq0-via-else-found-eq0+then-found-carried-2 w ↦ inr w.if-found-carried-2.true
    ] in
    nothing_left cells c.args.cells.now c.loop-place.carried place c.args.number within end i.about

-- a lower number is carried on
pub loop-place-preserved : goal.loop-place-preserved
loop-place-preserved g c =
    let i = c.loop-place.invariant in
    let home = g.O.Order.home c.args.order.now in
    let cells = c.loop-place.cells in
    let place = c.loop-place.place in
    let within : place < length cells = omega (arith, c.loop-place-test.true, c.min-end.ensures, c.loop-place.auto.cells) in
    let other : get_or cells place 0 ≢ c.loop-place.carried = c.if-found-carried-2.false in
    let lower : get_or cells place 0 < c.loop-place.carried = omega (arith, c.if-found-carried.false, other) in
    record {
      ordered = displaced_ordered home cells c.loop-place.carried place i.ordered i.stands within lower;
      stands = displaced_stands_on home cells c.loop-place.carried place i.ordered within c.if-found-eq0.false lower;
      some = c.if-found-eq0.false;
      about = λ v some.
          let moved = displaced_about cells c.loop-place.carried place v within some in
          let was = i.about v some in
          (λ now. was.0 (moved.0 now), λ before. moved.1 (was.1 before));
    }
