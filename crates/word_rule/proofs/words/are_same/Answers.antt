use Rattle.std.proofs.Common.{◌≡◌, ◌+◌, ◌<◌, ◌≤◌, ⊎_elim, arith, get_or, subst, sym, ◌∙◌}
use Rattle.std.specs.Mem.Slots.{slots_items}
use Rattle.store_spec.proofs.Common.{and_parts, cases_lt, eqb-true, get_or_from_slice_get}
use Rattle.word_rule.proofs.Weights.{at_slice}
use Rattle.word_rule.proofs.words.are_same.Goals as goal

pub loop-place-preserved : goal.loop-place-preserved
loop-place-preserved c all k lt =
    let place = c.loop-place.place in
    let at = c.args.first + place in
    let words = slots_items c.args.closed.now.words in
    let cells = c.args.cells.now in
    let both = and_parts _ _ all in
    ⊎_elim
    (λ (early : k < place). c.loop-place.invariant both.0 k early)
    (λ (later : place ≤ k).
    let here : place ≡ k = omega (arith, later, lt) in
    subst (λ k. get_or cells k 0 ≡ get_or words (c.args.first + k) 0) here
    (sym (eqb-true _ _ both.1) ∙ sym (get_or_from_slice_get words at c.word.result 0 (at_slice words at c.word.result c.word.ensures))))
    (cases_lt k place)
