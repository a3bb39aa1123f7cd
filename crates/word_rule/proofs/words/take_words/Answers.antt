use Rattle.std.proofs.Common.{◌≢◌, ◌+◌, ◌<◌, arith, below_more, drop, length, length-drop, length-take, sym, ◌∙◌, take}
use Rattle.std.specs.Mem.Slots.{slots_items}
use Rattle.store_spec.proofs.Common.{ext_get_or, get_or-drop, get_or-set_other, get_or-set_same, get_or-take, get_or_from_slice_get}
use Rattle.word_rule.proofs.Weights.{at_slice}
use Rattle.word_rule.proofs.words.take_words.Goals as goal

pub loop-place-preserved : goal.loop-place-preserved
loop-place-preserved c =
    let items = slots_items c.args.closed.now.words in
    let place = c.loop-place.place in
    let at = c.args.first + place in
    let word = c.word.result in
    let words = c.loop-place.words in
    let within : place < length words = omega arith in
    below_more _ _
    (λ k lt. (let other : k ≢ place = omega arith in get_or-set_other words place k word 0 other) ∙ c.loop-place.invariant k lt)
    (get_or-set_same words place word 0 within ∙ sym (get_or_from_slice_get items at word 0 (at_slice items at word c.word.ensures)))

pub returns : goal.returns
returns c =
    let items = slots_items c.args.closed.now.words in
    let first = c.args.first in
    let count = length c.args.words.now in
    let full = c.args.closed.now.words.ok.0 in
    ext_get_or 0 c.loop-place.words (take count (drop first items)) (omega (arith, length-take count (drop first items), length-drop first items, full, c.requires.within))
    (λ k lt. (let within : k < count = omega arith in c.loop-place.invariant k (omega arith) ∙ sym (get_or-take count (drop first items) k 0 within ∙ get_or-drop first items k 0)))
