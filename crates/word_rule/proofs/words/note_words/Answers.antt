use Rattle.std.proofs.Common.{◌≡◌, ◌∙◌, ℕ, ◌+◌, ◌-◌, ◌<◌, ◌≤◌, List, ap, arith, drop, get_or, length, length-drop, length-take, subst, sym, take}
use Rattle.std.specs.Mem.Slots.{slots_items}
use Rattle.layout_def.proofs.Changing.{part_stands, same_on}
use Rattle.layout_def.specs.Changes.{AreChangesUpTo, StandFrom}
use Rattle.store_spec.proofs.Common.{get_or-take}
use Rattle.word_rule.proofs.words.note_words.Goals as goal

-- words that stand among others stand among so many first of these
among_first : (some words : List ℕ) (at n : ℕ) → at + length some ≤ n → StandFrom at some words → StandFrom at some (take n words)
among_first some words at n within stand k lt = get_or-take n words (at + k) 0 (omega (arith, lt, within)) ∙ stand k lt

-- words that are the same as the cells change nothing
pub loop-at-preserved : goal.loop-at-preserved
loop-at-preserved c =
    let before = c.args.before.now in
    let words = slots_items c.args.closed.now.words in
    let at = c.loop-at.at in
    let end = c.min-end.result in
    let some = take (end - at) (drop at before) in
    let long : length some ≡ end - at =
    omega (arith, length-take (end - at) (drop at before), length-drop at before, c.min-end.ensures, c.loop-at-test.true) in
    record {
      within = omega (arith, c.min-end.ensures);
      noted =
          same_on before (take (length before) words) at end c.loop-at.changes.items (omega (arith, c.min-end.ensures, c.loop-at-test.true))
          (λ cell from lt.
          let k = cell - at in
          let here : at + k ≡ cell = omega (arith, from) in
          let inside : k < length some = omega (arith, long, from, lt) in
          ap (λ cell. get_or before cell 0) (sym here)
          ∙ part_stands before at (end - at) k inside
          ∙ c.are_same.ensures c.if-not-are_same.false k inside
          ∙ ap (λ cell. get_or words cell 0) here
          ∙ sym (get_or-take (length before) words cell 0 (omega (arith, lt, c.min-end.ensures))))
          c.loop-at.invariant.noted;
    }

pub loop-at-preserved-in_ok-note_changes : goal.loop-at-preserved-in_ok-note_changes
loop-at-preserved-in_ok-note_changes c =
    let before = c.args.before.now in
    let words = slots_items c.args.closed.now.words in
    let at = c.loop-at.at in
    let end = c.min-end.result in
    let now = c.take_words.new.words in
    let copied = c.take_words.ensures in
    let here : StandFrom at now words = subst (λ some. StandFrom at some words) (sym copied) (part_stands words at (length (take (end - at) c.loop-at.block))) in
    let looked : at + length now ≡ end =
    omega (arith, ap length copied, length-take (length (take (end - at) c.loop-at.block)) (drop at words), length-take (end - at) c.loop-at.block, length-drop at words, c.min-end.ensures, c.loop-at-test.true, c.len-noted.array_long, c.requires.within, c.args.closed.now.words.ok.0) in
    record {
      within = omega (arith, c.min-end.ensures);
      noted =
          subst (λ n. AreChangesUpTo before (take (length before) words) n c.note_changes.new.changes.items) looked
          (c.in_ok-note_changes.ensures before (take (length before) words) (part_stands before at (end - at))
          (among_first now words at (length before) (omega (arith, looked, c.min-end.ensures)) here) c.loop-at.invariant.noted);
    }
