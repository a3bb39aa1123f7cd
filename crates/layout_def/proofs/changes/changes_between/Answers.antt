use Rattle.std.proofs.Common.{◌≡◌, ◌+◌, ◌-◌, arith, drop, length, length-drop, length-take, subst, take}
use Rattle.layout_def.proofs.Changing.{part_stands}
use Rattle.layout_def.specs.Changes.{AreChangesUpTo}
use Rattle.layout_def.proofs.changes.changes_between.Goals as goal

pub loop-at-preserved : goal.loop-at-preserved
loop-at-preserved c =
    let old = c.args.old.now in
    let new = c.args.new.now in
    let at = c.loop-at.at in
    let end = c.min-end.result in
    let count = end - at in
    let looked : at + length (take count (drop at new)) ≡ end =
    omega (arith, length-take count (drop at new), length-drop at new, c.min-end.ensures, c.loop-at-test.true, c.requires.as_many) in
    record {
      within = omega (arith, c.min-end.ensures);
      noted =
          subst (λ n. AreChangesUpTo old new n c.note_changes.new.changes.items) looked
          (c.in_ok-note_changes.ensures old new (part_stands old at count) (part_stands new at count) c.loop-at.invariant.noted);
    }
