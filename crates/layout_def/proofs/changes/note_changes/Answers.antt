use Rattle.std.proofs.Common.{◌≡◌, ◌+◌, ◌<◌, ◌≤◌, ◌^◌, ◌++◌, ◌∷◌, [], List, ℕ, ⊎_elim, ap, arith, eqb, get_or, length, subst, sym, w64, ◌∙◌}
use Rattle.store_spec.proofs.Common.{bit_at, bit_at-trailing_zeros, cases_lt, not, trailing_zeros}
use Rattle.std.specs.Int.{from_bool}
use Rattle.std.proofs.lemmas.Nat.Bits.{bit_at_clear_other, bit_at_clear_same}
use Rattle.layout_def.proofs.Changing.{IsNotedTo, all_noted, one_noted}
use Rattle.layout_def.proofs.Marks.{fewer_marks, first_turned, marks_other, marks_past, still_marked, without_first}
use Rattle.layout_def.specs.Changes.{AreChangesUpTo, StandFrom}
use Rattle.layout_def.specs.declared.changes.CellChange.{CellChange}
use Rattle.layout_def.proofs.changes.note_changes.Goals as goal

-- none is noted yet
none_noted : (before after old new : List ℕ) (first others : ℕ) (changes : List CellChange) → StandFrom first old before → StandFrom first new after
    → length old ≡ length new → ((k : ℕ) → bit_at others k ≡ from_bool (not (eqb (get_or old k 0) (get_or new k 0))))
    → AreChangesUpTo before after first changes → IsNotedTo before after first (length new) 0 others changes
none_noted before after old new first others changes was now as_many marked start = record {
  noted = subst (λ n. AreChangesUpTo before after n changes) (let same : first ≡ first + 0 = omega arith in same) start;
  within = omega arith;
  below = λ k lt. absurd (omega (arith, lt));
  marked = λ k _ lt other.
      marked k ∙ marks_other (get_or old k 0) (get_or new k 0) (λ same. other (was k (omega (arith, lt, as_many)) ∙ same ∙ sym (now k lt)));
}

-- where marks are below so many, and none before a place, there is a mark at that place or behind it
onward : (marks place at : ℕ) → ((k : ℕ) → k < place → bit_at marks k ≡ 0) → bit_at marks at ≡ 1 → place ≤ at
onward marks place at none is =
    ⊎_elim
    (λ (early : at < place). absurd (omega (arith, none at early, is)))
    (λ (later : place ≤ at). later)
    (cases_lt at place)

pub returns-then-others-eq0 : goal.returns-then-others-eq0
returns-then-others-eq0 c before after old new start =
    all_noted before after c.args.first (length c.args.new.now) 0 c.other_cells-others.result c.args.changes.now.items
    (none_noted before after c.args.old.now c.args.new.now c.args.first c.other_cells-others.result c.args.changes.now.items old new c.requires.as_many c.other_cells-others.ensures start)
    c.if-others-eq0.true

pub loop-others-init : goal.loop-others-init
loop-others-init c = record {
  within = λ k is.
      ⊎_elim
      (λ (inside : k < length c.args.new.now). inside)
      (λ (past : length c.args.new.now ≤ k).
      absurd (omega (arith, is, c.other_cells-others.ensures k, marks_past c.args.old.now c.args.new.now k c.requires.as_many (omega (arith, past, c.requires.as_many)))))
      (cases_lt k (length c.args.new.now));
  room = (0, (λ k lt. absurd (omega (arith, lt)), omega (arith, c.in_ok-reserve.ensures.ok)));
  noted = λ before after old new start. (
    0,
    subst (λ changes. IsNotedTo before after c.args.first (length c.args.new.now) 0 c.other_cells-others.result changes) (sym c.in_ok-reserve.ensures.items)
        (none_noted before after c.args.old.now c.args.new.now c.args.first c.other_cells-others.result c.args.changes.now.items old new c.requires.as_many c.other_cells-others.ensures start),
  );
}

pub bounds-new-place : goal.bounds-new-place
bounds-new-place c =
    let first = bit_at-trailing_zeros w64 c.loop-others.others (omega arith) (omega (arith, c.loop-others.auto.others-fits)) in
    c.loop-others.invariant.within (trailing_zeros w64 c.loop-others.others) first.1

pub push_reserved-requires : goal.push_reserved-requires
push_reserved-requires c =
    let others = c.loop-others.others in
    let at = trailing_zeros w64 others in
    let first = bit_at-trailing_zeros w64 others (omega arith) (omega (arith, c.loop-others.auto.others-fits)) in
    let room = c.loop-others.invariant.room in
    omega (arith, room.1.1, onward others room.0 at room.1.0 first.1, c.loop-others.invariant.within at first.1)

pub loop-others-smaller : goal.loop-others-smaller
loop-others-smaller c =
    let others = c.loop-others.others in
    let some : 0 < others = omega arith in
    let fits : others < 2 ^ 64 = omega (arith, c.loop-others.auto.others-fits) in
    subst (λ rest. rest < others) (sym (first_turned others some fits)) (fewer_marks others some fits)

pub loop-others-preserved : goal.loop-others-preserved
loop-others-preserved c =
    let others = c.loop-others.others in
    let some : 0 < others = omega arith in
    let fits : others < 2 ^ 64 = omega (arith, c.loop-others.auto.others-fits) in
    let first = bit_at-trailing_zeros w64 others some fits in
    let at = trailing_zeros w64 others in
    let turned = sym (first_turned others some fits) in
    let rest = without_first others in
    let count = length c.args.new.now in
    let inside = c.loop-others.invariant.within at first.1 in
    let room = c.loop-others.invariant.room in
    record {
      within = λ k is. c.loop-others.invariant.within k (still_marked others k some fits (subst (λ rest. bit_at rest k ≡ 1) (first_turned others some fits) is));
      room = (
        at + 1,
        (
          λ k lt.
              subst (λ rest. bit_at rest k ≡ 0) turned
              (⊎_elim
              (λ (early : k < at). bit_at_clear_other w64 others at first.0 k (omega (arith, early, first.0)) (λ e. omega (arith, early, e)) ∙ first.2 k early)
              (λ (later : at ≤ k).
              let here : at ≡ k = omega (arith, later, lt) in
              subst (λ k. bit_at rest k ≡ 0) here (bit_at_clear_same w64 others at first.0))
              (cases_lt k at)),
          omega (arith, room.1.1, onward others room.0 at room.1.0 first.1, inside, c.push_reserved.ensures.len, c.push_reserved.ensures.capacity),
        ),
      );
      noted = λ before after old new start.
          let so_far = c.loop-others.invariant.noted before after old new start in (
            at + 1,
            subst (λ rest. IsNotedTo before after c.args.first count (at + 1) rest c.push_reserved.new.self.items) turned
                (subst (λ changes. IsNotedTo before after c.args.first count (at + 1) rest changes)
                (sym (c.push_reserved.ensures.items
                ∙ ap (λ number. c.loop-others.changes.items ++ record { cell = c.args.first + at; number = number } ∷ []) (sym (new at inside))))
                (one_noted before after c.args.first count so_far.0 others at rest c.loop-others.changes.items so_far.1 first.1 first.2 inside
                (bit_at_clear_same w64 others at first.0) (λ k small apart. bit_at_clear_other w64 others at first.0 k small apart) c.requires.block)),
          );
    }

pub returns : goal.returns
returns c before after old new start =
    let so_far = c.loop-others.invariant.noted before after old new start in
    all_noted before after c.args.first (length c.args.new.now) so_far.0 c.loop-others.others c.loop-others.changes.items so_far.1 (omega arith)
