use Rattle.std.proofs.Common.{◌≡◌, ◌⊎◌, ℕ, ◌<◌, ◌≤◌, ⊎_elim, arith, eqb, get_or, subst, sym, ◌∙◌}
use Rattle.store_spec.proofs.Common.{bit_at, cases_eq, cases_lt, not}
use Rattle.std.proofs.lemmas.Nat.Bits.{bit_at-zero, bit_at_above}
use Rattle.std.specs.Int.{from_bool}
use Rattle.layout_def.proofs.Marks.{is_mark, marked_elsewhere, marked_here, marks_past, with_mark}
use Rattle.layout_def.proofs.changes.other_cells.Goals as goal

pub returns-then-new-eq-BLOCK : goal.returns-then-new-eq-BLOCK
returns-then-new-eq-BLOCK c k =
    ⊎_elim
    (λ (small : k < 64). c.others_of_whole.ensures k small)
    (λ (large : 64 ≤ k).
    bit_at_above c.others_of_whole.result 64 k (omega (arith, c.others_of_whole.type_inv)) large
    ∙ sym (marks_past c.args.old.now c.args.new.now k c.requires.as_many (omega (arith, large, c.if-new-eq-BLOCK.true, c.requires.as_many))))
    (cases_lt k 64)

pub loop-place-init : goal.loop-place-init
loop-place-init c = record { marked = λ k lt. absurd (omega (arith, lt)); none = λ k _. bit_at-zero k }

pub loop-place-preserved : goal.loop-place-preserved
loop-place-preserved c =
    let place = c.loop-place.place in
    let others = c.loop-place.others in
    let bit = c.from.result in
    let mark : ℕ → ℕ = λ k. from_bool (not (eqb (get_or c.args.old.now k 0) (get_or c.args.new.now k 0))) in
    let within : place < 64 = omega (arith, c.loop-place-test.true, c.requires.block) in
    let is : (bit ≡ 0) ⊎ (bit ≡ 1) =
    subst (λ bit. (bit ≡ 0) ⊎ (bit ≡ 1)) (sym c.from.ensures) (is_mark (get_or c.args.old.now place 0) (get_or c.args.new.now place 0)) in
    record {
      marked = λ k lt.
          ⊎_elim
          (λ (here : k ≡ place).
          subst (λ k. bit_at (with_mark others place bit) k ≡ mark k) (sym here)
          (marked_here others place bit within is (c.loop-place.invariant.none place (omega arith)) ∙ c.from.ensures))
          (λ apart. marked_elsewhere others place bit k within is apart ∙ c.loop-place.invariant.marked k (omega (arith, lt, apart)))
          (cases_eq k place);
      none = λ k past.
          marked_elsewhere others place bit k within is (λ here. omega (arith, past, here))
          ∙ c.loop-place.invariant.none k (omega (arith, past));
    }

pub returns : goal.returns
returns c k =
    let place = c.loop-place.place in
    ⊎_elim
    (λ (early : k < place). c.loop-place.invariant.marked k early)
    (λ (past : place ≤ k).
    c.loop-place.invariant.none k past
    ∙ sym (marks_past c.args.old.now c.args.new.now k c.requires.as_many (omega (arith, past, c.loop-place-test.false, c.requires.as_many))))
    (cases_lt k place)
