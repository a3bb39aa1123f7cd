use Rattle.std.proofs.Common.{◌≡◌, ◌+◌, ◌<◌, ◌^◌, ℕ, List, ap, ◌∙◌, arith, get_or, length, map, subst, sym, w64}
use Rattle.store_spec.proofs.Common.{All-push, bit_at-trailing_zeros, map_push, trailing_zeros}
use Rattle.std.proofs.lemmas.Nat.Bits.{bit_at_clear_other, bit_at_clear_same}
use Rattle.body_store.proofs.Filled.{IsListedTo, all_listed_now, has_number, none_listed, one_listed}
use Rattle.body_store.proofs.lookup.push_filled.Goals as goal
use Rattle.body_store.specs.Places.{AreAt}
use Rattle.body_store.specs.declared.lookup.Place.{Place}
use Rattle.layout_def.proofs.Marks.{fewer_marks, first_turned, without_first}
use Rattle.layout_def.proofs.OrderedCells.{place_within}

pub loop-filled-init : goal.loop-filled-init
loop-filled-init c = record {
  listed = (0, none_listed c.args.block.now _ c.filled_cells-filled.result c.filled_cells-filled.ensures);
  at = λ cells stand are. are;
}

pub bounds-block-place : goal.bounds-block-place
bounds-block-place c =
    let filled = c.loop-filled.filled in
    let first = bit_at-trailing_zeros w64 filled (omega arith) (omega (arith, c.loop-filled.auto.filled-fits)) in
    let so_far = c.loop-filled.invariant.listed in
    place_within c.args.block.now (trailing_zeros w64 filled) (has_number c.args.block.now _ so_far.0 filled _ (trailing_zeros w64 filled) so_far.1 first.0 first.1)

pub loop-filled-smaller : goal.loop-filled-smaller
loop-filled-smaller c =
    let filled = c.loop-filled.filled in
    let some : 0 < filled = omega arith in
    let fits : filled < 2 ^ 64 = omega (arith, c.loop-filled.auto.filled-fits) in
    subst (λ rest. rest < filled) (sym (first_turned filled some fits)) (fewer_marks filled some fits)

pub returns-clause-numbers : goal.returns-clause-numbers
returns-clause-numbers c =
    let so_far = c.loop-filled.invariant.listed in
    all_listed_now c.args.block.now _ so_far.0 c.loop-filled.filled _ so_far.1 c.requires.block (omega arith)

pub loop-filled-preserved : goal.loop-filled-preserved
loop-filled-preserved c =
    let filled = c.loop-filled.filled in
    let block = c.args.block.now in
    let places = c.loop-filled.places.items in
    let some : 0 < filled = omega arith in
    let fits : filled < 2 ^ 64 = omega (arith, c.loop-filled.auto.filled-fits) in
    let first = bit_at-trailing_zeros w64 filled some fits in
    let at = trailing_zeros w64 filled in
    let rest = without_first filled in
    let turned = sym (first_turned filled some fits) in
    let so_far = c.loop-filled.invariant.listed in
    let number : Place → ℕ = λ place. place.number in
    let before = map number c.args.places.now.items in
    let has = has_number block _ so_far.0 filled _ at so_far.1 first.0 first.1 in
    let inside = place_within block at has in
    let one : Place = record { number = get_or block at 0; cell = c.args.first + at } in
    record {
      listed = (
        at + 1,
        subst (λ rest. IsListedTo block before (at + 1) rest (map number c.push.new.self.items)) turned
            (subst (λ listed. IsListedTo block before (at + 1) rest listed) (sym (ap (map number) c.in_ok-push.ensures.items ∙ map_push number places one))
            (one_listed block before so_far.0 filled at rest (map number places) so_far.1 first.0 first.1 first.2 (bit_at_clear_same w64 filled at first.0)
            (λ k small apart. bit_at_clear_other w64 filled at first.0 k small apart))),
      );
      at = λ cells stand are.
          let here = stand at inside in
          subst (AreAt cells) (sym c.in_ok-push.ensures.items)
          (All-push (λ (place : Place). (place.cell < length cells) × (get_or cells place.cell 0 ≡ place.number)) places one
          (c.loop-filled.invariant.at cells stand are)
          (place_within cells (c.args.first + at) (λ none. has (sym here ∙ none)), here));
    }
