use Rattle.std.proofs.Common.{◌+◌, sym, subst, arith, map, take, ℕ, List, refl}
use Rattle.store_spec.proofs.Common.{AllZip}
use Rattle.serde_json.specs.View.{view}
use Rattle.election_def.specs.Text.{IsStyleIn}
use Rattle.election_def.proofs.Arrays.{array_more, array_end, array_none}
use Rattle.election_def.proofs.read.styles.Goals as goal

pub returns-in_default-style-clause-refused : goal.returns-in_default-style-clause-refused
returns-in_default-style-clause-refused c = λ none.
    array_none (IsStyleIn c.args.count) (view c.args.value.now) c.in-Some.items.now.items c.deref-item-items.result.now c.loop-item.item-index c.item-item.result
    c.in-Some.ensures c.deref-item-items.ensures.value c.loop-item-test.true (sym c.item-item.is) (c.in_default-style.ensures.refused refl)

pub loop-item-preserved : goal.loop-item-preserved
loop-item-preserved c =
    let l = c.loop-item in
    let items = c.deref-item-items.result.now in
    let P : List ℕ → Type 0 = λ styles. AllZip (IsStyleIn c.args.count) (map view (take (l.item-index + 1) items)) styles in
    subst P (sym c.in_ok-push.ensures.items)
    (array_more (IsStyleIn c.args.count) items l.item-index c.item-item.result l.styles.items c.in-Some-style.style c.loop-item-test.true (sym c.item-item.is) l.invariant c.in-Some-style.ensures.value)

pub returns-clause-styles : goal.returns-clause-styles
returns-clause-styles c =
    array_end (IsStyleIn c.args.count) c.loop-item.styles.items (view c.args.value.now) c.in-Some.items.now.items c.deref-item-items.result.now c.loop-item.item-index
    c.in-Some.ensures c.deref-item-items.ensures.value (omega arith) c.loop-item.invariant
