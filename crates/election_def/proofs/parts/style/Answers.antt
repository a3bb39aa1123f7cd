use Rattle.std.proofs.Common.{◌<◌, ◌+◌, ◌^◌, ℕ, sym, subst, refl, arith}
use Rattle.serde_json.specs.View.{view}
use Rattle.election_def.proofs.Styles.{GoesOn, no_style, no_number, falls_to_none, one_contest_more, whole_style, set_grows}
use Rattle.election_def.proofs.parts.style.Goals as goal

pub returns-in_err-k-clause-refused : goal.returns-in_err-k-clause-refused
returns-in_err-k-clause-refused c = λ none.
    no_style c.args.contests (view c.args.value.now) c.in_ok-as_array.field-0.now.items c.deref-item-items.result.now c.loop-item.style c.loop-item.last c.loop-item.item-index c.item-item.result
    c.in_ok-as_array.ensures c.deref-item-items.ensures.value c.loop-item-test.true (sym c.item-item.is) c.loop-item.invariant.more
    (λ rest. no_number c.args.contests c.loop-item.last (view c.item-item.result) rest (c.in_err-k.ensures.refused refl))

pub returns-then-k-last-clause-refused : goal.returns-then-k-last-clause-refused
returns-then-k-last-clause-refused c = λ none.
    no_style c.args.contests (view c.args.value.now) c.in_ok-as_array.field-0.now.items c.deref-item-items.result.now c.loop-item.style c.loop-item.last c.loop-item.item-index c.item-item.result
    c.in_ok-as_array.ensures c.deref-item-items.ensures.value c.loop-item-test.true (sym c.item-item.is) c.loop-item.invariant.more
    (λ rest. falls_to_none c.args.contests c.loop-item.last (view c.item-item.result) rest c.in_ok-k.k c.in_ok-k.ensures.value c.if-k-last.true)

pub loop-item-preserved : goal.loop-item-preserved
loop-item-preserved c =
    let l = c.loop-item in
    let k = c.in_ok-k.k in
    let grown = set_grows l.style l.last k l.invariant.set c.if-k-last.false (omega (arith, c.in_ok-k.ensures.at_most)) in
    let P : ℕ → Type 0 = λ s. s < 2 ^ k in
    let Q : ℕ → Type 0 = λ s. GoesOn c.args.contests c.deref-item-items.result.now (l.item-index + 1) k s in
    record {
      last = c.in_ok-k.ensures.at_most;
      set = subst P (sym grown.0) grown.1;
      begun = (λ begun. omega arith, λ begun. omega arith);
      more = subst Q (sym grown.0) (one_contest_more c.args.contests c.deref-item-items.result.now l.style l.last l.item-index k c.item-item.result c.loop-item-test.true (sym c.item-item.is) c.in_ok-k.ensures.value c.if-k-last.false c.in_ok-k.ensures.at_most l.invariant.more);
    }

pub returns-else-last-eq0-clause-value : goal.returns-else-last-eq0-clause-value
returns-else-last-eq0-clause-value c =
    let begun : 0 < c.loop-item.item-index = c.loop-item.invariant.begun.1 (omega arith) in
    whole_style c.args.contests (view c.args.value.now) c.in_ok-as_array.field-0.now.items c.deref-item-items.result.now c.loop-item.style c.loop-item.last c.loop-item.item-index
    c.in_ok-as_array.ensures c.deref-item-items.ensures.value (omega arith) (omega arith) c.loop-item.invariant.more
