use Rattle.std.proofs.Common.{◌≡◌, ◌+◌, ◌∙◌, [], ◌∷◌, All, Vec, Global, ap, arith, length, length-append, subst, sym}
use Rattle.store_spec.proofs.Common.{All-nil, All-push}
use Rattle.phase_kind.proofs.table.empty.Goals as goal

pub loop-init : goal.loop-init
loop-init g c =
    let Empty : Vec g.row.X.Denot Global → Type 0 = λ column. column.items ≡ [] in
    record {
      as_many = ap length c.in_ok-columns.ensures.items;
      empty = subst (All Empty) (sym c.in_ok-columns.ensures.items) (All-nil Empty);
    }

pub loop-preserved : goal.loop-preserved
loop-preserved g c =
    let Empty : Vec g.row.X.Denot Global → Type 0 = λ column. column.items ≡ [] in
    let pushed = c.in_ok-push.ensures.items in
    let column = c.in_ok-with_capacity.field-0 in
    record {
      as_many = ap length pushed ∙ length-append c.loop.columns.items (column ∷ []) ∙ ap (λ n. n + 1) c.loop.invariant.as_many;
      empty = subst (All Empty) (sym pushed) (All-push Empty c.loop.columns.items column c.loop.invariant.empty c.in_ok-with_capacity.ensures.items);
    }

pub returns-clause-as_many : goal.returns-clause-as_many
returns-clause-as_many g c = omega (arith, c.loop.invariant.as_many, c.loop-test.false, c.loop.auto.counter-end)

pub returns-clause-empty : goal.returns-clause-empty
returns-clause-empty g c = c.loop.invariant.empty
