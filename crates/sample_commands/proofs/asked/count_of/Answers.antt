use Rattle.std.proofs.Common.{arith, eqb-true, sym, ◌∙◌}
use Rattle.store_spec.proofs.Common.{eqb-false, nil_from_length}
use Rattle.sample_commands.proofs.Numbers.{count_read, more_behind, none_read}
use Rattle.sample_commands.proofs.asked.count_of.Goals as goal

pub returns-in_err-number : goal.returns-in_err-number
returns-in_err-number c = rw c.from_residual.ensures (none_read c.args.word.now c.in_err-number.ensures)

pub overflow_cast-result : goal.overflow_cast-result
overflow_cast-result c =
    let has = count_read c.args.word.now c.in_ok-number.number c.in_ok-number.rest.now c.in_ok-number.ensures
    (nil_from_length c.in_ok-number.rest.now (eqb-true _ _ (sym c.is_empty.ensures ∙ c.if-is_empty.true))) in
    omega (arith, has.few)

pub returns-then-is_empty : goal.returns-then-is_empty
returns-then-is_empty c =
    count_read c.args.word.now c.in_ok-number.number c.in_ok-number.rest.now c.in_ok-number.ensures
    (nil_from_length c.in_ok-number.rest.now (eqb-true _ _ (sym c.is_empty.ensures ∙ c.if-is_empty.true)))

pub returns-else-is_empty : goal.returns-else-is_empty
returns-else-is_empty c =
    more_behind c.args.word.now c.in_ok-number.number c.in_ok-number.rest.now c.in_ok-number.ensures
    (omega (arith, eqb-false _ _ (sym c.is_empty.ensures ∙ c.if-is_empty.false)))
