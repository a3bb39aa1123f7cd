use Rattle.std.proofs.Common.{ap₂, arith, eqb-true, sym, ◌∙◌}
use Rattle.store_spec.proofs.Common.{eqb-false, nil_from_length}
use Rattle.ballot_record.specs.LineReading.{digits_at}
use Rattle.large_options.proofs.Numbers.{limit_fits, more_behind, none_read, value_read}
use Rattle.large_options.proofs.name.Name.value.Goals as goal

pub returns-in_err-number : goal.returns-in_err-number
returns-in_err-number c =
    rw c.from_residual.ensures
    (none_read c.args.self c.args.text.now (c.in_err-number.ensures ∙ ap₂ (λ limit text. digits_at limit 0 text) (c.from.ensures ∙ c.limit.ensures) c.as_bytes.ensures.value))

pub overflow_cast-result : goal.overflow_cast-result
overflow_cast-result c =
    let has = value_read c.args.self c.args.text.now c.in_ok-number.number c.in_ok-number.rest.now
    (c.in_ok-number.ensures ∙ ap₂ (λ limit text. digits_at limit 0 text) (c.from.ensures ∙ c.limit.ensures) c.as_bytes.ensures.value)
    (nil_from_length c.in_ok-number.rest.now (eqb-true _ _ (sym c.is_empty.ensures ∙ c.if-is_empty.true))) in
    omega (arith, has.1, limit_fits c.args.self)

pub returns-then-is_empty : goal.returns-then-is_empty
returns-then-is_empty c =
    value_read c.args.self c.args.text.now c.in_ok-number.number c.in_ok-number.rest.now
    (c.in_ok-number.ensures ∙ ap₂ (λ limit text. digits_at limit 0 text) (c.from.ensures ∙ c.limit.ensures) c.as_bytes.ensures.value)
    (nil_from_length c.in_ok-number.rest.now (eqb-true _ _ (sym c.is_empty.ensures ∙ c.if-is_empty.true)))

pub returns-else-is_empty : goal.returns-else-is_empty
returns-else-is_empty c =
    more_behind c.args.self c.args.text.now c.in_ok-number.number c.in_ok-number.rest.now
    (c.in_ok-number.ensures ∙ ap₂ (λ limit text. digits_at limit 0 text) (c.from.ensures ∙ c.limit.ensures) c.as_bytes.ensures.value)
    (omega (arith, eqb-false _ _ (sym c.is_empty.ensures ∙ c.if-is_empty.false)))
