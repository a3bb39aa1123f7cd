use Rattle.std.proofs.Common.{◌∙◌, eqb-true, sym}
use Rattle.store_spec.proofs.Common.{eqb-false}
use Rattle.script_lines.proofs.Decimals.{more_behind, none_whole, whole}
use Rattle.script_lines.proofs.words.whole_number.Goals as goal

pub returns-in_err-number : goal.returns-in_err-number
returns-in_err-number c = rw c.from_residual.ensures (none_whole c.args.limit c.ranges.limit.fits c.args.bytes.now c.in_err-number.ensures)

pub returns-then-is_empty : goal.returns-then-is_empty
returns-then-is_empty c = whole c.args.limit c.ranges.limit.fits c.args.bytes.now c.in_ok-number.number c.in_ok-number.rest.now c.in_ok-number.ensures (eqb-true _ _ (sym c.is_empty.ensures ∙ c.if-is_empty.true))

pub returns-else-is_empty : goal.returns-else-is_empty
returns-else-is_empty c = more_behind c.args.limit c.ranges.limit.fits c.args.bytes.now c.in_ok-number.number c.in_ok-number.rest.now c.in_ok-number.ensures (eqb-false _ _ (sym c.is_empty.ensures ∙ c.if-is_empty.false))
