use Rattle.std.proofs.Common.{arith}
use Rattle.store_spec.proofs.Common.{length-decimal-le}
use Rattle.script_lines.proofs.put.put_number.Goals as goal

pub write_digits-requires : goal.write_digits-requires
write_digits-requires c =
    let few = length-decimal-le 20 c.args.number (omega arith) (omega (arith, c.ranges.number.fits)) c.ranges.number.fits in
    (omega (arith, few), omega arith)

pub returns-clause-start : goal.returns-clause-start
returns-clause-start c =
    let few = length-decimal-le 20 c.args.number (omega arith) (omega (arith, c.ranges.number.fits)) c.ranges.number.fits in
    (omega arith, omega (arith, few))
