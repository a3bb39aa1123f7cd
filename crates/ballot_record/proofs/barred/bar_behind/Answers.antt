use Rattle.std.proofs.Common.{◌+◌, ◌∙◌, arith}
use Rattle.store_spec.proofs.Common.{get_or-set_other, length-set}
use Rattle.ballot_record.proofs.Barring.{bars_more}
use Rattle.ballot_record.proofs.barred.bar_behind.Goals as goal

pub loop-byte-preserved : goal.loop-byte-preserved
loop-byte-preserved c =
    let l = c.loop-byte in
    let x = c.barred_byte.result in
    let at = c.args.from + l.byte in
    record {
      long = length-set l.row at x ∙ l.invariant.long;
      bars = bars_more c.args.choices c.args.width c.args.from l.byte x l.row (omega (arith, l.invariant.long, c.requires.within, c.loop-byte-test.true)) c.barred_byte.ensures l.invariant.bars;
      before = λ k early. get_or-set_other l.row at k x 0 (λ same. omega arith) ∙ l.invariant.before k early;
    }
