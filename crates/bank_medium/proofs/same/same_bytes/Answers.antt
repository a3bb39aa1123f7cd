use Rattle.std.proofs.Common.{◌+◌, ◌-◌, length, take, drop, ap, arith}
use Rattle.bank_medium.proofs.Blocks.{block_more, rest_too}
use Rattle.bank_medium.proofs.same.same_bytes.Goals as goal

pub loop-at-preserved : goal.loop-at-preserved
loop-at-preserved c =
    let at = c.loop-at.at in
    let one = c.args.one.now in
    let two = c.args.two.now in
    record {
      within = omega (arith, c.loop-at-test.true, c.loop-at.invariant.within);
      same = block_more at 1024 (at + 1024 - at) one two (omega arith) c.loop-at.invariant.same (c.same_block.ensures.0 c.if-not-same_block.false);
    }

pub returns : goal.returns
returns c =
    let at = c.loop-at.at in
    let one = c.args.one.now in
    let two = c.args.two.now in (
      λ same. rest_too at one two c.loop-at.invariant.same (c.same_block-2.ensures.0 same),
      λ same. c.same_block-2.ensures.1 (ap (λ bytes. take (length bytes - at) (drop at bytes)) same),
    )
