use Rattle.std.proofs.Common.{arith}
use Rattle.ballot_record.proofs.FormatReading.{no_sets_yet, next_set, all_sets}
use Rattle.ballot_record.proofs.format.put_sets.Goals as goal

pub loop-place-init : goal.loop-place-init
loop-place-init c = rw (c.requires.empty) (no_sets_yet c.args.width c.args.contests c.args.bytes.now c.requires.long)

pub loop-place-preserved : goal.loop-place-preserved
loop-place-preserved c =
    let l = c.loop-place in
    next_set c.args.width c.args.contests c.args.bytes.now l.place l.marks l.rest.now _ _ c.requires.few (omega arith) l.invariant c.take_set-set.ensures.set c.take_set-set.ensures.rest

pub returns : goal.returns
returns c =
    let l = c.loop-place in
    all_sets c.args.width c.args.contests c.args.bytes.now l.place l.marks l.rest.now (omega arith) l.invariant
