use Rattle.std.proofs.Common.{refl, arith}
use Rattle.ballot_record.proofs.BallotListKept.{made_empty}
use Rattle.ballot_record.proofs.list.BallotList.new.Goals as goal
use Rattle.ballot_record.specs.declared.list.BallotList.TheInside.{Inside}

pub invariant_of-result : goal.invariant_of-result
invariant_of-result c =
    let a : Inside = record { of = c.of.result; size = c.cell_bytes.result; bytes = c.new.result; count = 0; places = 0 } in
    (made_empty a c.args.election.now c.of.ensures c.cell_bytes.ensures.valid c.cell_bytes.ensures.size c.new.ensures.items refl (omega arith)).0

pub returns : goal.returns
returns c =
    let a : Inside = record { of = c.of.result; size = c.cell_bytes.result; bytes = c.new.result; count = 0; places = 0 } in
    (made_empty a c.args.election.now c.of.ensures c.cell_bytes.ensures.valid c.cell_bytes.ensures.size c.new.ensures.items refl (omega arith)).1
