use Rattle.std.proofs.Common.{◌≤◌, refl, arith, mul-le-mul_left}
use Rattle.ballot_record.proofs.BallotListKept.{made_empty}
use Rattle.ballot_record.proofs.CellFormat.{largest_cell_width}
use Rattle.ballot_record.proofs.list.BallotList.with_room.Goals as goal
use Rattle.ballot_record.specs.declared.list.BallotList.TheInside.{Inside}

pub overflow_mul-room : goal.overflow_mul-room
overflow_mul-room c =
    let wide : c.cell_bytes-size.result ≤ 201 = omega (arith, c.cell_bytes-size.ensures.at_most, largest_cell_width) in
    omega (arith, mul-le-mul_left c.args.room wide, c.requires)

pub invariant_of-result : goal.invariant_of-result
invariant_of-result c =
    let made = c.in_ok-with_capacity in
    let a : Inside = record { of = c.of.result; size = c.cell_bytes-size.result; bytes = made.field-0; count = 0; places = c.args.room } in
    (made_empty a c.args.election.now c.of.ensures c.cell_bytes-size.ensures.valid c.cell_bytes-size.ensures.size made.ensures.items refl made.ensures.capacity).0

pub returns : goal.returns
returns c =
    let made = c.in_ok-with_capacity in
    let a : Inside = record { of = c.of.result; size = c.cell_bytes-size.result; bytes = made.field-0; count = 0; places = c.args.room } in
    (made_empty a c.args.election.now c.of.ensures c.cell_bytes-size.ensures.valid c.cell_bytes-size.ensures.size made.ensures.items refl made.ensures.capacity).1
