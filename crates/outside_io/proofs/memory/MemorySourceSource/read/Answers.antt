use Rattle.std.proofs.Common.{Some, ap, arith}
use Rattle.outside_io.proofs.Pieces.{piece_given}
use Rattle.outside_io.proofs.memory.MemorySourceSource.read.Goals as goal

pub returns-clause-gives : goal.returns-clause-gives
returns-clause-gives c =
    let source = c.args.self.now in
    ap Some (piece_given source.bytes.items c.args.buf.now c.copy_from_slice.new.self source.at c.min-count.result (omega arith) cc)
