use Rattle.std.proofs.Common.{◌≡◌, ◌-◌, length, drop, rules, arith}
use Rattle.std.proofs.lemmas.List.{length-take, length-drop, places}
use borrow.Rule.Slice.PartMut.{post_of, put_mid}
use Rattle.script_lines.proofs.Left.{piece_more}
use Rattle.script_lines.proofs.generated_script.GeneratedScriptSource.read.Goals as goal
use Rattle.script_lines.specs.Script.{script_left}

pub pieces-preserved : goal.pieces-preserved
pieces-preserved c =
    let buf = c.pieces.buf in
    let count = c.pieces.count in
    let now = c.next_piece-piece.new.buf in
    let tail : length now ≡ length buf - count = omega (arith, c.next_piece-piece.auto.buf, length-take (length buf - count) (drop count buf), length-drop count buf) in
    let size : length (put_mid count (length buf - count) buf now) ≡ length buf = search (rules, places) in
    record {
      given = piece_more (script_left c.args.self.now) buf now (post_of count (length buf - count) buf) (script_left c.pieces.self) (script_left c.next_piece-piece.new.self) count c.next_piece-piece.result
          c.pieces.invariant.within (omega (arith, c.next_piece-piece.ensures.within, c.next_piece-piece.auto.buf)) c.pieces.invariant.given c.next_piece-piece.ensures.gives;
      within = omega (arith, c.next_piece-piece.ensures.within, c.next_piece-piece.auto.buf);
    }
