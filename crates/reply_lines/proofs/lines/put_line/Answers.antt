use Rattle.std.proofs.Common.{◌∷◌, ◌++◌, drop, ap, ◌∙◌, arith}
use Rattle.store_spec.proofs.Common.{drop_all, length-decimal-le}
use Rattle.reply_lines.proofs.Texts.{line_put}
use Rattle.reply_lines.proofs.lines.put_line.Goals as goal

pub write_digits-reply_at-requires : goal.write_digits-reply_at-requires
write_digits-reply_at-requires c =
    let few = length-decimal-le 20 c.args.at (omega arith) (omega (arith, c.ranges.at.fits)) c.ranges.at.fits in
    (omega (arith, few), omega arith)

pub put_before-front_at-requires : goal.put_before-front_at-requires
put_before-front_at-requires c =
    let few = length-decimal-le 20 c.args.at (omega arith) (omega (arith, c.ranges.at.fits)) c.ranges.at.fits in
    (omega (arith, few), omega arith)

pub write_digits-requires : goal.write_digits-requires
write_digits-requires c =
    let few = length-decimal-le 20 c.args.list (omega arith) (omega (arith, c.ranges.list.fits)) c.ranges.list.fits in
    let fewer = length-decimal-le 20 c.args.at (omega arith) (omega (arith, c.ranges.at.fits)) c.ranges.at.fits in
    (omega (arith, few, fewer), omega arith)

pub returns-clause-text : goal.returns-clause-text
returns-clause-text c =
    line_put c.args.list c.args.at c.args.word.now (drop c.put_before-end.result c.put_before-end.new.line)
    (drop c.put_before-word_at.result c.put_before-word_at.new.line)
    (drop c.put_before-space_at.result c.put_before-space_at.new.line)
    (drop c.write_digits-reply_at.result c.write_digits-reply_at.new.buf)
    (drop c.put_before-front_at.result c.put_before-front_at.new.line) (drop c.write_digits.result c.write_digits.new.buf)
    (c.put_before-end.ensures.written ∙ ap (λ l. 10 ∷ l) (drop_all 64 c.args.line.now (omega arith)))
    (c.put_before-word_at.ensures.written
    ∙ ap (λ word. word ++ drop c.put_before-end.result c.put_before-end.new.line) c.as_bytes.ensures.value)
    c.put_before-space_at.ensures.written c.write_digits-reply_at.ensures.written c.put_before-front_at.ensures.written
    c.write_digits.ensures.written
