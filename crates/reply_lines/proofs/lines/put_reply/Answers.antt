use Rattle.std.proofs.Common.{◌≡◌, ◌-◌, ◌++◌, take, drop, length, ap, subst, sym, ◌∙◌, arith}
use Rattle.store_spec.proofs.Common.{IsUtf8, length-drop, reply_line, take_all}
use Rattle.std.proofs.lemmas.Str.{IsUtf8-append}
use Rattle.reply_lines.proofs.Texts.{line_is_utf8, placed}
use Rattle.reply_lines.proofs.lines.put_reply.Goals as goal

pub returns-clause-text : goal.returns-clause-text
returns-clause-text c =
    let start = c.put_line-start.result in
    let line = c.put_line-start.new.line in
    let whole : take (64 - start) (drop start line) ≡ drop start line =
    take_all (64 - start) (drop start line) (omega (arith, length-drop start line)) in
    let put = c.copy_from_slice.ensures.after ∙ whole in
    placed c.args.free (64 - start) _ c.args.block.now c.copy_from_slice.new.self (omega arith)
    (ap length put ∙ omega (arith, length-drop start line))
    ∙ ap (λ l. take c.args.free c.args.block.now ++ l) (put ∙ c.put_line-start.ensures.text)

pub returns-clause-utf8 : goal.returns-clause-utf8
returns-clause-utf8 c =
    subst IsUtf8 (sym (returns-clause-text c))
    (IsUtf8-append (take c.args.free c.args.block.now) (reply_line c.args.list c.args.at c.args.word.now) c.requires.utf8
    (line_is_utf8 c.args.list c.args.at c.args.word.now c.ranges.list.fits c.ranges.at.fits c.utf8.word))
