use Rattle.std.proofs.Common.{◌+◌, ◌-◌, drop, take, ap, ◌∙◌, arith}
use Rattle.store_spec.proofs.Common.{length-take-le, lines_text}
use Rattle.script_lines.proofs.Left.{copied_on}
use Rattle.script_lines.proofs.generated_script.GeneratedScript.give.Goals as goal
use Rattle.script_lines.specs.Generated.{generated}

pub returns-clause-gives : goal.returns-clause-gives
returns-clause-gives c =
    let s = c.args.self.now in
    let count = c.min-count.result in
    copied_on s.given count s.line.items c.copy_from_slice.new.self (drop count c.args.buf.now) (lines_text (drop s.index (generated s.election s.seed s.count s.tabs)))
    (c.copy_from_slice.ensures.len ∙ length-take-le count c.args.buf.now (omega arith))
    (c.copy_from_slice.ensures.after ∙ ap (λ line. take (s.given + count - s.given) (drop s.given line)) c.deref.ensures.value)
