use Rattle.std.proofs.Common.{sym, ◌∙◌}
use Rattle.store_spec.proofs.Common.{false≢true}
use Rattle.run_command.proofs.Media.{differs, follows}
use Rattle.run_command.proofs.command.may_follow.Goals as goal
use Rattle.run_command.proofs.command.may_follow.Goals.{then-is_plain, else-is_plain}

pub returns-then-ne : goal.returns-then-ne
returns-then-ne c =
    elim c.if-is_plain.branch [
      | then-is_plain w ↦
          follows c.args.medium.now c.args.word.now c.args.earlier.now c.is_among.result (c.is_plain.ensures.0 w.if-is_plain.true)
          (differs c.args.word.now c.args.medium.now (sym w.ne.ensures ∙ sym w.value-is ∙ c.if-ne.true)) c.is_among.ensures
      | else-is_plain w ↦ absurd (false≢true (sym w.if-is_plain.false ∙ sym w.value-is ∙ c.if-ne.true))
    ]
