use Rattle.std.proofs.Common.{◌≡◌, ◌++◌, ap, sym, subst, ◌∙◌, arith}
use Rattle.store_spec.proofs.Common.{OnOk, group_text}
use Rattle.ballot_record.proofs.LinePrints.{no_choices_in, text_of_set}
use Rattle.ballot_record.proofs.print.put_group.Goals as goal

pub returns-then-set-eq0-clause-text : goal.returns-then-set-eq0-clause-text
returns-then-set-eq0-clause-text c e small =
    c.in_ok-push.ensures.items ∙ ap (λ choices. c.args.out.now.items ++ group_text choices)
    (sym (no_choices_in e c.args.set c.if-set-eq0.true))

pub returns-clause-text : goal.returns-clause-text
returns-clause-text c e small =
    subst (λ text. OnOk c.put_choices.result (c.put_choices.new.out.items ≡ c.args.out.now.items ++ text))
    (text_of_set e c.args.set (omega arith) small) (c.put_choices.ensures.text e small)
