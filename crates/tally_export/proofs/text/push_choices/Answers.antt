use Rattle.std.proofs.Common.{arith}
use Rattle.store_spec.proofs.Common.{string_bytes}
use Rattle.tally_export.proofs.Texts.{choice_put}
use Rattle.tally_export.proofs.text.push_choices.Goals as goal

pub choices-preserved : goal.choices-preserved
choices-preserved c =
    choice_put c.args.k c.args.counts.now c.args.choices c.choices.place (string_bytes c.choices.text)
    (string_bytes c.push_choice.new.text) _ (omega arith) c.choices.invariant c.in_ok-push_choice.ensures
