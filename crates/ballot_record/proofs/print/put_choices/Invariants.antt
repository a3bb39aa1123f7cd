use Rattle.std.proofs.Common.{◌≡◌, ◌++◌, map}
use Rattle.store_spec.proofs.Common.{decimal}
use Rattle.ballot_record.specs.Print.{IsFrontOf}
use Rattle.ballot_record.proofs.Joining.{joined_after}
use Rattle.ballot_record.proofs.LineGroups.{choices_text}
use Rattle.ballot_record.proofs.MarkSets.{choices_from}
use Rattle.ballot_record.proofs.print.put_choices.Given as goal

-- the choices below those that are left are put
abbrev pub invariant-choices : goal.invariant-choices
invariant-choices l = record {
  put : l.out.items ++ joined_after l.first 44 (map decimal (choices_from 64 0 l.rest))
      ≡ l.initial.out.items ++ choices_text (choices_from 64 0 l.set);
  front : IsFrontOf l.initial.out.items l.out.items;
}

abbrev pub decreases-choices : goal.decreases-choices
decreases-choices l = l.rest
