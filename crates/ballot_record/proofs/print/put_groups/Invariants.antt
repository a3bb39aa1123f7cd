use Rattle.std.proofs.Common.{◌≡◌, ◌++◌, eqb, drop, length, map, take}
use Rattle.store_spec.proofs.Common.{Ballot, IsCellOf, choices_in, group_text}
use Rattle.ballot_record.specs.Print.{IsFrontOf}
use Rattle.ballot_record.proofs.Joining.{joined_after}
use Rattle.ballot_record.proofs.LineWhole.{groups_text}
use Rattle.ballot_record.proofs.print.put_groups.Given as goal

-- the groups of the first mark sets are put
abbrev pub invariant-groups : goal.invariant-groups
invariant-groups l = record {
  put : (b : Ballot) → IsCellOf l.election l.cell b
      → l.out.items ++ joined_after (eqb l.place 0) 47
      (map group_text (map (choices_in l.election) (drop l.place (take (length l.election.contests) b.marks))))
      ≡ l.initial.out.items ++ groups_text (map (choices_in l.election) (take (length l.election.contests) b.marks));
  front : IsFrontOf l.initial.out.items l.out.items;
}
