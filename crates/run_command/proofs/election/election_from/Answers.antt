use Rattle.std.proofs.Common.{ℕ, List, Err, ap, subst}
use Rattle.run_command.proofs.Texts.{told_election, told_no_election, told_whole_few}
use Rattle.election_def.specs.Text.{Describes, IsElectionText}
use Rattle.run_command.proofs.election.election_from.Goals as goal

pub returns-in-Ok-clause-election : goal.returns-in-Ok-clause-election
returns-in-Ok-clause-election g c = told_election c.in_ok-text.text.items c.in-Ok.election c.in_ok-text.ensures.text
    (subst (λ (text : List ℕ). Describes text c.in-Ok.election) c.deref.ensures.value c.in-Ok.ensures.election)

pub returns-in-Err-NotElection-clause-refused : goal.returns-in-Err-NotElection-clause-refused
returns-in-Err-NotElection-clause-refused g c = (
  told_no_election c.in_ok-text.text.items c.in_ok-text.ensures.text (subst (λ (text : List ℕ). ¬ IsElectionText text) c.deref.ensures.value (c.in-Err-NotElection.ensures.refused (ap Err c.in-Err-NotElection.field-0-is))),
  c.in_ok-text.ensures.no_fault,
)

pub returns-clause-refused : goal.returns-clause-refused
returns-clause-refused g c = (told_whole_few c.in_ok-text.text.items c.in_ok-text.ensures.text, c.in_ok-text.ensures.no_fault)
