-- The laws of all commands, from those of their rows.
use Rattle.std.proofs.Common.{◌≡◌, ℕ, List, ◌∷◌, Some, ◌⊎◌, inl, inr, ⊎_elim, sym, subst, ◌∙◌}
use Rattle.store_spec.proofs.Common.{DiskModel, Election, IsElection}
use Rattle.std.specs.Prelude.{◌≢◌, IsSome}
use Rattle.run_command.proofs.OneElection.{election_decides_one, election_or_memory, none_refused, refusal_decides}
use Rattle.run_command.proofs.Rows.{further_of, laws, one_row}
use Rattle.run_command.specs.Command.{Forms, row}
use Rattle.run_command.specs.ElectionText.{GivesElection}
use Rattle.run_command.specs.Outcome.{Ends, RunEnds}
use Rattle.run_command.specs.declared.command.Command.{Command}
use Rattle.election_def.proofs.One.{one_election}
use Rattle.outside_io.proofs.Told.{some_told, told_at}
use Rattle.outside_io.specs.Outside.{Input}
use Rattle.run_outcome.specs.Row.{CommandEnds, Content, NothingFailed, Tells}
use Rattle.run_outcome.specs.Status.{IsDecided}
use Rattle.run_outcome.specs.World.{IsSteady, Reported, World}
use Rattle.run_outcome.specs.declared.status.Status.{Status}
use Rattle.run_outcome.specs.declared.status.Status.TheVariants as status

-- ---- the words

pub one_command : (words : List (List ℕ)) (a b : Command) → Forms words a → Forms words b → a ≡ b
one_command (m ∷ e ∷ word ∷ words) a b x y = one_row a b words (sym x.2.word ∙ y.2.word) x.2.further y.2.further
one_command words a b x y = absurd x

-- no command answers that the words form none
pub not_usage : {S K D : Type 0} (model : DiskModel D) (c : Command) (e : Election) (a : Status) (report : Reported) (before after : World S K D) → CommandEnds model (row c) e a report before after → a ≢ status.Usage
not_usage model c e a report before after ends is = (laws c).no_usage model e report before after (subst (λ (a : Status). (row c).ends model e a report before after) is ends.ends)

-- ---- one answer

-- two ends of one command
run_decides : {E S K D : Type 0} (model : DiskModel D) (c : Command) (a b : Status) (p q : Reported) (old a_new b_new : Input E) (before a_after b_after : World S K D) (text : List ℕ) (content : Content)
    → old.left ≡ Some text → Tells model (row c).touches before content
    → RunEnds model (row c) a p old a_new before a_after → RunEnds model (row c) b q old b_new before b_after → IsDecided a → IsDecided b → a ≡ b
run_decides model c a b p q old a_new b_new before a_after b_after text content told tells x y da db = ⊎_elim
    (λ no. ⊎_elim
    (λ none. election_decides_one text a b (refusal_decides a old a_new text told da no.0) (refusal_decides b old b_new text told db none.0))
    (λ some. let described = (told_at text told some.read).1 in absurd (none_refused text a some.election described.0.0 described.1 (refusal_decides a old a_new text told da no.0)))
    y)
    (λ one. let described = (told_at text told one.read).1 in ⊎_elim
    (λ none. absurd (none_refused text b one.election described.0.0 described.1 (refusal_decides b old b_new text told db none.0)))
    (λ some.
    let other = (told_at text told some.read).1 in
    let same : some.election ≡ one.election = one_election text some.election one.election other.1 described.1 in
    (laws c).one one.election content a b one.valid
    ((laws c).caused model one.election a p before a_after content tells da one.holds.ends)
    (subst (λ e. (laws c).Cause e content b) same ((laws c).caused model some.election b q before b_after content tells db some.holds.ends)))
    y)
    x

pub one_answer : {E S K D : Type 0} (model : DiskModel D) (words : List (List ℕ)) (a b : Status) (p q : Reported) (old a_new b_new : Input E) (before a_after b_after : World S K D)
    → IsSome old.left → ((c : Command) → Forms words c → (content : Content) × Tells model (row c).touches before content)
    → Ends model words a p old a_new before a_after → Ends model words b q old b_new before b_after → IsDecided a → IsDecided b → a ≡ b
one_answer model words a b p q old a_new b_new before a_after b_after told tells x y da db = ⊎_elim
    (λ none. ⊎_elim (λ other. none.1 ∙ sym other.1) (λ some. absurd (none.0 (some.0, some.1))) y)
    (λ one. ⊎_elim
    (λ none. absurd (none.0 (one.0, one.1)))
    (λ some.
    let b_ends = subst (λ c. RunEnds model (row c) b q old b_new before b_after) (one_command words some.0 one.0 some.1 one.1) some.3 in
    let text = some_told old.left told in
    let content = tells one.0 one.1 in
    run_decides model one.0 a b p q old a_new b_new before a_after b_after text.0 content.0 text.1 content.1 one.3 b_ends da db)
    y)
    x

-- ---- completeness

pub carried_out_whole : {E S K D : Type 0} (model : DiskModel D) (words : List (List ℕ)) (c : Command) (e : Election) (content : Content) (a : Status) (report : Reported) (old new : Input E) (before after : World S K D)
    → Ends model words a report old new before after → Forms words c → GivesElection old e → Tells model (row c).touches before content → (row c).served e content
    → IsSteady old.faults new.faults → NothingFailed model (row c).touches before after → (row c).done e content a ⊎ (a ≡ status.Memory)
carried_out_whole model words c e content a report old new before after ends forms gives tells served steady none = ⊎_elim
    (λ usage. absurd (usage.0 (c, forms)))
    (λ did. ⊎_elim
    (λ refused. inr (election_or_memory a old new e gives steady refused.0))
    (λ one.
    let read = (told_at gives.text gives.told one.read).1 in
    let is : one.election ≡ e = one_election gives.text one.election e read.1 gives.describes in
    let holds = subst (λ (x : Election). CommandEnds model (row c) x a report before after) is one.holds in
    let valid = subst IsElection is one.valid in
    let further = further_of words c forms in
    ⊎_elim
    (λ decided. inl ((laws c).served e content a further.0 valid further.1 served ((laws c).caused model e a report before after content tells decided holds.ends)))
    inr
    ((laws c).settled model e a report before after none holds.ends))
    (subst (λ c. RunEnds model (row c) a report old new before after) (one_command words did.0 c did.1 forms) did.3))
    ends
