use Rattle.std.proofs.Common.{List, subst}
use Rattle.store_spec.proofs.Common.{Ballot, IsPermutation}
use Rattle.body_store.proofs.Blank.{blanks_stored}
use Rattle.medium_tests.proofs.stores.store_of.Goals as goal

pub returns-clause-blank : goal.returns-clause-blank
returns-clause-blank c =
    let held = c.in_ok-store.store.ballots in
    blanks_stored c.in_ok-store.store.election c.args.numbers.now held c.requires.rising c.in_ok-store.ensures.stored.set
    (subst (λ (bs : List Ballot). IsPermutation bs held) c.in_ok-list.ensures.blank c.in_ok-store.ensures.same)
