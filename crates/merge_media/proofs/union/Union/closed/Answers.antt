use Rattle.std.proofs.Common.{◌≡◌, List, ap, subst, ◌∙◌}
use Rattle.store_spec.proofs.Common.{Ballot, IfOk}
use Rattle.merge_media.proofs.Unions.{closed_same, closed_union}
use Rattle.merge_media.proofs.union.Union.closed.Goals as goal
use Rattle.merge_media.specs.Union.{IsUnion, Joined, Joins}

pub returns-clause-same : goal.returns-clause-same
returns-clause-same c =
    subst (λ (joined : Joined). IfOk c.from_records.result (λ store. store.ballots ≡ joined.ballots)) c.self.view_is
    (closed_same c.from_records.result c.self.inside.ballots.ballots c.self.invariant.ascending c.from_records.ensures.same c.from_records.ensures.stored)

pub returns-clause-union : goal.returns-clause-union
returns-clause-union c =
    subst (λ (joined : Joined). IfOk c.from_records.result (λ store. (sets : List (List Ballot)) → Joins sets joined → IsUnion sets store.ballots)) c.self.view_is
    (closed_union c.from_records.result c.self.inside.ballots.ballots c.self.inside.dispute (ap (λ (joined : Joined). joined.dispute) c.self.view_is ∙ c.requires.agree)
    (closed_same c.from_records.result c.self.inside.ballots.ballots c.self.invariant.ascending c.from_records.ensures.same c.from_records.ensures.stored))
