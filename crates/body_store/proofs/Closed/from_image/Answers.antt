use Rattle.std.proofs.Common.{List, length, sym, ap, ◌∙◌, subst}
use Rattle.store_spec.proofs.Common.{Ballot, Election, IsPermutation, numbers_in}
use Rattle.body_store.proofs.ByNumber.{by_number-IsPermutation}
use Rattle.body_store.proofs.Closed.from_image.Goals as goal
use Rattle.body_store.proofs.Keeping.{kept_as, shown_by_number, shown_under}
use Rattle.body_store.specs.ByNumber.{by_number}
use Rattle.body_store.specs.Contents.{Contents}
use Rattle.body_store.specs.Held.{Shows}
use Rattle.body_store.specs.declared.Closed.TheInside.{Inside}

pub invariant_of-result : goal.invariant_of-result
invariant_of-result g c =
    let a : Inside = record { election = c.in_ok-own.own; image = c.args.image; cells = c.new-2.result; held = c.count-held.result } in
    let shown = subst (Shows c.args.election.now g.ballots c.args.image.items) (sym c.new-2.ensures) c.requires in
    kept_as a g.ballots (shown_under c.args.election.now a.election.value g.ballots a.image.items a.cells (sym c.in_ok-own.ensures.ok) shown)
    (c.count-held.ensures ∙ ap (λ cells. length (numbers_in cells)) (c.deref.ensures.value ∙ sym c.new-2.ensures))

pub returns-clause-contents : goal.returns-clause-contents
returns-clause-contents g c =
    let contents : Election → List Ballot → Contents = λ e ballots. record { election = e; ballots = ballots } in
    let own = c.in_ok-own.own.value in
    let shown = shown_under c.args.election.now own g.ballots c.args.image.items c.new-2.result (sym c.in_ok-own.ensures.ok)
    (subst (Shows c.args.election.now g.ballots c.args.image.items) (sym c.new-2.ensures) c.requires) in
    ap (contents own) (shown_by_number own g.ballots c.args.image.items c.new-2.result shown)
    ∙ ap (λ e. contents e (by_number g.ballots)) c.in_ok-own.ensures.ok

pub returns-clause-same : goal.returns-clause-same
returns-clause-same g c =
    let own = c.in_ok-own.own.value in
    let shown = shown_under c.args.election.now own g.ballots c.args.image.items c.new-2.result (sym c.in_ok-own.ensures.ok)
    (subst (Shows c.args.election.now g.ballots c.args.image.items) (sym c.new-2.ensures) c.requires) in
    subst (λ (bs : List Ballot). IsPermutation g.ballots bs) (sym (shown_by_number own g.ballots c.args.image.items c.new-2.result shown)) (by_number-IsPermutation g.ballots)

pub returns-clause-stored : goal.returns-clause-stored
returns-clause-stored g c = (invariant_of-result g c).stored
