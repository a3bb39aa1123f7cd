use Rattle.std.proofs.Common.{◌≡◌, ◌++◌, ℕ, List, Some, get_or, sym, ap, subst, ◌∙◌, arith}
use Rattle.store_spec.proofs.Common.{Ballot, Election, IsCellOf, IsElection, ballot_of, cells_of, get_or_default, slice_range}
use Rattle.ballot_record.proofs.BallotNumbers.{no_ballot}
use Rattle.ballot_record.proofs.CellFormat.{spells_itself}
use Rattle.ballot_record.specs.BallotList.{ListedBallots}
use Rattle.ballot_record.specs.Format.{ballot_at}
use Rattle.body_store.specs.Contents.{Contents}
use Rattle.merge_media.proofs.Running.{IsRun, StandsNext, below_next, listed_all, nowhere, run_begins, run_ends, run_on, stands_next}
use Rattle.merge_media.proofs.adding.joined.Goals as goal

pub places-init : goal.places-init
places-init c =
    let kept = c.args.kept.now.ballots in
    let set = c.args.closed.now.ballots in
    let start = c.args.dispute in
    record {
      run = subst (λ out. IsRun kept set out 0 0 start start) (sym (ap (λ (list : ListedBallots). list.ballots) c.in_ok-ballots.ensures)) (run_begins kept set start c.requires.ascending);
      election = ap (λ (list : ListedBallots). list.election) c.in_ok-ballots.ensures ∙ c.election-election.ensures.election ∙ c.requires.election;
    }

-- the ballot that stands next is that of the cell
spells_next : (store : Contents) (i number place : ℕ) (e : Election) (cell : List ℕ) → StandsNext store i number place → IsElection store.election → store.election ≡ e
    → ((b : Ballot) → ballot_of store.ballots (get_or (cells_of store.election store.ballots) place 0) ≡ Some b → IsCellOf store.election cell b)
    → (ballot_at e cell ≡ get_or store.ballots i no_ballot) × IsCellOf e cell (ballot_at e cell)
spells_next store i number place e cell next election own held =
    let b = get_or store.ballots i no_ballot in
    let is : IsCellOf e cell b = subst (λ (e : Election). IsCellOf e cell b) own (held b next.found) in
    let same : ballot_at e cell ≡ b = ap (ballot_at e) is.1 ∙ spells_itself e b (subst IsElection own election) is.0 in
    (same, subst (IsCellOf e cell) (sym same) is)

pub cell-cell-requires : goal.cell-cell-requires
cell-cell-requires c =
    (stands_next c.args.closed.now c.deref-place-items.result.now c.in_ok-places.places.items c.places.place-index c.in_ok-places.ensures.stored
    c.deref-place-items.ensures.value c.in_ok-places.ensures.numbers c.in_ok-places.ensures.cells (omega arith)).cell_within

pub meet-requires : goal.meet-requires
meet-requires c =
    let kept = c.args.kept.now.ballots in
    let store = c.args.closed.now in
    let i = c.places.place-index in
    let e = c.args.kept.now.election in
    let n = (get_or c.deref-place-items.result.now i nowhere).number in
    let cell = c.cell-cell.result.now in
    let s = ballot_at e cell in
    let next = stands_next store c.deref-place-items.result.now c.in_ok-places.places.items i c.in_ok-places.ensures.stored
    c.deref-place-items.ensures.value c.in_ok-places.ensures.numbers c.in_ok-places.ensures.cells (omega arith) in
    let is = spells_next store i n _ e cell next c.in_ok-places.ensures.stored.election c.requires.election c.cell-cell.ensures.held in
    let number : n ≡ s.number = sym (ap (λ (b : Ballot). b.number) is.0 ∙ next.number) in
    let below = below_next kept store.ballots c.args.dispute c.places.ballots.ballots c.push_range.new.self.ballots c.places.next c.first_not_below-end.result i n c.places.dispute no_ballot
    c.places.invariant.run next.within next.number c.in_ok-push_range.ensures.put c.first_not_below-end.ensures.below in (
      is.1,
      (
        number,
        (
          c.in_ok-push_range.ensures.election ∙ c.places.invariant.election,
          (
            c.first_not_below-end.ensures.onward.1,
            (
              λ k d lt. let less = below k d lt in omega (arith, number, less),
              λ lt. let least = c.first_not_below-end.ensures.not_below lt in omega (arith, number, least),
            ),
          ),
        ),
      ),
    )

pub places-preserved : goal.places-preserved
places-preserved c =
    let kept = c.args.kept.now.ballots in
    let store = c.args.closed.now in
    let set = store.ballots in
    let i = c.places.place-index in
    let e = c.args.kept.now.election in
    let n = (get_or c.deref-place-items.result.now i nowhere).number in
    let cell = c.cell-cell.result.now in
    let s = ballot_at e cell in
    let next = stands_next store c.deref-place-items.result.now c.in_ok-places.places.items i c.in_ok-places.ensures.stored
    c.deref-place-items.ensures.value c.in_ok-places.ensures.numbers c.in_ok-places.ensures.cells (omega arith) in
    let is = spells_next store i n _ e cell next c.in_ok-places.ensures.stored.election c.requires.election c.cell-cell.ensures.held in
    let met = c.in_ok-dispute.ensures in
    record {
      run = run_on kept set c.args.dispute c.places.ballots.ballots c.push_range.new.self.ballots c.meet.new.out.ballots c.places.next c.first_not_below-end.result i c.places.dispute c.in_ok-dispute.dispute s
          c.in_ok-places.ensures.stored.set.ascending c.places.invariant.run next.within (get_or_default set i s no_ballot next.within ∙ sym is.0)
          c.first_not_below-end.ensures.onward.0 c.first_not_below-end.ensures.onward.1 c.in_ok-push_range.ensures.put
          met.joined met.ascending met.below met.count;
      election = met.election ∙ c.in_ok-push_range.ensures.election ∙ c.places.invariant.election;
    }

pub returns-clause-joined : goal.returns-clause-joined
returns-clause-joined c =
    let kept = c.args.kept.now.ballots in
    let set = c.args.closed.now.ballots in
    let i = c.places.place-index in
    let size = listed_all set c.deref-place-items.result.now c.in_ok-places.places.items c.deref-place-items.ensures.value c.in_ok-places.ensures.numbers in
    (run_ends kept set c.args.dispute c.places.ballots.ballots c.push_range-2.new.self.ballots c.places.next i c.places.dispute c.places.invariant.run (omega arith)
    (c.in_ok-push_range-2.ensures.put ∙ ap (λ n. c.places.ballots.ballots ++ slice_range kept c.places.next n) c.len-3.ensures.count)).1
