use Rattle.std.proofs.Common.{◌≡◌, ◌++◌, List, map, sym, ap, subst, ◌∙◌}
use Rattle.store_spec.proofs.Common.{All, All-map, Ballot, IsListing, IsPermutation, IsWithinLimit, cells_of, on_ok_weaker}
use Rattle.ballot_record.specs.BallotList.{ListedBallots}
use Rattle.body_store.specs.Contents.{all_listed}
use Rattle.layout_def.specs.Changes.{AreChanges}
use Rattle.phase_insert.proofs.AllAccepted.{finals_stay, taken_in}
use Rattle.phase_insert.proofs.closing.add_accepted.Goals as goal
use Rattle.phase_insert.specs.Ends.{AreAllFinals}
use Rattle.phase_insert.specs.Tray.{CastTray, IsAllAccepted, casts_of}

pub merge-requires-clause-election : goal.merge-requires-clause-election
merge-requires-clause-election c =
    let e = c.args.closed.now.election in
    subst (All (λ (list : ListedBallots). list.election ≡ e)) (sym (c.deref-then-are_all_accepted-2.ensures.value ∙ c.in_ok-lists.ensures))
    (All-map (λ (list : ListedBallots). list.election ≡ e) (λ (tray : CastTray). tray.items) c.args.trays.items c.requires.elections)

pub merge-requires-clause-listing : goal.merge-requires-clause-listing
merge-requires-clause-listing c =
    let base = c.args.closed.now in
    let joined = taken_in c.args.trays.items c.deref.result.now c.in_ok-lists.lists.items c.deref-then-are_all_accepted-2.result.now c.deref.ensures.value c.requires.paired (c.are_all_accepted.ensures c.if-are_all_accepted.true) c.in_ok-lists.ensures c.deref-then-are_all_accepted-2.ensures.value in
    subst (λ (bs : List Ballot). IsListing base.election (base.ballots ++ bs)) (sym joined) c.requires.listing

pub merge-requires-clause-within_limit : goal.merge-requires-clause-within_limit
merge-requires-clause-within_limit c =
    let base = c.args.closed.now in
    let joined = taken_in c.args.trays.items c.deref.result.now c.in_ok-lists.lists.items c.deref-then-are_all_accepted-2.result.now c.deref.ensures.value c.requires.paired (c.are_all_accepted.ensures c.if-are_all_accepted.true) c.in_ok-lists.ensures c.deref-then-are_all_accepted-2.ensures.value in
    subst (λ (bs : List Ballot). IsWithinLimit base.election (base.ballots ++ bs)) (sym joined) c.requires.within_limit

pub merge-requires-clause-changes : goal.merge-requires-clause-changes
merge-requires-clause-changes c =
    let base = c.args.closed.now in
    let joined = taken_in c.args.trays.items c.deref.result.now c.in_ok-lists.lists.items c.deref-then-are_all_accepted-2.result.now c.deref.ensures.value c.requires.paired (c.are_all_accepted.ensures c.if-are_all_accepted.true) c.in_ok-lists.ensures c.deref-then-are_all_accepted-2.ensures.value in
    subst (λ (bs : List Ballot). AreChanges (cells_of base.election base.ballots) (cells_of base.election (base.ballots ++ bs)) c.args.changes.items) (sym joined) c.requires.changes

pub returns-then-are_all_accepted-clause-union : goal.returns-then-are_all_accepted-clause-union
returns-then-are_all_accepted-clause-union c =
    let base = c.args.closed.now in
    let after = c.merge.new.self in
    let joined = taken_in c.args.trays.items c.deref.result.now c.in_ok-lists.lists.items c.deref-then-are_all_accepted-2.result.now c.deref.ensures.value c.requires.paired (c.are_all_accepted.ensures c.if-are_all_accepted.true) c.in_ok-lists.ensures c.deref-then-are_all_accepted-2.ensures.value in
    on_ok_weaker c.merge.result
    (λ (union : IsPermutation (base.ballots ++ all_listed c.deref-then-are_all_accepted-2.result.now) after.ballots).
    subst (λ (bs : List Ballot). IsPermutation (base.ballots ++ bs) after.ballots) joined union)
    c.merge.ensures.union

-- what was told before the merge holds after it
pub returns-then-are_all_accepted-clause-finals : goal.returns-then-are_all_accepted-clause-finals
returns-then-are_all_accepted-clause-finals c =
    let before = c.args.closed.now.ballots in
    let after = c.merge.new.self.ballots in
    let trays = c.args.trays.items in
    let lists = map (λ list. list.items) c.all_finals.new.lists in
    let accepted = subst (All IsAllAccepted) c.deref.ensures.value (c.are_all_accepted.ensures c.if-are_all_accepted.true) in
    let told = subst (λ (trays : List CastTray). AreAllFinals before (map casts_of trays) lists) c.deref-then-are_all_accepted.ensures.value c.all_finals.ensures in
    on_ok_weaker c.merge.result (λ _. finals_stay before after trays lists c.requires.paired accepted told) c.merge.ensures.union
