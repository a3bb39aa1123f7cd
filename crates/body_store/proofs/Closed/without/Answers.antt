use Rattle.std.proofs.Common.{◌≡◌, ℕ, List, [], drop, length, sym, ap, ◌∙◌, subst}
use Rattle.store_spec.proofs.Common.{All, All-nil, Ballot, Election, cells_of, header_size, numbers_in}
use Rattle.ballot_record.specs.BallotList.{ListedBallots}
use Rattle.body_store.proofs.BallotSets.{stored_without}
use Rattle.body_store.proofs.ByNumber.{by_number-is}
use Rattle.body_store.proofs.Closed.without.Goals as goal
use Rattle.body_store.proofs.Keeping.{kept_as, shown_by_number, shown_held}
use Rattle.body_store.proofs.Relaying.{IsRest, rest_is, without_closes}
use Rattle.body_store.proofs.Spelled.{held_among}
use Rattle.body_store.specs.ByNumber.{by_number}
use Rattle.body_store.specs.Closing.{IsClose}
use Rattle.body_store.specs.Contents.{Contents, ballots_without}
use Rattle.body_store.specs.Held.{Shows, held_in, spelled_in}
use Rattle.body_store.specs.Kept.{IsKept, contents_of}
use Rattle.body_store.specs.declared.Closed.TheInside.{Inside}
use Rattle.layout_def.proofs.Changing.{changed_cells, changes_make}
use Rattle.layout_def.specs.Changes.{AreChanges}
use Rattle.layout_def.specs.declared.changes.CellChange.{CellChange}

abbrev none : List ListedBallots
none = []

abbrev held : List ℕ → Election → List ℕ → List Ballot
held image e numbers = by_number (spelled_in e numbers (drop header_size image))

-- what the close asks, of the same things under other names
abbrev IsAsked : List ℕ → Election → List ℕ → List CellChange → Type 0
IsAsked image e numbers changes =
    let old = held image e numbers in
    let rest = held_in old (changed_cells numbers changes) in
    IsClose e [] (record { old = old; all = old; rest = rest })
    × (All (λ (list : ListedBallots). list.election ≡ e) none × (Shows e old image numbers × AreChanges numbers (cells_of e rest) changes))

-- these are the changes of what is kept
own_changes : (a : Inside) (store : Contents) (gone : List ℕ) (changes : List CellChange) → contents_of a ≡ store → IsKept a
    → AreChanges (cells_of store.election store.ballots) (cells_of store.election (ballots_without store.ballots gone)) changes
    → AreChanges a.cells (cells_of a.election.value (ballots_without (contents_of a).ballots gone)) changes
own_changes a store gone changes view kept are =
    let own = contents_of a in
    subst (λ numbers. AreChanges numbers (cells_of own.election (ballots_without own.ballots gone)) changes) (sym kept.shown.cells)
    (subst (λ (store : Contents). AreChanges (cells_of store.election store.ballots) (cells_of store.election (ballots_without store.ballots gone)) changes) (sym view) are)

-- what is left in the cells, where these numbers went
left : (a : Inside) (gone : List ℕ) (changes : List CellChange) → IsKept a
    → AreChanges a.cells (cells_of a.election.value (ballots_without (contents_of a).ballots gone)) changes
    → IsRest a.election.value (contents_of a).ballots gone (changed_cells a.cells changes)
left a gone changes kept are =
    let own = contents_of a in
    rest_is own.election own.ballots gone (changed_cells a.cells changes) kept.shown.election (shown_held own.election own.ballots a.image.items a.cells kept.shown)
    (changes_make a.cells (cells_of own.election (ballots_without own.ballots gone)) changes are)

pub close-requires : goal.close-requires
close-requires c =
    let a = c.self.inside in
    let own = contents_of a in
    let image = a.image.items in
    let changes = c.args.changes.items in
    let cells = changed_cells a.cells changes in
    let shown = c.self.invariant.shown in
    let gone = c.requires.0 in
    let are = own_changes a c.args.self.now gone changes c.self.view_is c.self.invariant c.requires.1 in
    let rest = left a gone changes c.self.invariant are in
    let asked : IsAsked image own.election a.cells changes = (
      without_closes own.election own.ballots (held_in own.ballots cells) shown.election (shown_held own.election own.ballots image a.cells shown) rest.held
          (held_among own.ballots cells),
      (
        All-nil (λ (list : ListedBallots). list.election ≡ own.election),
        (
          shown,
          subst (λ now. AreChanges a.cells now changes)
              (sym (changes_make a.cells (cells_of own.election (ballots_without own.ballots gone)) changes are) ∙ rest.laid) are,
        ),
      ),
    ) in
    subst (λ e. IsAsked image e a.cells changes) (sym c.deref.ensures) asked

-- what it makes, under the names of the store
made : (image now : List ℕ) (e own : Election) (numbers : List ℕ) (changes : List CellChange) (cells : List ℕ) → e ≡ own
    → Shows e (held_in (held image e numbers) (changed_cells numbers changes)) now cells
    → Shows own (held_in (held image own numbers) (changed_cells numbers changes)) now cells
made image now e own numbers changes cells same_e shown =
    subst (λ e. Shows e (held_in (held image e numbers) (changed_cells numbers changes)) now cells) same_e shown

pub invariant_of-self-2 : goal.invariant_of-self-2
invariant_of-self-2 c =
    let a = c.self.inside in
    let changes = c.args.changes.items in
    let now : Inside = record { election = a.election; image = c.close.new.image; cells = c.close.new.cells; held = c.count-self-inside.result } in
    kept_as now (held_in (contents_of a).ballots (changed_cells a.cells changes))
    (made a.image.items now.image.items c.deref.result.now a.election.value a.cells changes now.cells c.deref.ensures c.in_ok-close.ensures.shown)
    (c.count-self-inside.ensures ∙ ap (λ cells. length (numbers_in cells)) c.numbers.ensures.value)

pub returns-clause-rest : goal.returns-clause-rest
returns-clause-rest c gone laid =
    let a = c.self.inside in
    let own = contents_of a in
    let changes = c.args.changes.items in
    let cells = changed_cells a.cells changes in
    let now = c.close.new.image.items in
    let contents : List Ballot → Contents = λ ballots. record { election = a.election.value; ballots = ballots } in
    let shown = made a.image.items now c.deref.result.now a.election.value a.cells changes c.close.new.cells c.deref.ensures c.in_ok-close.ensures.shown in
    let rest = left a gone changes c.self.invariant (own_changes a c.args.self.now gone changes c.self.view_is c.self.invariant laid) in
    let stays = stored_without own gone c.self.invariant.stored in
    ap contents (shown_by_number a.election.value (held_in own.ballots cells) now c.close.new.cells shown
    ∙ by_number-is (held_in own.ballots cells) (ballots_without own.ballots gone) rest.held.listing.distinct stays.set.ascending rest.same)
    ∙ ap (λ (store : Contents). let rest : Contents = record { election = store.election; ballots = ballots_without store.ballots gone } in rest) c.self.view_is

pub returns-clause-stored : goal.returns-clause-stored
returns-clause-stored c = (invariant_of-self-2 c).stored
