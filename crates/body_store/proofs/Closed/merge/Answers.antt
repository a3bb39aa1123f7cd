use Rattle.std.proofs.Common.{◌≡◌, ◌++◌, ◌+◌, ℕ, List, drop, sym, ap, subst, arith, length-append}
use Rattle.store_spec.proofs.Common.{All, Ballot, Election, IsListing, IsPermutation, IsWithinLimit, cells_of, header_size}
use Rattle.ballot_record.specs.BallotList.{ListedBallots}
use Rattle.body_store.proofs.ByNumber.{by_number-IsPermutation}
use Rattle.body_store.proofs.Closed.merge.Goals as goal
use Rattle.body_store.proofs.Keeping.{counted_with, few_counted, kept_as, shown_by_number}
use Rattle.body_store.proofs.Relaying.{merge_closes}
use Rattle.body_store.specs.ByNumber.{by_number}
use Rattle.body_store.specs.Closing.{IsClose}
use Rattle.body_store.specs.Contents.{Contents, all_listed}
use Rattle.body_store.specs.Held.{Shows, spelled_in}
use Rattle.body_store.specs.Kept.{contents_of}
use Rattle.body_store.specs.declared.Closed.TheInside.{Inside}
use Rattle.layout_def.specs.Changes.{AreChanges}
use Rattle.layout_def.specs.declared.changes.CellChange.{CellChange}

abbrev held : List ℕ → Election → List ℕ → List Ballot
held image e numbers = by_number (spelled_in e numbers (drop header_size image))

-- what the close asks, of the same things under other names
abbrev IsAsked : List ℕ → Election → List ListedBallots → List ℕ → List Ballot → List CellChange → Type 0
IsAsked image e lists numbers new changes =
    let old = held image e numbers in
    IsClose e new (record { old = old; all = old ++ new; rest = old ++ new })
    × (All (λ list. list.election ≡ e) lists × (Shows e old image numbers × AreChanges numbers (cells_of e (old ++ new)) changes))

pub count-requires : goal.count-requires
count-requires c =
    omega (
      arith,
      c.requires.within_limit,
      length-append c.args.self.now.ballots (all_listed c.args.lists.now),
      c.self.invariant.shown.election.few_ballots,
      ap (λ (store : Contents). store.election.limit) c.self.view_is,
    )

pub overflow_add-held : goal.overflow_add-held
overflow_add-held c =
    let few = few_counted c.self.inside c.self.invariant in
    omega (
      arith,
      few,
      c.requires.within_limit,
      length-append c.args.self.now.ballots (all_listed c.args.lists.now),
      c.count.ensures,
      c.self.invariant.shown.election.few_ballots,
      ap (λ (store : Contents). store.election.limit) c.self.view_is,
    )

pub close-requires : goal.close-requires
close-requires c =
    let a = c.self.inside in
    let own = contents_of a in
    let image = a.image.items in
    let new = all_listed c.args.lists.now in
    let back = sym c.self.view_is in
    let laid : AreChanges (cells_of own.election own.ballots) (cells_of own.election (own.ballots ++ new)) c.args.changes.items =
    subst (λ (store : Contents). AreChanges (cells_of store.election store.ballots) (cells_of store.election (store.ballots ++ new)) c.args.changes.items) back c.requires.changes in
    let asked : IsAsked image own.election c.args.lists.now a.cells new c.args.changes.items = (
      merge_closes own.election own.ballots new c.self.invariant.shown.election
          (subst (λ (store : Contents). IsListing store.election (store.ballots ++ new)) back c.requires.listing)
          (subst (λ (store : Contents). IsWithinLimit store.election (store.ballots ++ new)) back c.requires.within_limit),
      (
        subst (λ (store : Contents). All (λ list. list.election ≡ store.election) c.args.lists.now) back c.requires.election,
        (c.self.invariant.shown, subst (λ numbers. AreChanges numbers (cells_of own.election (own.ballots ++ new)) c.args.changes.items) (sym c.self.invariant.shown.cells) laid),
      ),
    ) in
    subst (λ e. IsAsked image e c.args.lists.now a.cells new c.args.changes.items) (sym c.deref.ensures) asked

-- what it makes, under the names of the store
made : (image now : List ℕ) (e own : Election) (numbers : List ℕ) (new : List Ballot) (cells : List ℕ) → e ≡ own
    → Shows e (held image e numbers ++ new) now cells → Shows own (held image own numbers ++ new) now cells
made image now e own numbers new cells same_e shown = subst (λ e. Shows e (held image e numbers ++ new) now cells) same_e shown

pub invariant_of-self-2 : goal.invariant_of-self-2
invariant_of-self-2 c =
    let a = c.self.inside in
    let own = contents_of a in
    let new = all_listed c.args.lists.now in
    let now : Inside = record { election = a.election; image = c.close.new.image; cells = c.leave_behind.new.self; held = a.held + c.count.result } in
    let shown : Shows own.election (own.ballots ++ new) now.image.items now.cells =
    subst (λ cells. Shows own.election (own.ballots ++ new) now.image.items cells) (sym c.leave_behind.ensures)
    (made a.image.items now.image.items c.deref.result.now own.election a.cells new c.close.new.cells
    c.deref.ensures c.in_ok-close.ensures.shown) in
    let counted = counted_with own.election own.ballots new a.image.items a.cells now.image.items now.cells c.self.invariant.shown shown in
    kept_as now (own.ballots ++ new) shown (omega (arith, counted, c.self.invariant.counted, c.count.ensures))

pub returns-clause-union : goal.returns-clause-union
returns-clause-union c =
    let a = c.self.inside in
    let new = all_listed c.args.lists.now in
    let own = contents_of a in
    let all = own.ballots ++ new in
    let now = c.close.new.image.items in
    let cells = c.leave_behind.new.self in
    let shown : Shows own.election all now cells =
    subst (λ cells. Shows own.election all now cells) (sym c.leave_behind.ensures)
    (made a.image.items now c.deref.result.now own.election a.cells new c.close.new.cells
    c.deref.ensures c.in_ok-close.ensures.shown) in
    subst (λ (store : Contents). IsPermutation (store.ballots ++ new) (held now a.election.value cells)) c.self.view_is
    (subst (λ (bs : List Ballot). IsPermutation all bs) (sym (shown_by_number a.election.value all now cells shown)) (by_number-IsPermutation all))

pub returns-clause-stored : goal.returns-clause-stored
returns-clause-stored c = (invariant_of-self-2 c).stored
