use Rattle.std.proofs.Common.{All, ◌≡◌, [], ◌++◌, Vec, vec_capacity, Global, ap, drop, length, map, take, ◌∙◌, refl, subst, subst₂, sym, List, ℕ, arith}
use Rattle.store_spec.proofs.Common.{Ballot, Election, IsBallotSet, IsPermutation, IsWithinLimit, map-id, take-append_seam}
use Rattle.layout_def.specs.Changes.{AreChanges}
use Rattle.phase_insert.proofs.Outcome.{closes_as}
use Rattle.phase_insert.proofs.Whole.{may_join, whole}
use Rattle.phase_insert.proofs.kind.CastingKind.end.Goals as goal
use Rattle.phase_insert.specs.Closing.{ClosesAs}
use Rattle.phase_insert.specs.Ends.{AreAllFinals, all_accepted}
use Rattle.phase_insert.specs.Tray.{Cast, CastTray, casts_of}
use Rattle.phase_insert.specs.declared.reply.Final.{Final}
use Rattle.word_rule.specs.CastSeats.{IsAtRest}
use Rattle.word_rule.specs.CastWords.{AgreeOn, cells_after}
use Rattle.word_rule.specs.Places.{AreWhole}

pub close-requires : goal.close-requires
close-requires c =
    let left = c.requires.left in
    let seats = sym (map-id c.args.seats.items) ∙ left.seats_are in
    record {
      whole = subst (AreWhole IsAtRest c.args.words) (sym seats) (whole c.args.closed.now c.args.words left.workers left.all left.told);
      as_many = c.cells.ensures.layout.size ∙ sym c.requires.own.of_store.shape.cells;
    }

pub add_accepted-requires : goal.add_accepted-requires
add_accepted-requires c =
    let left = c.requires.left in
    let seats = sym (map-id c.args.seats.items) ∙ left.seats_are in
    let base = c.args.closed.now in
    let words = c.args.words in
    let trays = c.args.trays.items in
    let ended = cells_after words c.args.seats.items in
    let may = may_join base words left.workers left.all c.requires.own c.requires.stored left.told (subst (AgreeOn words) seats c.in_ok-changes.ensures.lists)
    base.election (all_accepted (map casts_of trays)) ended refl (ap all_accepted left.trays_are) (ap (cells_after words) seats) in
    record {
      stored = c.requires.stored;
      elections = c.requires.is_of;
      paired = c.requires.paired;
      listing = may.listing;
      within_limit = may.within_limit;
      changes = subst₂ (λ (before after : List ℕ). AreChanges before after c.in_ok-changes.changes.items) c.cells.ensures.cells may.layout c.in_ok-changes.ensures.changes;
      empty = subst (λ (lists : List (Vec Final Global)). All (λ list. list.items ≡ []) lists) (sym c.deref_mut.ensures.value) c.in_ok-finals.ensures.empty;
      room = ap (map (λ (list : Vec Final Global). vec_capacity list)) c.deref_mut.ensures.value ∙ c.in_ok-finals.ensures.room
          ∙ ap (map (λ (tray : CastTray). length tray.replies.items)) c.deref-2.ensures.value;
    }

pub returns-clause-closes : goal.returns-clause-closes
returns-clause-closes c =
    let left = c.requires.left in
    let seats = sym (map-id c.args.seats.items) ∙ left.seats_are in
    let base = c.args.closed.now in
    let words = c.args.words in
    let tabs = left.workers in
    let after = c.add_accepted.new.closed in
    let told = c.add_accepted.new.finals in
    let rooms = c.in_ok-finals.finals in
    let added = c.in_ok-add_accepted.ensures in
    let election : after.election ≡ base.election = added.election in
    let gains = subst (λ (bs : List Ballot). IsPermutation (base.ballots ++ bs) after.ballots) (ap all_accepted left.trays_are) added.union in
    let size : rooms.len ≡ length told = omega arith in
    let written : take rooms.len (told ++ drop (length told) rooms.items) ≡ told =
    ap (λ n. take n (told ++ drop (length told) rooms.items)) size ∙ take-append_seam told (drop (length told) rooms.items) in
    subst (λ (trays : List (List Cast)). ClosesAs base trays (map (λ list. list.items) (take rooms.len (told ++ drop (length told) rooms.items))) after.ballots) (sym left.trays_are)
    (subst (λ (lists : List (Vec Final Global)). ClosesAs base (map (λ tab. tab.tray) tabs) (map (λ list. list.items) lists) after.ballots) (sym written)
    (closes_as base words tabs left.all c.requires.own left.told (subst (AgreeOn words) seats c.in_ok-changes.ensures.lists) after.ballots gains (map (λ list. list.items) told)
    (subst (λ (e : Election). IsBallotSet e after.ballots) election added.stored.set)
    (subst (λ (e : Election). IsWithinLimit e after.ballots) election added.stored.within_limit)
    (subst (λ (trays : List (List Cast)). AreAllFinals after.ballots trays (map (λ list. list.items) told)) left.trays_are added.finals)))
