use Rattle.std.proofs.Common.{Global, List, Vec, ℕ, refl, ap, map, ◌∙◌, subst, subst₂, sym}
use Rattle.store_spec.proofs.Common.{map-id}
use Rattle.body_store.specs.Contents.{Contents}
use Rattle.layout_def.specs.Changes.{AreChanges}
use Rattle.phase_delete.proofs.Whole.{closes_as, layout, replies_in, trays_of, whole}
use Rattle.phase_delete.proofs.kind.WithdrawingKind.end.Goals as goal
use Rattle.phase_delete.specs.Closing.{ClosesAs}
use Rattle.phase_delete.specs.Ends.{all_withdrawn}
use Rattle.phase_delete.specs.Tray.{TrayWithdrawal}
use Rattle.phase_kind.proofs.Trays.{replies_of_trays}
use Rattle.phase_kind.specs.declared.tray.Tray.{Tray}
use Rattle.step_core.specs.declared.withdrawer.WithdrawReply.{WithdrawReply}
use Rattle.word_rule.specs.Places.{AreWhole}
use Rattle.word_rule.specs.WithdrawSeats.{IsAtRest}
use Rattle.word_rule.specs.WithdrawWords.{AgreeOn, cells_after}

abbrev WithdrawTray : Type 0
WithdrawTray = Tray (Vec ℕ Global) WithdrawReply

pub close-requires : goal.close-requires
close-requires c =
    let left = c.requires.left in
    let seats = sym (map-id c.args.seats.items) ∙ left.seats_are in
    record {
      whole = subst (AreWhole IsAtRest c.args.words) (sym seats) (whole c.args.closed.now c.args.words left.workers left.all left.told);
      as_many = c.cells.ensures.layout.size ∙ sym c.requires.own.of_store.shape.cells;
    }

pub without-requires : goal.without-requires
without-requires c =
    let left = c.requires.left in
    let seats = sym (map-id c.args.seats.items) ∙ left.seats_are in
    let words = c.args.words in
    let base = c.args.closed.now in
    let gone = all_withdrawn (trays_of left.workers) in (
      gone,
      subst₂ (λ (before after : List ℕ). AreChanges before after c.in_ok-changes.changes.items) c.cells.ensures.cells
          (layout base words left.workers left.all left.told base.election gone (cells_after words c.args.seats.items) c.requires.own.of_store c.requires.stored refl refl (ap (cells_after words) seats))
          c.in_ok-changes.ensures.changes,
    )

pub returns-clause-closes : goal.returns-clause-closes
returns-clause-closes c =
    let left = c.requires.left in
    let seats = sym (map-id c.args.seats.items) ∙ left.seats_are in
    let words = c.args.words in
    let base = c.args.closed.now in
    let gone = all_withdrawn (trays_of left.workers) in
    let laid =
    subst₂ (λ (before after : List ℕ). AreChanges before after c.in_ok-changes.changes.items) c.cells.ensures.cells
    (layout base words left.workers left.all left.told base.election gone (cells_after words c.args.seats.items) c.requires.own.of_store c.requires.stored refl refl (ap (cells_after words) seats))
    c.in_ok-changes.ensures.changes in
    let after = c.without.new.self.ballots in
    let replies = map (λ list. list.items) c.in_ok-replies.replies.items in
    subst (λ (trays : List (List TrayWithdrawal)). ClosesAs base trays replies after) (sym left.trays_are)
    (closes_as base words left.workers left.all left.told (subst (AgreeOn words) seats c.in_ok-changes.ensures.lists) gone after replies refl (ap (λ (store : Contents). store.ballots) (c.in_ok-without.ensures.rest gone laid))
    (c.in_ok-replies.ensures
    ∙ replies_of_trays (λ (tray : WithdrawTray). tray.items.items) (λ (tray : WithdrawTray). tray.replies.items) c.args.trays.items c.requires.paired
    ∙ ap (map replies_in) left.trays_are))
