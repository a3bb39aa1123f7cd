-- The close of a phase, as a session sees it.
use Rattle.std.proofs.Common.{◌≡◌, ℕ, List, [], ◌∷◌, map, refl, sym, ap, ◌∙◌}
use Rattle.store_spec.proofs.Common.{Ballot, ClosesWithdrawing, Effect, closing, map-map, withdraw_text}
use Rattle.body_store.specs.Contents.{Contents, ballots_without}
use Rattle.phase_delete.proofs.Whole.{listed_is, replies_in}
use Rattle.phase_delete.specs.Closing.{ClosesAs, tray_lines}
use Rattle.phase_delete.specs.Tray.{tray_line}
use Rattle.phase_delete.specs.Tray.{TrayWithdrawal}
use Rattle.step_core.specs.WithdrawCore.{reply_of}
use Rattle.step_core.specs.declared.withdrawer.WithdrawReply.{WithdrawReply}
use Rattle.store_spec.specs.WithdrawPhase as outcome

numbers_told : (trays : List (List TrayWithdrawal)) → map (map (λ a. a.number)) (tray_lines trays) ≡ map (map (λ w. w.item)) trays
numbers_told [] = refl
numbers_told (tray ∷ trays) =
    ap (λ l. l ∷ map (map (λ (a : outcome.Withdrawal). a.number)) (tray_lines trays)) (map-map (λ (a : outcome.Withdrawal). a.number) tray_line tray)
    ∙ ap (λ l. map (λ (w : TrayWithdrawal). w.item) tray ∷ l) (numbers_told trays)

abbrev text : WithdrawReply → List ℕ
text reply = withdraw_text (reply_of reply)

texts_told : (trays : List (List TrayWithdrawal)) → map (map text) (map replies_in trays) ≡ map (map (λ a. withdraw_text a.reply)) (tray_lines trays)
texts_told [] = refl
texts_told (tray ∷ trays) =
    ap (λ l. l ∷ map (map text) (map replies_in trays)) (map-map text (λ (w : TrayWithdrawal). w.reply) tray ∙ sym (map-map (λ (a : outcome.Withdrawal). withdraw_text a.reply) tray_line tray))
    ∙ ap (λ l. map (λ (a : outcome.Withdrawal). withdraw_text a.reply) (map tray_line tray) ∷ l) (texts_told trays)

pub closes_session : (base : Contents) (trays : List (List TrayWithdrawal)) (replies : List (List WithdrawReply)) (after : List Ballot) (effect : Effect) → ClosesAs base trays replies after → effect ≡ closing (map (map (λ reply. withdraw_text (reply_of reply))) replies) after → ClosesWithdrawing base.ballots (map (map (λ w. w.item)) trays) effect
closes_session base trays replies after effect closes is = record {
  lines = tray_lines trays;
  of_lists = numbers_told trays;
  after = after;
  rest = closes.rest ∙ ap (ballots_without base.ballots) (sym (listed_is trays));
  outcome = closes.outcome;
  is = is ∙ ap (λ told. closing (map (map text) told) after) closes.of_trays ∙ ap (λ words. closing words after) (texts_told trays);
}
