-- A tray with one number more, and the lists of its seat.
use Rattle.std.proofs.Common.{◌≡◌, ℕ, Bool, true, List, [], ◌∷◌, ◌++◌, get_or, map, refl, sym, ap, ◌∙◌, subst}
use Rattle.store_spec.proofs.Common.{All, All-contains, All-push, AllPairs, Contains, Contains-get_or, IsRightWithdrawal, MayBeWithdrawnBefore, WithdrawView, all_pairs_push, append-nil, is_withdrawn, map_push, numbers_of}
use Rattle.std.specs.Prelude.{◌↔◌}
use Rattle.phase_delete.specs.Gains.{Gains, IsNewTo, IsRemoval}
use Rattle.phase_delete.specs.Tray.{IsTrayOf, gone_of, tray_line, withdrawn_of}
use Rattle.phase_kind.specs.Phase.{OpenPhase}
use Rattle.phase_delete.specs.Tray.{TrayWithdrawal}
use Rattle.phase_kind.proofs.Trays.{told_of}
use Rattle.step_core.proofs.WithdrawingAnswers.{numbers-append, numbers-contains}
use Rattle.step_core.specs.WithdrawCore.{reply_of}
use Rattle.step_core.specs.WithdrawingInvariant.{is_gone, numbers_that}
use Rattle.step_core.specs.declared.withdrawer.WithdrawReply.{WithdrawReply}
use Rattle.step_core.specs.declared.withdrawer.WithdrawReply.TheVariants.{Withdrawn, Gone, Absent}
use Rattle.store_spec.specs.WithdrawPhase as outcome
use Rattle.store_spec.specs.WithdrawStep.WithdrawState.{Rest}

-- ---- the numbers of a tray

abbrev pub told : ℕ → WithdrawReply → TrayWithdrawal
told number reply = told_of number reply

-- a number adds itself to those with such a reply, or nothing
module _ (such : outcome.WithdrawReply → Bool) (tray : List TrayWithdrawal) (w : TrayWithdrawal) (list now : List ℕ) where
  pushed : numbers_that such (map tray_line (tray ++ w ∷ [])) ≡ numbers_that such (map tray_line tray) ++ numbers_that such (tray_line w ∷ [])
  pushed = ap (numbers_that such) (map_push tray_line tray w) ∙ numbers-append such (map tray_line tray) (tray_line w ∷ [])

  adds : numbers_that such (tray_line w ∷ []) ≡ w.item ∷ [] → numbers_that such (map tray_line tray) ≡ list → now ≡ list ++ w.item ∷ [] → numbers_that such (map tray_line (tray ++ w ∷ [])) ≡ now
  adds one so_far is = pushed ∙ ap (λ l. numbers_that such (map tray_line tray) ++ l) one ∙ ap (λ l. l ++ w.item ∷ []) so_far ∙ sym is

  keeps : numbers_that such (tray_line w ∷ []) ≡ [] → numbers_that such (map tray_line tray) ≡ list → now ≡ list → numbers_that such (map tray_line (tray ++ w ∷ [])) ≡ now
  keeps none so_far is = pushed ∙ ap (λ l. numbers_that such (map tray_line tray) ++ l) none ∙ append-nil (numbers_that such (map tray_line tray)) ∙ so_far ∙ sym is

-- ---- the lists of the seat

-- the seat is at rest, and its lists are those that the tray tells
pub record AreLists (view : WithdrawView) (tray : List TrayWithdrawal) : Type 0 where
  pub at_rest : view.state ≡ Rest
  pub begun : withdrawn_of tray ≡ view.begun
  pub gone : gone_of tray ≡ view.gone

lists_more : (old now : WithdrawView) (tray : List TrayWithdrawal) (number : ℕ) (reply : WithdrawReply) → AreLists old tray → Gains old number reply now → AreLists now (tray ++ told number reply ∷ [])
lists_more old now tray number Withdrawn h gains = record {
  at_rest = gains.at_rest;
  begun = adds is_withdrawn tray (told number Withdrawn) old.begun now.begun refl h.begun gains.begun;
  gone = keeps is_gone tray (told number Withdrawn) old.gone now.gone refl h.gone gains.gone;
}
lists_more old now tray number Gone h gains = record {
  at_rest = gains.at_rest;
  begun = keeps is_withdrawn tray (told number Gone) old.begun now.begun refl h.begun gains.begun;
  gone = adds is_gone tray (told number Gone) old.gone now.gone refl h.gone gains.gone;
}
lists_more old now tray number Absent h same = record {
  at_rest = ap (λ v. v.state) same ∙ h.at_rest;
  begun = keeps is_withdrawn tray (told number Absent) old.begun now.begun refl h.begun (ap (λ v. v.begun) same);
  gone = keeps is_gone tray (told number Absent) old.gone now.gone refl h.gone (ap (λ v. v.gone) same);
}

-- ---- the order

withdrawn_here : (reply : WithdrawReply) → reply_of reply ≡ outcome.WithdrawReply.Withdrawn → reply ≡ Withdrawn
withdrawn_here Withdrawn is = refl
withdrawn_here Gone is = absurd cc
withdrawn_here Absent is = absurd cc

-- what is withdrawn now was not found gone before
precedes : (old : WithdrawView) (tray : List TrayWithdrawal) (number : ℕ) (reply : WithdrawReply) → gone_of tray ≡ old.gone → (reply ≡ Withdrawn → IsNewTo old number) → (a : outcome.Withdrawal) → Contains (map tray_line tray) a → MayBeWithdrawnBefore a (tray_line (told number reply))
precedes old tray number reply lists new a there same gone withdrawn =
    let among = All-contains (λ (b : outcome.Withdrawal). is_gone b.reply ≡ true → Contains (gone_of tray) b.number) (map tray_line tray) a (numbers-contains is_gone (map tray_line tray)) there (ap is_gone gone) in
    (new (withdrawn_here reply withdrawn)).not_gone (subst (λ (l : List ℕ). Contains l number) lists (subst (Contains (gone_of tray)) same among))

-- ---- one number more

pub told_more : (phase : OpenPhase) (old now : WithdrawView) (tray : List TrayWithdrawal) (number : ℕ) (reply : WithdrawReply) → IsTrayOf phase old tray → IsRightWithdrawal (numbers_of phase.base.ballots) number (reply_of reply) → Gains old number reply now → (reply ≡ Withdrawn → IsNewTo old number) → IsTrayOf phase now (tray ++ told number reply ∷ [])
told_more phase old now tray number reply h right gains new =
    let w = told number reply in
    let before : AreLists old tray = record { at_rest = h.at_rest; begun = h.begun; gone = h.gone } in
    let lists = lists_more old now tray number reply before gains in
    let Right : outcome.Withdrawal → Type 0 = λ a. IsRightWithdrawal (numbers_of phase.base.ballots) a.number a.reply in
    record {
      at_rest = lists.at_rest;
      begun = lists.begun;
      gone = lists.gone;
      right = subst (All Right) (sym (map_push tray_line tray w)) (All-push Right (map tray_line tray) (tray_line w) h.right right);
      in_order = subst (AllPairs MayBeWithdrawnBefore) (sym (map_push tray_line tray w))
          (all_pairs_push MayBeWithdrawnBefore (map tray_line tray) (tray_line w) h.in_order (λ k d within. precedes old tray number reply h.gone new (get_or (map tray_line tray) k d) (Contains-get_or (map tray_line tray) k d within)));
    }

-- ---- what a reply says, exactly

pub absent_exactly : (held : List ℕ) (number : ℕ) (reply : WithdrawReply) → IsRightWithdrawal held number (reply_of reply) → (reply ≡ Absent) ↔ (¬ Contains held number)
absent_exactly held number Withdrawn there = (λ e. absurd cc, λ none. absurd (none there))
absent_exactly held number Gone there = (λ e. absurd cc, λ none. absurd (none there))
absent_exactly held number Absent none = (λ e. none, λ out. refl)

pub right_of_held : (held : List ℕ) (number : ℕ) (reply : WithdrawReply) → IsRemoval reply → Contains held number → IsRightWithdrawal held number (reply_of reply)
right_of_held held number Withdrawn removal there = there
right_of_held held number Gone removal there = there
right_of_held held number Absent removal there = absurd removal
