-- All seats of withdrawing at rest give the cells, and tell what their lists are like.
use Rattle.std.proofs.Common.{◌≡◌, ℕ, ◌≤◌, List, length, take, refl, sym, ◌∙◌, ap, subst}
use Rattle.store_spec.proofs.Common.{All, Contains, IsOfBase, WithdrawView, fresh_withdraw_view, layout_of, numbers_in, times, without}
use Rattle.step_core.specs.Shape.{homes_of}
use Rattle.word_rule.proofs.Closing.{each_list}
use Rattle.word_rule.proofs.WithdrawEnds.{ends}
use Rattle.word_rule.specs.Places.{HaveEnded, Place}
use Rattle.word_rule.specs.Seats.{SharedWords}
use Rattle.word_rule.specs.WithdrawSeats.{IsAtRest, IsWithdrawn, joined_withdraw_view}
use Rattle.word_rule.specs.WithdrawWords.{AgreeOn, begun_at, cells_after}

pub closes : (words : SharedWords) (places : List (Place WithdrawView)) (last : List ℕ) → length words.base ≡ words.shape.cells → HaveEnded IsWithdrawn fresh_withdraw_view joined_withdraw_view IsAtRest words places last → (take words.shape.cells last ≡ cells_after words places) × AgreeOn words places
closes words places last size h =
    let end = ends (homes_of words.shape) words.base last h.views h.id h.view h.kept h.stands h.at_rest h.others in
    let begun : h.view.begun ≡ begun_at places = h.lists (λ v. v.begun) (λ v u. refl) in (
      ap (λ n. take n last) (sym size) ∙ end.cells_are
          ∙ ap (λ n. layout_of (homes_of words.shape) n (without (numbers_in words.base) h.view.begun)) size
          ∙ ap (λ xs. layout_of (homes_of words.shape) words.shape.cells (without (numbers_in words.base) xs)) begun,
      record {
        held = subst (All (IsOfBase words.base)) begun end.held;
        once = λ x. subst (λ (xs : List ℕ). times xs x ≤ 1) begun (end.once x);
        gone = each_list (Contains (begun_at places)) (λ v. v.gone) places
            (subst (All (Contains (begun_at places))) (h.lists (λ v. v.gone) (λ v u. refl)) (subst (λ (xs : List ℕ). All (Contains xs) h.view.gone) begun end.gone));
      },
    )
