-- Withdrawing at the end of a phase: a seat that stands for all, at rest, has the lists of all, and the cells are the
-- layout of what is left.
use Rattle.std.proofs.Common.{◌≡◌, ◌≢◌, ℕ, ◌<◌, ◌≤◌, List, length, take, get_or, Some, slice_get, refl, ◌∙◌, ap, subst}
use Rattle.store_spec.proofs.Common.{All, Contains, IsOfBase, WithdrawInvariant, WithdrawView, begun_by, fresh_withdraw_view, layout_of, numbers_in, times, without}
use Rattle.step_core.proofs.Sets.{at_place}
use Rattle.step_core.proofs.WithdrawAtRest as rest
use Rattle.store_spec.specs.WithdrawStep.WithdrawState.{Rest}
use Rattle.word_rule.proofs.Joined.{all_such, one_has_all}

-- what holds at the end of a view that has the lists of all
pub record Ends (home : ℕ → ℕ) (base cells : List ℕ) (view : WithdrawView) : Type 0 where
  pub cells_are : take (length base) cells ≡ layout_of home (length base) (without (numbers_in base) view.begun)
  pub held : All (IsOfBase base) view.begun
  pub once : (x : ℕ) → times view.begun x ≤ 1
  pub gone : All (Contains view.begun) view.gone

module _ (home : ℕ → ℕ) (base words : List ℕ) (views : List WithdrawView) (id : ℕ) (view : WithdrawView) (inv : WithdrawInvariant home base words views) (has : slice_get views id ≡ Some view) (rests : view.state ≡ Rest) (others : (k : ℕ) (d : WithdrawView) → k < length views → k ≢ id → get_or views k d ≡ fresh_withdraw_view) where
  all_rest : All (λ v. v.state ≡ Rest) views
  all_rest = all_such (λ v. v.state ≡ Rest) fresh_withdraw_view views id view has others rests refl

  all_begun : begun_by views ≡ view.begun
  all_begun = one_has_all (λ v. v.begun) views id view has (λ k d lt n. ap (λ v. v.begun) (others k d lt n))

  pub ends : Ends home base words view
  ends = record {
    cells_are = rest.at_rest home base words views inv all_rest ∙ ap (λ (l : List ℕ). layout_of home (length base) (without (numbers_in base) l)) all_begun;
    held = at_place (λ v. All (IsOfBase base) v.begun) views id view has inv.flags.begun;
    once = λ x. subst (λ (l : List ℕ). times l x ≤ 1) all_begun (rest.begun_once home base words views inv all_rest x);
    gone = subst (λ (l : List ℕ). All (Contains l) view.gone) all_begun (at_place (λ v. All (Contains (begun_by views)) v.gone) views id view has (rest.gone_begun home base words views inv all_rest));
  }
