-- What the words and the lists of all seats are like once one seat has taken in all others.
use Rattle.std.proofs.Common.{◌≡◌, ◌≢◌, ℕ, ◌<◌, ◌≤◌, Some, List, ◌++◌, length, get_or, take, drop, refl, ap, ◌∙◌, subst, arith}
use Rattle.store_spec.proofs.Common.{All, All-contains, All-contains_itself, All-weaker, CastInvariant, CastView, Contains, EachOnce, HasRoomFor, IsClaimed, Rest, Table, accepted_of, fresh_cast_view, layout_of, slice_get, sum_by-append}
use Rattle.step_core.proofs.CastAtRest.{accepted_once, full_for, rest_layout, same-back, same-contains}
use Rattle.step_core.proofs.CastHands.{all_count, claims_size, counts_few, is_some}
use Rattle.step_core.proofs.CastRows.{met_is}
use Rattle.step_core.proofs.SameNumbers.{weigh}
use Rattle.step_core.proofs.Sets.{counted, is_one}
use Rattle.word_rule.proofs.Joined.{all_such, one_has_all}

pub record AtTheEnd (t : Table) (base cells : List ℕ) (view : CastView) : Type 0 where
  pub layout : cells ≡ layout_of t.home t.cells (base ++ view.accepted)
  pub once : EachOnce view.accepted
  pub not_held : All (λ x. ¬ Contains base x) view.accepted
  pub few : length view.accepted ≤ t.claims
  pub taken : All (Contains view.accepted) view.taken
  pub full : All (λ x. (¬ Contains view.accepted x) × (length view.accepted ≡ t.claims)) view.full

pub ends : (t : Table) (base words : List ℕ) (views : List CastView) (id : ℕ) (view : CastView) → HasRoomFor t base → CastInvariant t base words views → slice_get views id ≡ Some view → ((k : ℕ) (d : CastView) → k < length views → k ≢ id → get_or views k d ≡ fresh_cast_view) → view.state ≡ Rest → AtTheEnd t base (take t.cells words) view
ends t base words views id view room h stands others rest =
    let accepted : accepted_of views ≡ view.accepted = one_has_all (λ v. v.accepted) views id view stands (λ k d lt n. ap (λ v. v.accepted) (others k d lt n)) in
    let all = accepted_once t base words views h in
    let met = met_is t base words views id view h stands in
    let all_rest = all_such (λ v. v.state ≡ Rest) fresh_cast_view views id view stands others rest refl in
    record {
      layout = rest_layout t base words views room h all_rest ∙ ap (λ xs. layout_of t.home t.cells (base ++ xs)) accepted;
      once = subst EachOnce accepted (λ v some. (let both = sum_by-append (is_one v) base (accepted_of views) in let few = all v some in omega arith));
      not_held = subst (All (λ x. ¬ Contains base x)) accepted (All-weaker (Contains (accepted_of views)) (λ x. ¬ Contains base x)
          (λ x there in_base.
          let some = All-contains (λ v. v ≢ 0) (accepted_of views) x h.claimed.some there in
          let both = sum_by-append (is_one x) base (accepted_of views) in
          let few = all x some in
          let held = counted x base in_base in
          let also = counted x (accepted_of views) there in
          absurd (omega arith))
          (accepted_of views) (All-contains_itself (accepted_of views)));
      few = subst (λ (xs : List ℕ). length xs ≤ t.claims) accepted
          (omega (arith, all_count (accepted_of views) h.claimed.some, weigh h.claimed.accepted is_some refl, counts_few (drop t.cells words), claims_size t base words views h));
      taken = subst (λ (xs : List ℕ). All (Contains xs) view.taken) accepted (All-weaker (IsClaimed (drop t.cells words)) (Contains (accepted_of views))
          (λ x claimed. same-contains (drop t.cells words) (accepted_of views) x (same-back (accepted_of views) (drop t.cells words) h.claimed.accepted) claimed.0 claimed.1)
          view.taken met.taken);
      full = subst (λ (xs : List ℕ). All (λ x. (¬ Contains xs x) × (length xs ≡ t.claims)) view.full) accepted
          (All-weaker (Contains view.full) (λ x. (¬ Contains (accepted_of views) x) × (length (accepted_of views) ≡ t.claims))
          (λ x there. full_for t base words views id view x h stands there)
          view.full (All-contains_itself view.full));
    }
