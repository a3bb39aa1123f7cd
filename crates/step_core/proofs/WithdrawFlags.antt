-- Flags count how often a number was taken: what one step changes in that.
use Rattle.std.proofs.Common.{◌≡◌, ℕ, ◌<◌, ◌≤◌, List, length, get_or, set, sym, ◌∙◌, ap, subst, arith}
use Rattle.store_spec.proofs.Common.{All, All-weaker, AreFlags, IsLive, IsOfBase, WithdrawView, times, times_begun, times_taken}
use Rattle.step_core.proofs.Debts.{chosen, begun_set, chosen_set}
use Rattle.step_core.proofs.WordSets.{all_after_set}

module _ (base flags flags' : List ℕ) (views : List WithdrawView) (id : ℕ) (w z : WithdrawView) (lt : id < length views) (at : get_or views id w ≡ w) (h : AreFlags base flags views) where
  pub own_begun : All (IsOfBase base) w.begun
  own_begun = subst (λ (v : WithdrawView). All (IsOfBase base) v.begun) at (h.begun id w lt)

  pub own_gone : All (λ x. IsOfBase base x × (times_taken views x ≡ 1)) w.gone
  own_gone = subst (λ (v : WithdrawView). All (λ x. IsOfBase base x × (times_taken views x ≡ 1)) v.gone) at (h.gone id w lt)

  -- what was found gone stays taken
  pub gone_on : (gone : List ℕ) → ((x : ℕ) → times_taken views x ≤ times_taken (set views id z) x) → ((x : ℕ) → times_taken (set views id z) x ≤ 1) → All (λ x. IsOfBase base x × (times_taken views x ≡ 1)) gone → All (λ x. IsOfBase base x × (times_taken (set views id z) x ≡ 1)) gone
  gone_on gone grows once old = All-weaker (λ x. IsOfBase base x × (times_taken views x ≡ 1)) (λ x. IsOfBase base x × (times_taken (set views id z) x ≡ 1))
      (λ x s. let more = grows x in let most = once x in let was = s.1 in (s.0, omega arith)) gone old

  -- No number is taken less often than before.
  pub flags_after : (counted : (cell : ℕ) → get_or flags' cell 0 ≡ times_taken (set views id z) (get_or base cell 0)) → (once : (x : ℕ) → times_taken (set views id z) x ≤ 1) → (grows : (x : ℕ) → times_taken views x ≤ times_taken (set views id z) x) → All (IsOfBase base) z.begun → All (λ x. IsOfBase base x × (times_taken (set views id z) x ≡ 1)) z.gone → AreFlags base flags' (set views id z)
  flags_after counted once grows begun gone = record {
    counted = counted;
    once = once;
    begun = all_after_set (λ v. All (IsOfBase base) v.begun) views id z begun (λ k d within other. h.begun k d within);
    gone = all_after_set (λ v. All (λ x. IsOfBase base x × (times_taken (set views id z) x ≡ 1)) v.gone) views id z gone
        (λ k d within other. gone_on (get_or views k d).gone grows once (h.gone k d within));
  }

-- a step that begins no removal
module _ (base : List ℕ) (views : List WithdrawView) (id : ℕ) (w z : WithdrawView) (lt : id < length views) (at : get_or views id w ≡ w) (begun : z.begun ≡ w.begun) where
  pub begun_stays : (x : ℕ) → times_begun (set views id z) x ≡ times_begun views x
  begun_stays x = let was : times z.begun x ≡ times w.begun x = ap (λ l. times l x) begun in omega (arith, begun_set views id w z lt at x)

  pub live_before : (x : ℕ) → IsLive base (set views id z) x → IsLive base views x
  live_before x h = record { of_base = h.of_base; kept = sym (begun_stays x) ∙ h.kept }

  pub live_on : (x : ℕ) → IsLive base views x → IsLive base (set views id z) x
  live_on x h = record { of_base = h.of_base; kept = begun_stays x ∙ h.kept }

  -- nor finds a number gone, nor begins or ends a walk
  pub flags_stay : (flags : List ℕ) → z.gone ≡ w.gone → ((x : ℕ) → chosen z.state x ≡ chosen w.state x) → AreFlags base flags views → AreFlags base flags (set views id z)
  flags_stay flags gone as_chosen h =
      let same : (x : ℕ) → times_taken (set views id z) x ≡ times_taken views x = λ x.
      let was = as_chosen x in omega (arith, chosen_set views id w z lt at x, begun_stays x) in
      let once : (x : ℕ) → times_taken (set views id z) x ≤ 1 = λ x. let once = h.once x in let is = same x in omega arith in
      let grows : (x : ℕ) → times_taken views x ≤ times_taken (set views id z) x = λ x. let is = same x in omega arith in
      flags_after base flags flags views id w z lt at h
      (λ cell. h.counted cell ∙ sym (same (get_or base cell 0))) once grows
      (subst (λ (l : List ℕ). All (IsOfBase base) l) (sym begun) (own_begun base flags flags views id w z lt at h))
      (subst (λ (l : List ℕ). All (λ x. IsOfBase base x × (times_taken (set views id z) x ≡ 1)) l) (sym gone)
      (gone_on base flags flags views id w z lt at h w.gone grows once (own_gone base flags flags views id w z lt at h)))
