-- The walk ends: the removal of the number is begun, and owed.
use Rattle.std.proofs.Common.{◌≡◌, ◌≢◌, ℕ, ◌+◌, ◌<◌, ◌≤◌, ⊎_elim, List, [], ◌∷◌, ◌++◌, length, get_or, set, refl, sym, ◌∙◌, ap, subst, arith}
use Rattle.store_spec.proofs.Common.{All-push, AreFlags, AreLowest, AreOwed, Chosen, IsLive, IsOfBase, IsSound, Owing, WithdrawInvariant, WithdrawState, WithdrawView, cases_eq, cases_lt, cell_words, copies, debts, flag_words, times_begun, times_taken}
use Rattle.step_core.proofs.Copies.{hit, hit_yes, hit_no, copies_rise}
use Rattle.step_core.proofs.Debts.{owed, owed_to, owed_yes, owed_other, owed_above, chosen, debts_set, begun_set, chosen_set, chosen_twice, times_push}
use Rattle.step_core.proofs.WithdrawFlags.{flags_after, own_begun, own_gone, gone_on}
use Rattle.step_core.proofs.WithdrawStates.{Follows, sound_after}
use Rattle.step_core.proofs.WordSets.{all_after_set}
use Rattle.store_spec.specs.WithdrawInvariant.{Walks}

module _ (home : ℕ → ℕ) (base words : List ℕ) (views : List WithdrawView) (id : ℕ) (w : WithdrawView) (x place : ℕ) (lt : id < length views) (at : get_or views id w ≡ w) (inv : WithdrawInvariant home base words views) (walked : w.state ≡ Chosen x place) (stops : get_or (cell_words base words) place 0 ≤ x) where
  begins : WithdrawView
  begins = record { state = Owing x place; begun = w.begun ++ x ∷ []; gone = w.gone }

  walks : Walks home base views x place
  walks = subst (λ (s : WithdrawState). IsSound home base (cell_words base words) views s) (ap (λ v. v.state) at ∙ walked) (inv.states id w lt)

  begun_more : (y : ℕ) → times_begun (set views id begins) y ≡ times_begun views y + hit y x
  unfolding begins
  begun_more y = omega (arith, begun_set views id w begins lt at y, times_push w.begun x y)

  debts_more : (y first : ℕ) → debts (set views id begins) y first ≡ debts views y first + owed_to x place y first
  unfolding begins
  debts_more y first =
      let was : owed w.state y first ≡ 0 = ap (λ s. owed s y first) walked in
      omega (arith, debts_set views id w begins lt at y first)

  -- who walked to it has begun it: it was taken, and is
  taken_same : (y : ℕ) → times_taken (set views id begins) y ≡ times_taken views y
  unfolding begins
  taken_same y =
      let was : chosen w.state y ≡ hit y x = ap (λ s. chosen s y) walked in
      omega (arith, chosen_set views id w begins lt at y, begun_more y)

  -- a number that lives on is another one
  live_other : (y : ℕ) → IsLive base (set views id begins) y → y ≢ x
  live_other y h e = let kept = h.kept in omega (arith, begun_more y, hit_yes y x (sym e))

  live_before : (y : ℕ) → IsLive base (set views id begins) y → IsLive base views y
  live_before y h = record { of_base = h.of_base; kept = let kept = h.kept in omega (arith, begun_more y) }

  -- nobody else walks to it
  live_on : (y k : ℕ) (d : WithdrawView) → k < length views → k ≢ id → chosen (get_or views k d).state y ≡ 1 → IsLive base views y → IsLive base (set views id begins) y
  live_on y k d within other walks_there h =
      let was : chosen w.state x ≡ 1 = ap (λ s. chosen s x) walked ∙ hit_yes x x refl in
      let twice = chosen_twice views id w w lt at x k d within other in
      let once = inv.flags.once x in
      let not_x : x ≢ y = λ e.
      let there : chosen (get_or views k d).state x ≡ 1 = ap (λ v. chosen (get_or views k d).state v) e ∙ walks_there in
      let no : ⊥ = omega arith in no in
      record { of_base = h.of_base; kept = let kept = h.kept in omega (arith, begun_more y, hit_no y x not_x) }

  -- there is a copy up to the place, and one that is not owed
  spare_there : (first : ℕ) → place < first → debts views x first < copies (cell_words base words) x first
  spare_there first after =
      let cells = cell_words base words in
      let some : 0 < copies cells x (place + 1) = ⊎_elim
      (λ (none : copies cells x (place + 1) ≡ 0). let greater = inv.lowest.in_order x place walks.live walks.from_home none in absurd (omega arith))
      (λ (n : copies cells x (place + 1) ≢ 0). omega arith)
      (cases_eq (copies cells x (place + 1)) 0) in
      inv.lowest.spare x first walks.live (omega (arith, copies_rise cells x (place + 1) first (omega arith)))

  owed_then : AreOwed base (cell_words base words) (set views id begins)
  owed_then =
      let cells = cell_words base words in
      let within = walks.within in
      record {
        no_more = λ y first. ⊎_elim
            (λ (e : x ≡ y). ⊎_elim
            (λ (after : place < first).
            let spare : debts views y first < copies cells y first = subst (λ (v : ℕ). debts views v first < copies cells v first) e (spare_there first after) in
            omega (arith, debts_more y first, owed_yes x place y first e after))
            (λ (before : first ≤ place). let no_more = inv.owed.no_more y first in omega (arith, debts_more y first, owed_above x place y first before))
            (cases_lt place first))
            (λ (n : x ≢ y). let no_more = inv.owed.no_more y first in omega (arith, debts_more y first, owed_other x place y first n))
            (cases_eq x y);
        in_all = λ y of_base. ⊎_elim
            (λ (e : x ≡ y). let all = inv.owed.in_all y of_base in omega (arith, debts_more y (length base), begun_more y, owed_yes x place y (length base) e within, hit_yes y x e))
            (λ (n : x ≢ y). let all = inv.owed.in_all y of_base in omega (arith, debts_more y (length base), begun_more y, owed_other x place y (length base) n, hit_no y x n))
            (cases_eq x y);
      }

  lowest_then : AreLowest home base (cell_words base words) (set views id begins)
  lowest_then = record {
    spare = λ y first live some.
        let spare = inv.lowest.spare y first (live_before y live) some in
        omega (arith, debts_more y first, owed_other x place y first (λ e. live_other y live (sym e)));
    in_order = λ y k live from none. inv.lowest.in_order y k (live_before y live) from none;
  }

  flags_then : AreFlags base (flag_words base words) (set views id begins)
  unfolding begins
  flags_then =
      let flags = flag_words base words in
      let once : (y : ℕ) → times_taken (set views id begins) y ≤ 1 = λ y. let once = inv.flags.once y in omega (arith, taken_same y) in
      let grows : (y : ℕ) → times_taken views y ≤ times_taken (set views id begins) y = λ y. omega (arith, taken_same y) in
      flags_after base flags flags views id w begins lt at inv.flags
      (λ cell. inv.flags.counted cell ∙ sym (taken_same (get_or base cell 0))) once grows
      (All-push (IsOfBase base) w.begun x (own_begun base flags flags views id w begins lt at inv.flags) walks.live.of_base)
      (gone_on base flags flags views id w begins lt at inv.flags w.gone grows once (own_gone base flags flags views id w begins lt at inv.flags))

  pub walk_begins : WithdrawInvariant home base words (set views id (record { state = Owing x place; begun = w.begun ++ x ∷ []; gone = w.gone }))
  unfolding begins
  walk_begins =
      let cells = cell_words base words in
      let views' = set views id begins in
      let follows : Follows base cells views cells views' = record { live = live_before; falls = λ k. omega arith; kept = λ y first live some. some } in
      record {
        begins = inv.begins;
        size = inv.size;
        flags = flags_then;
        copied = inv.copied;
        owed = owed_then;
        lowest = lowest_then;
        states = all_after_set (λ v. IsSound home base cells views' v.state) views id begins
            (record { of_base = walks.live.of_base; within = walks.within })
            (λ k d within other. sound_after home base cells views cells views' follows (get_or views k d).state (λ y there live. live_on y k d within other there live) (inv.states k d within));
      }
