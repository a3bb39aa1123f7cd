-- Each row of the table keeps the invariant.
use Rattle.std.proofs.Common.{◌≡◌, ◌≢◌, ℕ, ◌+◌, ◌-◌, ◌<◌, ◌≤◌, inl, inr, ⊎_elim, List, [], ◌∷◌, ◌++◌, length, get_or, set, Some, slice_get, refl, sym, ◌∙◌, ap, subst, arith}
use Rattle.store_spec.proofs.Common.{Chosen, Contains, Down, FirstRow, Fits, IsSound, Owing, StandsInBase, Up, WithdrawInvariant, WithdrawNote, WithdrawRow, WithdrawState, WithdrawView, began, begins, cases_eq, cases_lt, cell_words, chose, copies, emptied, found_candidate, found_gone, found_lower_candidate, found_owed, get_or-take, get_or_from_slice_get, goes_on, kept_candidate, length-take, looked_higher, looked_lower, lost, refilled, set-get_or, slice_get_within, walked_on, withdraw_number}
use Rattle.step_core.proofs.Copies.{copies_rise, copy_here, copy_elsewhere}
use Rattle.step_core.proofs.Debts.{owed, owed_other, chosen}
use Rattle.step_core.proofs.WithdrawBegun.{walk_begins}
use Rattle.step_core.proofs.WithdrawExchanged.{exchange}
use Rattle.step_core.proofs.WithdrawFirst.{first_late, first_chooses}
use Rattle.step_core.proofs.WithdrawLowered.{lower}
use Rattle.step_core.proofs.WithdrawQuiet.{quiet}
use Rattle.step_core.specs.WithdrawKept.{KeepsInvariant}
use Rattle.store_spec.specs.WithdrawInvariant.{Owes, SearchesDown}
use Rattle.store_spec.specs.WithdrawStep.{WithdrawMove, WithdrawStep}
use Rattle.store_spec.specs.WithdrawStep.WithdrawState.{Rest}

module _ (home : ℕ → ℕ) (base words : List ℕ) (views : List WithdrawView) (inv : WithdrawInvariant home base words views) where
  abbrev cells : List ℕ
  cells = cell_words base words

  size : length (cell_words base words) ≡ length base
  size = let size = inv.size in omega (arith, length-take (length base) words)

  -- a cell that is not empty is not the last
  not_last : (place : ℕ) → place < length base → get_or cells place 0 ≢ 0 → place + 1 < length base
  not_last place lt some = ⊎_elim (λ h. h)
      (λ (last : length base ≤ place + 1). absurd (some (ap (λ k. get_or cells k 0) (let e : place ≡ length base - 1 = omega arith in e) ∙ inv.copied.last_empty)))
      (cases_lt (place + 1) (length base))

  -- what fits is a candidate, and whatever is greater has a copy below it
  candidate : (x bound place word : ℕ) → Owes base x bound → get_or cells bound 0 ≤ x → bound ≤ place → place + 1 < length base → Fits home x bound word → get_or cells (place + 1) 0 ≡ word → SearchesDown home base cells views x bound place word (place + 1)
  candidate x bound place word owes hole above within fits here =
      let s = size in
      let of_base : word ≢ 0 → Contains base word = λ some. subst (λ (v : ℕ). Contains base v) here (inv.copied.of_base (place + 1) (λ z. some (sym here ∙ z))) in
      record {
        owed = owes;
        hole = hole;
        above = above;
        below = omega arith;
        within = within;
        fits = fits;
        of_base = of_base;
        low = λ live. copy_here cells word (place + 1) (place + 1 + 1) (omega arith) here (omega arith);
        overlooked = λ y live from more. ⊎_elim
            (λ (none : copies cells y (place + 1) ≡ 0).
            let elsewhere = copy_elsewhere cells y (place + 1) (omega arith) (λ e. omega arith) in
            let greater = inv.lowest.in_order y (place + 1) live (omega arith) (elsewhere ∙ none) in
            absurd (omega arith))
            (λ (n : copies cells y (place + 1) ≢ 0). omega arith)
            (cases_eq (copies cells y (place + 1)) 0);
      }

  -- a word that does not fit is passed on the way down: nothing is overlooked
  passed : (x bound place c source word : ℕ) → SearchesDown home base cells views x bound (place + 1) c source → bound ≤ place → ¬ Fits home x bound word → get_or cells (place + 1) 0 ≡ word → SearchesDown home base cells views x bound place c source
  passed x bound place c source word s above misfit here =
      let len = size in let last = s.within in let under = s.below in
      record {
        owed = s.owed;
        hole = s.hole;
        above = above;
        below = omega arith;
        within = s.within;
        fits = s.fits;
        of_base = s.of_base;
        low = s.low;
        overlooked = λ y live from more.
            let some : 0 < copies cells y (place + 1 + 1) = s.overlooked y live from more in
            ⊎_elim
            (λ (e : word ≡ y).
            let no_less : x ≤ y = ⊎_elim (λ (less : y < x). absurd (misfit (inr (subst (λ (v : ℕ). (home v ≤ bound) × (v < x)) (sym e) (from, less))))) (λ h. h) (cases_lt y x) in
            ⊎_elim
            (λ (none : copies cells y (place + 1) ≡ 0).
            let none_before : copies cells y (bound + 1) ≡ 0 = omega (arith, copies_rise cells y (bound + 1) (place + 1) (omega arith)) in
            let greater = inv.lowest.in_order y bound live from none_before in
            let hole = s.hole in
            absurd (omega arith))
            (λ (n : copies cells y (place + 1) ≢ 0). omega arith)
            (cases_eq (copies cells y (place + 1)) 0))
            (λ (n : word ≢ y). omega (arith, copy_elsewhere cells y (place + 1) (omega arith) (λ z. n (sym here ∙ z))))
            (cases_eq word y);
      }

  module _ (id : ℕ) (w : WithdrawView) (state : WithdrawState) (has : slice_get views id ≡ Some w) (is : w.state ≡ state) where
    within : id < length views
    within = slice_get_within views id w has

    at : get_or views id w ≡ w
    at = get_or_from_slice_get views id w w has

    sound : IsSound home base cells views state
    sound = subst (λ (s : WithdrawState). IsSound home base cells views s) (ap (λ v. v.state) at ∙ is) (inv.states id w within)

    -- a look: no word changes, and the new state owes and has chosen what the old one did
    look : (place word : ℕ) (next : WithdrawState) → get_or words place 0 ≡ word → ((x first : ℕ) → owed next x first ≡ owed state x first) → ((x : ℕ) → chosen next x ≡ chosen state x) → IsSound home base cells views next → WithdrawInvariant home base (set words place word) (set views id (record { state = next; begun = w.begun; gone = w.gone }))
    look place word next here as_owed as_chosen good =
        let z : WithdrawView = record { state = next; begun = w.begun; gone = w.gone } in
        subst (λ (l : List ℕ). WithdrawInvariant home base l (set views id z))
        (sym (ap (λ v. set words place v) (sym here) ∙ set-get_or words place 0))
        (quiet home base words words views id w z within at inv refl (λ x first. as_owed x first ∙ sym (ap (λ s. owed s x first) is)) refl (λ x. as_chosen x ∙ sym (ap (λ s. chosen s x) is)) good)

    seen : (place word : ℕ) → place < length base → get_or words place 0 ≡ word → get_or cells place 0 ≡ word
    seen place word lt here = get_or-take (length base) words place 0 lt ∙ here

  -- ---- the rows

  module _ (id : ℕ) (w : WithdrawView) (has : slice_get views id ≡ Some w) where
    abbrev moved : WithdrawState → List WithdrawView
    moved next = set views id (record { state = next; begun = w.begun; gone = w.gone })

    keeps_walked_on : (x place word : ℕ) → x < word → w.state ≡ Chosen x place → get_or words place 0 ≡ word → WithdrawInvariant home base (set words place word) (moved (Chosen x (place + 1)))
    keeps_walked_on x place word less is here =
        let s = sound id w (Chosen x place) has is in
        let there : get_or cells place 0 ≡ word = seen id w (Chosen x place) has is place word s.within here in
        let homed = s.from_home in
        look id w (Chosen x place) has is place word (Chosen x (place + 1)) here (λ y first. refl) (λ y. refl)
        (record { live = s.live; from_home = omega arith; within = not_last place s.within (λ z. omega arith) })

    keeps_began : (x place word : ℕ) → word ≤ x → w.state ≡ Chosen x place → get_or words place 0 ≡ word → WithdrawInvariant home base (set words place word) (set views id (record { state = Owing x place; begun = w.begun ++ x ∷ []; gone = w.gone }))
    keeps_began x place word stops is here =
        let s = sound id w (Chosen x place) has is in
        let there : get_or cells place 0 ≡ word = seen id w (Chosen x place) has is place word s.within here in
        let z : WithdrawView = record { state = Owing x place; begun = w.begun ++ x ∷ []; gone = w.gone } in
        subst (λ (l : List ℕ). WithdrawInvariant home base l (set views id z))
        (sym (ap (λ v. set words place v) (sym here) ∙ set-get_or words place 0))
        (walk_begins home base words views id w x place (within id w (Chosen x place) has is) (at id w (Chosen x place) has is) inv is (omega arith))

    keeps_found_owed : (x bound : ℕ) → w.state ≡ Owing x bound → get_or words bound 0 ≡ x → WithdrawInvariant home base (set words bound x) (moved (Up x bound (bound + 1)))
    keeps_found_owed x bound is here =
        let s = sound id w (Owing x bound) has is in
        let there : get_or cells bound 0 ≡ x = seen id w (Owing x bound) has is bound x s.within here in
        look id w (Owing x bound) has is bound x (Up x bound (bound + 1)) here (λ y first. refl) (λ y. refl)
        (record { owed = s; hole = omega arith; above = omega arith; within = not_last bound s.within (λ z. s.of_base.some (sym there ∙ z)) })

    keeps_looked_lower : (x bound word : ℕ) → word ≢ x → w.state ≡ Owing x (bound + 1) → get_or words (bound + 1) 0 ≡ word → WithdrawInvariant home base (set words (bound + 1) word) (moved (Owing x bound))
    keeps_looked_lower x bound word other is here =
        let s = sound id w (Owing x (bound + 1)) has is in
        let there : get_or cells (bound + 1) 0 ≡ word = seen id w (Owing x (bound + 1)) has is (bound + 1) word s.within here in
        subst (λ (l : List ℕ). WithdrawInvariant home base l (moved (Owing x bound)))
        (sym (ap (λ v. set words (bound + 1) v) (sym here) ∙ set-get_or words (bound + 1) 0))
        (lower home base words views id w x bound (within id w (Owing x (bound + 1)) has is) (at id w (Owing x (bound + 1)) has is) inv
        (λ y first. ap (λ t. owed t y first) is) (λ y. ap (λ t. chosen t y) is) s (λ e. other (sym there ∙ e)))

    keeps_looked_higher : (x bound place word : ℕ) → ¬ Fits home x bound word → w.state ≡ Up x bound place → get_or words place 0 ≡ word → WithdrawInvariant home base (set words place word) (moved (Up x bound (place + 1)))
    keeps_looked_higher x bound place word misfit is here =
        let s = sound id w (Up x bound place) has is in
        let there : get_or cells place 0 ≡ word = seen id w (Up x bound place) has is place word s.within here in
        let above = s.above in
        look id w (Up x bound place) has is place word (Up x bound (place + 1)) here (λ y first. refl) (λ y. refl)
        (record { owed = s.owed; hole = s.hole; above = omega arith; within = not_last place s.within (λ z. misfit (inl (sym there ∙ z))) })

    keeps_found_candidate : (x bound place word : ℕ) → Fits home x bound word → w.state ≡ Up x bound (place + 1) → get_or words (place + 1) 0 ≡ word → WithdrawInvariant home base (set words (place + 1) word) (moved (Down x bound place word (place + 1)))
    keeps_found_candidate x bound place word fits is here =
        let s = sound id w (Up x bound (place + 1)) has is in
        let there : get_or cells (place + 1) 0 ≡ word = seen id w (Up x bound (place + 1)) has is (place + 1) word s.within here in
        let above = s.above in
        look id w (Up x bound (place + 1)) has is (place + 1) word (Down x bound place word (place + 1)) here (λ y first. refl) (λ y. refl)
        (candidate x bound place word s.owed s.hole (omega arith) s.within fits there)

    keeps_found_lower_candidate : (x bound place c source word : ℕ) → bound ≤ place → Fits home x bound word → w.state ≡ Down x bound (place + 1) c source → get_or words (place + 1) 0 ≡ word → WithdrawInvariant home base (set words (place + 1) word) (moved (Down x bound place word (place + 1)))
    keeps_found_lower_candidate x bound place c source word above fits is here =
        let s = sound id w (Down x bound (place + 1) c source) has is in
        let below = s.below in let last = s.within in
        let there : get_or cells (place + 1) 0 ≡ word = seen id w (Down x bound (place + 1) c source) has is (place + 1) word (omega arith) here in
        look id w (Down x bound (place + 1) c source) has is (place + 1) word (Down x bound place word (place + 1)) here (λ y first. refl) (λ y. refl)
        (candidate x bound place word s.owed s.hole above (omega arith) fits there)

    keeps_kept_candidate : (x bound place c source word : ℕ) → bound ≤ place → ¬ Fits home x bound word → w.state ≡ Down x bound (place + 1) c source → get_or words (place + 1) 0 ≡ word → WithdrawInvariant home base (set words (place + 1) word) (moved (Down x bound place c source))
    keeps_kept_candidate x bound place c source word above misfit is here =
        let s = sound id w (Down x bound (place + 1) c source) has is in
        let below = s.below in let last = s.within in
        let there : get_or cells (place + 1) 0 ≡ word = seen id w (Down x bound (place + 1) c source) has is (place + 1) word (omega arith) here in
        look id w (Down x bound (place + 1) c source) has is (place + 1) word (Down x bound place c source) here (λ y first. refl) (λ y. refl)
        (passed x bound place c source word s above misfit there)

    keeps_emptied : (x bound source : ℕ) → w.state ≡ Down x bound bound 0 source → get_or words bound 0 ≡ x → WithdrawInvariant home base (set words bound 0) (moved Rest)
    keeps_emptied x bound source is here =
        let s = sound id w (Down x bound bound 0 source) has is in
        exchange home base words views id w x bound 0 source Rest (within id w (Down x bound bound 0 source) has is) (at id w (Down x bound bound 0 source) has is) inv is
        (seen id w (Down x bound bound 0 source) has is bound x s.owed.within here)
        (λ y first some. sym (owed_other 0 source y first (λ e. some (sym e)))) (λ first. refl) (λ y. refl) (λ l v. tt)

    keeps_refilled : (x bound c source : ℕ) → c ≢ 0 → w.state ≡ Down x bound bound c source → get_or words bound 0 ≡ x → WithdrawInvariant home base (set words bound c) (moved (Owing c source))
    keeps_refilled x bound c source some is here =
        let s = sound id w (Down x bound bound c source) has is in
        exchange home base words views id w x bound c source (Owing c source) (within id w (Down x bound bound c source) has is) (at id w (Down x bound bound c source) has is) inv is
        (seen id w (Down x bound bound c source) has is bound x s.owed.within here)
        (λ y first more. refl) (λ first. owed_other c source 0 first some) (λ y. refl)
        (λ l v. record { of_base = record { some = some; stood = s.of_base some }; within = s.within })

    keeps_lost : (x bound c source word : ℕ) → word ≢ x → w.state ≡ Down x (bound + 1) (bound + 1) c source → get_or words (bound + 1) 0 ≡ word → WithdrawInvariant home base (set words (bound + 1) word) (moved (Owing x bound))
    keeps_lost x bound c source word other is here =
        let s = sound id w (Down x (bound + 1) (bound + 1) c source) has is in
        let there : get_or cells (bound + 1) 0 ≡ word = seen id w (Down x (bound + 1) (bound + 1) c source) has is (bound + 1) word s.owed.within here in
        subst (λ (l : List ℕ). WithdrawInvariant home base l (moved (Owing x bound)))
        (sym (ap (λ v. set words (bound + 1) v) (sym here) ∙ set-get_or words (bound + 1) 0))
        (lower home base words views id w x bound (within id w (Down x (bound + 1) (bound + 1) c source) has is) (at id w (Down x (bound + 1) (bound + 1) c source) has is) inv
        (λ y first. ap (λ t. owed t y first) is) (λ y. ap (λ t. chosen t y) is) s.owed (λ e. other (sym there ∙ e)))

-- ---- any row

pub keeps_row : (home : ℕ → ℕ) (base : List ℕ) (state : WithdrawState) (cell found left : ℕ) (next : WithdrawState) (note : WithdrawNote) → WithdrawRow home state cell found left next note → KeepsInvariant home base (withdraw_number state) state cell found left next note
keeps_row home base _ _ _ _ _ _ (walked_on {x} {place} {word} less) words views id w inv has is here = keeps_walked_on home base words views inv id w has x place word less is here
keeps_row home base _ _ _ _ _ _ (began {x} {place} {word} stops) words views id w inv has is here = keeps_began home base words views inv id w has x place word stops is here
keeps_row home base _ _ _ _ _ _ (found_owed {x} {bound}) words views id w inv has is here = keeps_found_owed home base words views inv id w has x bound is here
keeps_row home base _ _ _ _ _ _ (looked_lower {x} {bound} {word} other) words views id w inv has is here = keeps_looked_lower home base words views inv id w has x bound word other is here
keeps_row home base _ _ _ _ _ _ (looked_higher {x} {bound} {place} {word} misfit) words views id w inv has is here = keeps_looked_higher home base words views inv id w has x bound place word misfit is here
keeps_row home base _ _ _ _ _ _ (found_candidate {x} {bound} {place} {word} fits) words views id w inv has is here = keeps_found_candidate home base words views inv id w has x bound place word fits is here
keeps_row home base _ _ _ _ _ _ (found_lower_candidate {x} {bound} {place} {c} {source} {word} above fits) words views id w inv has is here = keeps_found_lower_candidate home base words views inv id w has x bound place c source word above fits is here
keeps_row home base _ _ _ _ _ _ (kept_candidate {x} {bound} {place} {c} {source} {word} above misfit) words views id w inv has is here = keeps_kept_candidate home base words views inv id w has x bound place c source word above misfit is here
keeps_row home base _ _ _ _ _ _ (emptied {x} {bound} {source}) words views id w inv has is here = keeps_emptied home base words views inv id w has x bound source is here
keeps_row home base _ _ _ _ _ _ (refilled {x} {bound} {c} {source} some) words views id w inv has is here = keeps_refilled home base words views inv id w has x bound c source some is here
keeps_row home base _ _ _ _ _ _ (lost {x} {bound} {c} {source} {word} other) words views id w inv has is here = keeps_lost home base words views inv id w has x bound c source word other is here

pub keeps_first : (home : ℕ → ℕ) (base : List ℕ) (x cell found : ℕ) (new : WithdrawState) (note : WithdrawNote) → StandsInBase base x cell → FirstRow home x found new note → KeepsInvariant home base x Rest (length base + cell) found 1 new note
keeps_first home base x cell _ _ _ seated found_gone words views id w inv has is here = first_late home base words views id w x cell (slice_get_within views id w has) (get_or_from_slice_get views id w w has) inv is seated.some seated.stands here
keeps_first home base x cell _ _ _ seated chose words views id w inv has is here = first_chooses home base words views id w x cell (slice_get_within views id w has) (get_or_from_slice_get views id w w has) inv is seated.some seated.stands here

pub keeps_move : (home : ℕ → ℕ) (base : List ℕ) (from : WithdrawState) (x word found left : ℕ) (new : WithdrawState) (note : WithdrawNote) → WithdrawMove home base from x word found left new note → KeepsInvariant home base x from word found left new note
keeps_move home base _ _ _ _ _ _ _ (begins {x} {cell} {found} {new} {note} seated row) = keeps_first home base x cell found new note seated row
keeps_move home base _ _ _ _ _ _ _ (goes_on {state} {cell} {found} {left} {new} {note} row) = keeps_row home base state cell found left new note row

pub keeps_step : (home : ℕ → ℕ) (base words : List ℕ) (views : List WithdrawView) (id : ℕ) (now : List ℕ) (views_now : List WithdrawView) → WithdrawStep home base words views id now views_now → WithdrawInvariant home base words views → WithdrawInvariant home base now views_now
keeps_step home base words views id now views_now s inv =
    let kept = keeps_move home base s.view.state s.number s.word (get_or words s.word 0) s.left s.new s.note s.move words views id s.view inv s.acts refl refl in
    subst (λ (l : List ℕ). WithdrawInvariant home base l views_now) (sym s.words_now)
    (subst (λ (l : List WithdrawView). WithdrawInvariant home base (set words s.word s.left) l) (sym s.view_now) kept)
