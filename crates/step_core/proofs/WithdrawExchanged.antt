-- The exchange that is won: the hole's number gives way to the candidate, or to an empty cell.
use Rattle.std.proofs.Common.{◌≡◌, ◌≢◌, ℕ, ◌+◌, ◌-◌, ◌<◌, ◌≤◌, ⊎_elim, List, length, get_or, set, refl, sym, ◌∙◌, ap, subst, arith}
use Rattle.store_spec.proofs.Common.{All, AreCopies, AreFlags, AreLowest, AreOwed, Contains, Down, IsLive, IsSound, SearchesDown, WithdrawInvariant, WithdrawState, WithdrawView, cases_eq, cases_lt, cell_words, copies, debts, drop-set-lt, flag_words, get_or-set_other, get_or-set_same, length-set, length-take, take-set-lt, times_begun}
use Rattle.step_core.proofs.Copies.{hit_yes, hit_no, copies_rise, copies_set, copies_set_past, copy_here}
use Rattle.step_core.proofs.Debts.{owed, owed_to, owed_yes, owed_other, owed_above, chosen, debts_set}
use Rattle.step_core.proofs.WithdrawFlags.{begun_stays, live_before, live_on, flags_stay}
use Rattle.step_core.proofs.WithdrawStates.{Follows, sound_after}
use Rattle.step_core.proofs.WordSets.{all_after_set}

-- What the exchange does to the copies and the debts of a number among the first cells: nothing; a copy and a debt
-- end together; there is a copy more; or a copy more that is owed from the source.
data Effect (c source y first : ℕ) (copies_before debts_before copies_after debts_after : ℕ) : Type 0 where
  stays : copies_after ≡ copies_before → debts_after ≡ debts_before → Effect c source y first copies_before debts_before copies_after debts_after
  ends : copies_after + 1 ≡ copies_before → debts_after + 1 ≡ debts_before → Effect c source y first copies_before debts_before copies_after debts_after
  gains : y ≡ c → first ≤ source → copies_after ≡ copies_before + 1 → debts_after ≡ debts_before → Effect c source y first copies_before debts_before copies_after debts_after
  gains_owed : y ≡ c → source < first → copies_after ≡ copies_before + 1 → debts_after ≡ debts_before + 1 → Effect c source y first copies_before debts_before copies_after debts_after

module _ (c source y first a d a' d' : ℕ) where
  still_no_more : Effect c source y first a d a' d' → d ≤ a → d' ≤ a'
  still_no_more (stays p q) h = omega arith
  still_no_more (ends p q) h = omega arith
  still_no_more (gains e near p q) h = omega arith
  still_no_more (gains_owed e far p q) h = omega arith

  still_some : Effect c source y first a d a' d' → (0 < a → d < a) → 0 < a → 0 < a'
  still_some (stays p q) h some = omega arith
  still_some (ends p q) h some = let spare = h some in omega arith
  still_some (gains e near p q) h some = omega arith
  still_some (gains_owed e far p q) h some = omega arith

  still_spare : Effect c source y first a d a' d' → d ≤ a → (0 < a → d < a) → (y ≡ c → source < first → 0 < a) → 0 < a' → d' < a'
  still_spare (stays p q) no_more h low some = let spare : d < a = h (omega arith) in omega arith
  still_spare (ends p q) no_more h low some = let spare : d < a = h (omega arith) in omega arith
  still_spare (gains e near p q) no_more h low some = omega arith
  still_spare (gains_owed e far p q) no_more h low some = let spare : d < a = h (low e far) in omega arith

  still_all : Effect c source y first a d a' d' → (begun : ℕ) → source < first → a + begun ≡ d + 1 → a' + begun ≡ d' + 1
  still_all (stays p q) begun far h = omega arith
  still_all (ends p q) begun far h = omega arith
  still_all (gains e near p q) begun far h = absurd (omega arith)
  still_all (gains_owed e far' p q) begun far h = omega arith

module _ (home : ℕ → ℕ) (base words : List ℕ) (views : List WithdrawView) (id : ℕ) (w : WithdrawView) (x bound c source : ℕ) (next : WithdrawState) (lt : id < length views) (at : get_or views id w ≡ w) (inv : WithdrawInvariant home base words views) (searched : w.state ≡ Down x bound bound c source) (found : get_or (cell_words base words) bound 0 ≡ x) (as_owed : (y first : ℕ) → y ≢ 0 → owed next y first ≡ owed_to c source y first) (owes_none : (first : ℕ) → owed next 0 first ≡ 0) where
  wins : WithdrawView
  wins = record { state = next; begun = w.begun; gone = w.gone }

  abbrev after : List WithdrawView
  after = set views id wins

  abbrev cells : List ℕ
  cells = cell_words base words

  abbrev cells_after : List ℕ
  cells_after = set (cell_words base words) bound c

  search : SearchesDown home base (cell_words base words) views x bound bound c source
  search = subst (λ (s : WithdrawState). IsSound home base (cell_words base words) views s) (ap (λ v. v.state) at ∙ searched) (inv.states id w lt)

  some_x : x ≢ 0
  some_x = search.owed.of_base.some

  lower : c < x
  lower = let n = some_x in ⊎_elim (λ (e : c ≡ 0). omega arith) (λ f. f.1) search.fits

  size : length (cell_words base words) ≡ length base
  size = let size = inv.size in omega (arith, length-take (length base) words)

  within : bound < length (cell_words base words)
  within = let s = size in let low = search.owed.within in omega arith

  debts_more : (y first : ℕ) → debts after y first + owed_to x bound y first ≡ debts views y first + owed next y first
  unfolding wins
  debts_more y first =
      let was : owed w.state y first ≡ owed_to x bound y first = ap (λ s. owed s y first) searched in
      omega (arith, debts_set views id w wins lt at y first)

  effect : (y first : ℕ) → y ≢ 0 → Effect c source y first (copies cells y first) (debts views y first) (copies cells_after y first) (debts after y first)
  effect y first some =
      let here = within in let less = lower in let below = search.below in
      ⊎_elim
      (λ (high : bound < first).
      let copied = copies_set cells y bound c first here high in
      ⊎_elim
      (λ (e : x ≡ y).
      ends (omega (arith, hit_yes y (get_or cells bound 0) (found ∙ e), hit_no y c (λ z. omega arith)))
      (omega (arith, debts_more y first, as_owed y first some, owed_yes x bound y first e high, owed_other c source y first (λ z. omega arith))))
      (λ (n : x ≢ y). ⊎_elim
      (λ (e : c ≡ y). ⊎_elim
      (λ (far : source < first).
      gains_owed (sym e) far (omega (arith, hit_no y (get_or cells bound 0) (λ z. n (sym found ∙ z)), hit_yes y c e))
      (omega (arith, debts_more y first, as_owed y first some, owed_other x bound y first n, owed_yes c source y first e far)))
      (λ (near : first ≤ source).
      gains (sym e) near (omega (arith, hit_no y (get_or cells bound 0) (λ z. n (sym found ∙ z)), hit_yes y c e))
      (omega (arith, debts_more y first, as_owed y first some, owed_other x bound y first n, owed_above c source y first near)))
      (cases_lt source first))
      (λ (m : c ≢ y).
      stays (omega (arith, hit_no y (get_or cells bound 0) (λ z. n (sym found ∙ z)), hit_no y c m))
      (omega (arith, debts_more y first, as_owed y first some, owed_other x bound y first n, owed_other c source y first m)))
      (cases_eq c y))
      (cases_eq x y))
      (λ (low : first ≤ bound).
      stays (copies_set_past cells y bound c first low)
      (omega (arith, debts_more y first, as_owed y first some, owed_above x bound y first low, owed_above c source y first (omega arith))))
      (cases_lt bound first)

  live_same : (y : ℕ) → IsLive base after y → IsLive base views y
  unfolding wins
  live_same y h = live_before base views id w wins lt at refl y h

  begun_same : (y : ℕ) → times_begun after y ≡ times_begun views y
  unfolding wins
  begun_same y = begun_stays base views id w wins lt at refl y

  -- the lowest copy of a live number does not rise
  kept : (y first : ℕ) → IsLive base after y → 0 < copies cells y first → 0 < copies cells_after y first
  kept y first live some = still_some c source y first _ _ _ _ (effect y first live.of_base.some) (λ s. inv.lowest.spare y first (live_same y live) s) some

  copied_then : AreCopies home base cells_after
  copied_then =
      let here = within in let s = size in let below = search.below in let last = search.within in
      let at_hole = λ (k : ℕ) (e : k ≡ bound). ap (λ j. get_or cells_after j 0) e ∙ get_or-set_same cells bound c 0 here in
      let elsewhere = λ (k : ℕ) (n : k ≢ bound). get_or-set_other cells bound k c 0 n in
      record {
        of_base = λ k n. ⊎_elim
            (λ (e : k ≡ bound). subst (λ (v : ℕ). Contains base v) (sym (at_hole k e)) (search.of_base (λ z. n (at_hole k e ∙ z))))
            (λ (m : k ≢ bound). subst (λ (v : ℕ). Contains base v) (sym (elsewhere k m)) (inv.copied.of_base k (λ z. n (elsewhere k m ∙ z))))
            (cases_eq k bound);
        from_home = λ k n. ⊎_elim
            (λ (e : k ≡ bound). subst (λ (v : ℕ). home v ≤ k) (sym (at_hole k e))
            (⊎_elim (λ (z : c ≡ 0). absurd (n (at_hole k e ∙ z))) (λ f. let from = f.0 in omega arith) search.fits))
            (λ (m : k ≢ bound). subst (λ (v : ℕ). home v ≤ k) (sym (elsewhere k m)) (inv.copied.from_home k (λ z. n (elsewhere k m ∙ z))))
            (cases_eq k bound);
        last_empty = elsewhere (length base - 1) (λ z. omega arith) ∙ inv.copied.last_empty;
      }

  -- no more cells are filled than before
  zero_grows : (y first : ℕ) → y ≡ 0 → copies cells y first ≤ copies cells_after y first
  zero_grows y first z =
      let n = some_x in let here = within in
      ⊎_elim
      (λ (high : bound < first). omega (arith, copies_set cells y bound c first here high, hit_no y (get_or cells bound 0) (λ e. n (sym found ∙ e ∙ z))))
      (λ (low : first ≤ bound). omega (arith, copies_set_past cells y bound c first low))
      (cases_lt bound first)

  owed_then : AreOwed base cells_after after
  owed_then =
      let last = search.within in
      record {
        no_more = λ y first. ⊎_elim
            (λ (z : y ≡ 0).
            let n = some_x in
            let no_more = inv.owed.no_more y first in
            let none : owed next y first ≡ 0 = subst (λ (v : ℕ). owed next v first ≡ 0) (sym z) (owes_none first) in
            let other = owed_other x bound y first (λ e. n (e ∙ z)) in
            let grows : copies cells y first ≤ copies cells_after y first = zero_grows y first z in
            omega (arith, debts_more y first))
            (λ (some : y ≢ 0). still_no_more c source y first _ _ _ _ (effect y first some) (inv.owed.no_more y first))
            (cases_eq y 0);
        in_all = λ y of_base.
            still_all c source y (length base) _ _ _ _ (effect y (length base) of_base.some) (times_begun after y) last
            (omega (arith, inv.owed.in_all y of_base, begun_same y));
      }

  -- a live number with no copy up to the hole is less than what stands there now: it was not overlooked
  in_hole : (y k : ℕ) → IsLive base after y → home y ≤ k → copies cells_after y (k + 1) ≡ 0 → copies cells y (k + 1) ≡ 0 → k ≡ bound → y < get_or cells_after k 0
  in_hole y k live from none none_before e =
      let here = within in
      let now : get_or cells_after k 0 ≡ c = ap (λ j. get_or cells_after j 0) e ∙ get_or-set_same cells bound c 0 here in
      ⊎_elim
      (λ (less : y < c). omega arith)
      (λ (more : c ≤ y). ⊎_elim
      (λ (same : c ≡ y).
      let copy = copy_here cells_after y k (k + 1) (omega (arith, length-set cells bound c)) (now ∙ same) (omega arith) in
      absurd (omega arith))
      (λ (n : c ≢ y).
      let seen : 0 < copies cells y (bound + 1) = search.overlooked y (live_same y live) (omega arith) (omega arith) in
      let none_there : copies cells y (bound + 1) ≡ 0 = subst (λ (j : ℕ). copies cells y (j + 1) ≡ 0) e none_before in
      absurd (omega arith))
      (cases_eq c y))
      (cases_lt y c)

  lowest_then : AreLowest home base cells_after after
  lowest_then =
      let here = within in
      record {
        spare = λ y first live some. still_spare c source y first _ _ _ _ (effect y first live.of_base.some) (inv.owed.no_more y first)
            (λ s. inv.lowest.spare y first (live_same y live) s)
            (λ e far.
            let low : 0 < copies cells y (source + 1) = subst (λ (v : ℕ). 0 < copies cells v (source + 1)) (sym e) (search.low (subst (λ (v : ℕ). IsLive base views v) e (live_same y live))) in
            omega (arith, copies_rise cells y (source + 1) first (omega arith)))
            some;
        in_order = λ y k live from none.
            let none_before : copies cells y (k + 1) ≡ 0 = ⊎_elim (λ z. z)
            (λ (n : copies cells y (k + 1) ≢ 0). let some = kept y (k + 1) live (omega arith) in absurd (omega arith))
            (cases_eq (copies cells y (k + 1)) 0) in
            let before : y < get_or cells k 0 = inv.lowest.in_order y k (live_same y live) from none_before in
            ⊎_elim
            (λ (e : k ≡ bound). in_hole y k live from none none_before e)
            (λ (n : k ≢ bound). subst (λ (v : ℕ). y < v) (sym (get_or-set_other cells bound k c 0 n)) before)
            (cases_eq k bound);
      }

  -- The new state is sound whatever the cells are: at rest, or owing the candidate.
  pub exchange : ((x : ℕ) → chosen next x ≡ 0) → ((cells : List ℕ) (views : List WithdrawView) → IsSound home base cells views next) → WithdrawInvariant home base (set words bound c) (set views id (record { state = next; begun = w.begun; gone = w.gone }))
  unfolding wins
  exchange unchosen sound =
      let low = search.owed.within in
      let in_cells : cell_words base (set words bound c) ≡ cells_after = take-set-lt (length base) words bound c low in
      let flags_stay_so : flag_words base (set words bound c) ≡ flag_words base words = drop-set-lt (length base) words bound c low in
      let here = within in let less = lower in
      let follows : Follows base cells views cells_after after = record {
        live = live_same;
        falls = λ k. ⊎_elim
            (λ (e : k ≡ bound).
            let now : get_or cells_after k 0 ≡ c = ap (λ j. get_or cells_after j 0) e ∙ get_or-set_same cells bound c 0 here in
            let was : get_or cells k 0 ≡ x = ap (λ j. get_or cells j 0) e ∙ found in
            omega arith)
            (λ (n : k ≢ bound). let same = get_or-set_other cells bound k c 0 n in omega arith)
            (cases_eq k bound);
        kept = kept;
      } in
      let on : (state : WithdrawState) → IsSound home base cells views state → IsSound home base cells_after after state =
      λ state s. sound_after home base cells views cells_after after follows state (λ y walks live. live_on base views id w wins lt at refl y live) s in
      let unchosen_before : (y : ℕ) → chosen w.state y ≡ 0 = λ y. ap (λ s. chosen s y) searched in
      record {
        begins = inv.begins;
        size = length-set words bound c ∙ inv.size;
        flags = subst (λ (l : List ℕ). AreFlags base l after) (sym flags_stay_so)
            (flags_stay base views id w wins lt at refl (flag_words base words) refl (λ y. unchosen y ∙ sym (unchosen_before y)) inv.flags);
        copied = subst (λ (l : List ℕ). AreCopies home base l) (sym in_cells) copied_then;
        owed = subst (λ (l : List ℕ). AreOwed base l after) (sym in_cells) owed_then;
        lowest = subst (λ (l : List ℕ). AreLowest home base l after) (sym in_cells) lowest_then;
        states = subst (λ (l : List ℕ). All (λ v. IsSound home base l after v.state) after) (sym in_cells)
            (all_after_set (λ v. IsSound home base cells_after after v.state) views id wins (sound cells_after after)
            (λ k d within other. on (get_or views k d).state (inv.states k d within)));
      }
