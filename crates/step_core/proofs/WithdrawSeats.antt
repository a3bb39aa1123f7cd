-- A phase opens, a seat is made, and a seat is taken in: no count changes.
use Rattle.std.proofs.Common.{◌≡◌, ◌≢◌, ℕ, zero, suc, ◌+◌, ◌<◌, ◌≤◌, ⊎_elim, List, [], ◌∷◌, ◌++◌, length, get_or, set, replicate, Some, slice_get, refl, sym, ◌∙◌, ap, subst, arith}
use Rattle.store_spec.proofs.Common.{All, All-append, All-push, All-weaker, AreLowest, AreOwed, Contains-get_or, IsLive, IsOfBase, IsSound, WithdrawInvariant, WithdrawState, WithdrawView, cases_lt, cell_words, copies, count_by, debts, drop_at, flag_words, fresh_withdraw_view, get_or-set_other, get_or_default, get_or_from_slice_get, get_or_past, length-append, length-replicate, length-set, slice_get_within, sum_by-append, sum_by-cons, sum_by_push, take_all, take_at, times, times_begun, times_taken}
use Rattle.step_core.proofs.Copies.{hit, hit_yes, hit_no, copy_here}
use Rattle.step_core.proofs.Debts.{owed, chosen, debts_set, begun_set, chosen_set}
use Rattle.step_core.proofs.WithdrawFirst.{one_place}
use Rattle.step_core.proofs.WithdrawStates.{Follows, sound_after}
use Rattle.step_core.proofs.WordSets.{all_after_set, sum_none, zero_cell}
use Rattle.store_spec.specs.WithdrawInvariant.{walks_to, AreCopies, IsBase}
use Rattle.store_spec.specs.WithdrawStep.WithdrawState.{Rest}

-- ---- the same counts

pub record SameCounts (views views' : List WithdrawView) : Type 0 where
  pub owed : (x first : ℕ) → debts views' x first ≡ debts views x first
  pub begun : (x : ℕ) → times_begun views' x ≡ times_begun views x
  pub taken : (x : ℕ) → times_taken views' x ≡ times_taken views x

module _ (home : ℕ → ℕ) (base words : List ℕ) (views views' : List WithdrawView) (same : SameCounts views views') (inv : WithdrawInvariant home base words views) where
  live_before : (x : ℕ) → IsLive base views' x → IsLive base views x
  live_before x h = record { of_base = h.of_base; kept = sym (same.begun x) ∙ h.kept }

  sound_on : (state : WithdrawState) → IsSound home base (cell_words base words) views state → IsSound home base (cell_words base words) views' state
  sound_on state s =
      let cells = cell_words base words in
      let follows : Follows base cells views cells views' = record { live = live_before; falls = λ place. omega arith; kept = λ x first live some. some } in
      sound_after home base cells views cells views' follows state (λ x walks live. record { of_base = live.of_base; kept = same.begun x ∙ live.kept }) s

  pub gone_on : (gone : List ℕ) → All (λ x. IsOfBase base x × (times_taken views x ≡ 1)) gone → All (λ x. IsOfBase base x × (times_taken views' x ≡ 1)) gone
  gone_on gone h = All-weaker (λ x. IsOfBase base x × (times_taken views x ≡ 1)) (λ x. IsOfBase base x × (times_taken views' x ≡ 1)) (λ x s. (s.0, same.taken x ∙ s.1)) gone h

  -- lists and states are to be shown for the new views
  pub with_same_counts : All (λ v. All (IsOfBase base) v.begun) views' → All (λ v. All (λ x. IsOfBase base x × (times_taken views' x ≡ 1)) v.gone) views' → All (λ v. IsSound home base (cell_words base words) views v.state) views' → WithdrawInvariant home base words views'
  with_same_counts begun gone states = record {
    begins = inv.begins;
    size = inv.size;
    flags = record {
      counted = λ cell. inv.flags.counted cell ∙ sym (same.taken (get_or base cell 0));
      once = λ x. let once = inv.flags.once x in let is = same.taken x in omega arith;
      begun = begun;
      gone = gone;
    };
    copied = inv.copied;
    owed = record {
      no_more = λ x first. let no_more = inv.owed.no_more x first in let is = same.owed x first in omega arith;
      in_all = λ x of_base. let in_all = inv.owed.in_all x of_base in let is = same.owed x (length base) in let also = same.begun x in omega arith;
    };
    lowest = record {
      spare = λ x first live some. let spare = inv.lowest.spare x first (live_before x live) some in let is = same.owed x first in omega arith;
      in_order = λ x place live from none. inv.lowest.in_order x place (live_before x live) from none;
    };
    states = All-weaker (λ v. IsSound home base (cell_words base words) views v.state) (λ v. IsSound home base (cell_words base words) views' v.state) (λ v s. sound_on v.state s) views' states;
  }

-- ---- a seat is made: a view at rest comes last

pub seat_made : (home : ℕ → ℕ) (base words : List ℕ) (views : List WithdrawView) → WithdrawInvariant home base words views → WithdrawInvariant home base words (views ++ fresh_withdraw_view ∷ [])
seat_made home base words views inv =
    let views' = views ++ fresh_withdraw_view ∷ [] in
    let same : SameCounts views views' = record {
      owed = λ x first. omega (arith, sum_by_push (λ v. owed v.state x first) views fresh_withdraw_view);
      begun = λ x. omega (arith, sum_by_push (λ v. times v.begun x) views fresh_withdraw_view);
      taken = λ x. omega (arith, sum_by_push (λ v. times v.begun x) views fresh_withdraw_view, sum_by_push (λ v. chosen v.state x) views fresh_withdraw_view);
    } in
    with_same_counts home base words views views' same inv
    (All-push (λ v. All (IsOfBase base) v.begun) views fresh_withdraw_view inv.flags.begun (λ k d lt. absurd (omega arith)))
    (All-push (λ v. All (λ x. IsOfBase base x × (times_taken views' x ≡ 1)) v.gone) views fresh_withdraw_view
    (λ k d lt. gone_on home base words views views' same inv (get_or views k d).gone (inv.flags.gone k d lt)) (λ k d lt. absurd (omega arith)))
    (All-push (λ v. IsSound home base (cell_words base words) views v.state) views fresh_withdraw_view inv.states tt)

-- ---- a seat at rest is taken in by another at rest, which has its lists then

module _ (home : ℕ → ℕ) (base words : List ℕ) (views : List WithdrawView) (id other : ℕ) (w v : WithdrawView) (inv : WithdrawInvariant home base words views) (has : slice_get views id ≡ Some w) (has_other : slice_get views other ≡ Some v) (apart : id ≢ other) (rests : w.state ≡ Rest) (also : v.state ≡ Rest) where
  both : WithdrawView
  both = record { state = Rest; begun = w.begun ++ v.begun; gone = w.gone ++ v.gone }

  abbrev between : List WithdrawView
  between = set views id both

  abbrev after : List WithdrawView
  after = set (set views id both) other fresh_withdraw_view

  lt : id < length views
  lt = slice_get_within views id w has

  at : get_or views id w ≡ w
  at = get_or_from_slice_get views id w w has

  lt_other : other < length views
  lt_other = slice_get_within views other v has_other

  lt_between : other < length (set views id both)
  lt_between = let short = lt_other in omega (arith, length-set views id both)

  at_between : get_or (set views id both) other v ≡ v
  at_between = get_or-set_other views id other both v (λ e. apart (sym e)) ∙ get_or_from_slice_get views other v v has_other

  owed_none : (x first : ℕ) → (owed w.state x first ≡ 0) × (owed v.state x first ≡ 0)
  owed_none x first = (ap (λ s. owed s x first) rests, ap (λ s. owed s x first) also)

  chosen_none : (x : ℕ) → (chosen w.state x ≡ 0) × (chosen v.state x ≡ 0)
  chosen_none x = (ap (λ s. chosen s x) rests, ap (λ s. chosen s x) also)

  same : SameCounts views after
  unfolding both
  same =
      let begun = λ (x : ℕ).
      let joined : times (w.begun ++ v.begun) x ≡ times w.begun x + times v.begun x = sum_by-append (hit x) w.begun v.begun in
      let one = begun_set views id w both lt at x in let two = begun_set between other v fresh_withdraw_view lt_between at_between x in
      let is : times_begun after x ≡ times_begun views x = omega arith in is in
      record {
        owed = λ x first. let none = owed_none x first in
            let one = debts_set views id w both lt at x first in let two = debts_set between other v fresh_withdraw_view lt_between at_between x first in omega arith;
        begun = begun;
        taken = λ x. let none = chosen_none x in let is = begun x in
            let one = chosen_set views id w both lt at x in let two = chosen_set between other v fresh_withdraw_view lt_between at_between x in omega arith;
      }

  -- what holds of lists that come together, and of each other view, holds of all
  all_after : (P : WithdrawView → Type 0) → P both → P fresh_withdraw_view → ((k : ℕ) (d : WithdrawView) → k < length views → P (get_or views k d)) → All P after
  all_after P joined none old =
      all_after_set P between other fresh_withdraw_view none (λ k d within n. all_after_set P views id both joined (λ j e within_views m. old j e within_views) k d within)

  pub taken_in : WithdrawInvariant home base words (set (set views id (record { state = Rest; begun = w.begun ++ v.begun; gone = w.gone ++ v.gone })) other fresh_withdraw_view)
  unfolding both
  taken_in =
      let cells = cell_words base words in
      let gone = λ (u : WithdrawView) (k : ℕ) (within : k < length views) (is : get_or views k u ≡ u).
      gone_on home base words views after same inv u.gone (subst (λ (t : WithdrawView). All (λ x. IsOfBase base x × (times_taken views x ≡ 1)) t.gone) is (inv.flags.gone k u within)) in
      with_same_counts home base words views after same inv
      (all_after (λ u. All (IsOfBase base) u.begun)
      (All-append (IsOfBase base) w.begun v.begun
      (subst (λ (t : WithdrawView). All (IsOfBase base) t.begun) at (inv.flags.begun id w lt))
      (subst (λ (t : WithdrawView). All (IsOfBase base) t.begun) (get_or_from_slice_get views other v v has_other) (inv.flags.begun other v lt_other)))
      (λ k d within. absurd (omega arith)) (λ k d within. inv.flags.begun k d within))
      (all_after (λ u. All (λ x. IsOfBase base x × (times_taken after x ≡ 1)) u.gone)
      (All-append (λ x. IsOfBase base x × (times_taken after x ≡ 1)) w.gone v.gone (gone w id lt at) (gone v other lt_other (get_or_from_slice_get views other v v has_other)))
      (λ k d within. absurd (omega arith)) (λ k d within. gone_on home base words views after same inv (get_or views k d).gone (inv.flags.gone k d within)))
      (all_after (λ u. IsSound home base cells views u.state) tt tt (λ k d within. inv.states k d within))

-- ---- the opening

-- a number that stands in one place stands once
pub times_one : (cells : List ℕ) (x place : ℕ) → place < length cells → get_or cells place 0 ≡ x → ((other : ℕ) → other < length cells → get_or cells other 0 ≡ x → other ≡ place) → times cells x ≡ 1
times_one [] x place lt e one = absurd (omega arith)
times_one (cell ∷ cells) x zero lt e one =
    let none : times cells x ≡ 0 = sum_none (hit x) cells (λ k d within.
    hit_no x (get_or cells k d) (λ same.
    let no : suc k ≡ 0 = one (suc k) (omega arith) (get_or_default cells k 0 d within ∙ same) in absurd (omega arith))) in
    omega (arith, sum_by-cons (hit x) cell cells, hit_yes x cell e)
times_one (cell ∷ cells) x (suc place) lt e one =
    let rest = times_one cells x place (omega arith) e (λ k within same. let is : suc k ≡ suc place = one (suc k) (omega arith) same in omega arith) in
    let other : cell ≢ x = λ same. let no : 0 ≡ suc place = one 0 (omega arith) same in absurd (omega arith) in
    omega (arith, sum_by-cons (hit x) cell cells, hit_no x cell other)

-- in cells that a phase begins with each number stands once
pub base_once : (home : ℕ → ℕ) (base : List ℕ) (x : ℕ) → IsBase home base → IsOfBase base x → times base x ≡ 1
base_once home base x begins of =
    let place = of.stood.0 in
    let there : get_or base place 0 ≡ x = get_or_default base place 0 x of.stood.1 ∙ of.stood.2 in
    times_one base x place of.stood.1 there (λ k lt e. one_place home base x k place begins.ordered of.some e there)

pub opened : (home : ℕ → ℕ) (base : List ℕ) (views : List WithdrawView) → IsBase home base → All (λ v. v ≡ fresh_withdraw_view) views → WithdrawInvariant home base (base ++ replicate (length base) 0) views
opened home base views begins fresh =
    let n = length base in
    let words = base ++ replicate {A = ℕ} n 0 in
    let cells : cell_words base words ≡ base = take_at base (replicate n 0) n refl in
    let flags : flag_words base words ≡ replicate n 0 = drop_at base (replicate n 0) n refl in
    let owed_none : (x first : ℕ) → debts views x first ≡ 0 = λ x first. sum_none (λ v. owed v.state x first) views (λ k d lt. ap (λ (v : WithdrawView). owed v.state x first) (fresh k d lt)) in
    let begun_none : (x : ℕ) → times_begun views x ≡ 0 = λ x. sum_none (λ v. times v.begun x) views (λ k d lt. ap (λ (v : WithdrawView). times v.begun x) (fresh k d lt)) in
    let chosen_none : (x : ℕ) → count_by (λ v. walks_to v.state x) views ≡ 0 = λ x. sum_none (λ v. chosen v.state x) views (λ k d lt. ap (λ (v : WithdrawView). chosen v.state x) (fresh k d lt)) in
    let taken_none : (x : ℕ) → times_taken views x ≡ 0 = λ x. let b = begun_none x in let c = chosen_none x in omega arith in
    record {
      begins = begins;
      size = length-append base (replicate n 0) ∙ ap (λ k. n + k) (length-replicate n 0);
      flags = record {
        counted = λ cell. ap (λ (l : List ℕ). get_or l cell 0) flags ∙ zero_cell n cell ∙ sym (taken_none (get_or base cell 0));
        once = λ x. let none = taken_none x in omega arith;
        begun = λ k d lt. subst (λ (v : WithdrawView). All (IsOfBase base) v.begun) (sym (fresh k d lt)) (λ j e within. absurd (omega arith));
        gone = λ k d lt. subst (λ (v : WithdrawView). All (λ x. IsOfBase base x × (times_taken views x ≡ 1)) v.gone) (sym (fresh k d lt)) (λ j e within. absurd (omega arith));
      };
      copied = subst (λ (l : List ℕ). AreCopies home base l) (sym cells) (record {
        of_base = λ place some. Contains-get_or base place 0 (⊎_elim (λ lt. lt) (λ (past : n ≤ place). absurd (some (get_or_past base place 0 past))) (cases_lt place n));
        from_home = begins.ordered.from_home;
        last_empty = begins.last_empty;
      });
      owed = subst (λ (l : List ℕ). AreOwed base l views) (sym cells) (record {
        no_more = λ x first. let none = owed_none x first in omega arith;
        in_all = λ x of. let none = owed_none x n in let begun = begun_none x in let one = base_once home base x begins of in
            let all : copies base x n ≡ times base x = ap (λ l. times l x) (take_all n base (omega arith)) in omega arith;
      });
      lowest = subst (λ (l : List ℕ). AreLowest home base l views) (sym cells) (record {
        spare = λ x first live some. let none = owed_none x first in omega arith;
        in_order = λ x place live from none.
            let stood = live.of_base.stood in
            let there : get_or base stood.0 0 ≡ x = get_or_default base stood.0 0 x stood.1 ∙ stood.2 in
            let after : place < stood.0 = ⊎_elim (λ lt. lt)
            (λ (before : stood.0 ≤ place). let some = copy_here base x stood.0 (place + 1) stood.1 there (omega arith) in absurd (omega arith))
            (cases_lt place stood.0) in
            let some : get_or base stood.0 0 ≢ 0 = λ z. live.of_base.some (sym there ∙ z) in
            let less = begins.ordered.greater_before stood.0 place some (subst (λ (u : ℕ). home u ≤ place) (sym there) from) after in
            omega arith;
      });
      states = λ k d lt. subst (λ (v : WithdrawView). IsSound home base (cell_words base words) views v.state) (sym (fresh k d lt)) tt;
    }
