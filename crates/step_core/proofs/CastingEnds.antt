-- A casting phase at its opening and at its end, and the measure of its tabulators.
use Rattle.std.proofs.Common.{◌≡◌, ◌≢◌, true, ℕ, ◌+◌, ◌^◌, ⊎_elim, Some, List, [], ◌++◌, length, get_or, drop, map, replicate, refl, sym, ◌∙◌, subst, arith}
use Rattle.store_spec.proofs.Common.{All, All-append, All-contains, All-map, All-nil, All-weaker, AllPairs, Answer, CastView, Contains, Contains-append_cases, Contains-append_right, Contains-get_or, EachOnce, HasMet, HasRoom, Held, IsClaimed, IsPermutation, IsPermutation-refl, Met, Rest, accepted_of, ascending, home_of, layout_of, length-append, length-replicate, numbers_that, slice_get, slice_get-get_or}
use Rattle.probe_order.specs.Below.{home_of-lt}
use Rattle.step_core.proofs.CastAtRest.{accepted_once, full_for, rest_layout, same-back, same-contains}
use Rattle.step_core.proofs.CastOpening.{IsIdle, fresh_met, layout_weighs, opening_idle, weighs_ascending}
use Rattle.step_core.proofs.CastingAnswers.{numbers-contains}
use Rattle.step_core.proofs.CastingSteps.{IsAnswering, has_room, tab_caught_up}
use Rattle.step_core.proofs.CastingViews.{caught_up_accepted, caught_up_met}
use Rattle.step_core.proofs.SameNumbers.{hold}
use Rattle.step_core.proofs.Sets.{at_place, contains-flat_map, distinct_once, flat_map-map, is_one, once_distinct, stands-map}
use Rattle.step_core.specs.Casting.{Casting, HasEnded, IsDone, MayOpen, Tabulator, answers_in, cells_in, opened, caught_up, table_in}
use Rattle.step_core.specs.CastingInvariant.{IsCasting, IsTabulator, TellsBase, is_full, is_taken, view_of}
use Rattle.layout_def.proofs.Ascending.{contains_from_in, from_ascending, in_from_contains, length-ascending}
use Rattle.layout_def.proofs.LaidOut.{layout_of_is}
use Rattle.store_spec.specs.Phase.{CastOutcome, IsRightlyMet, MayBeMetBefore, numbers_accepted, is_met_accepted}
use Rattle.store_spec.specs.Phase.Met.{Accepted, Taken, Full}

-- ---- the opening

some_ascending : (start : List ℕ) → All (λ v. v ≢ 0) start → All (λ v. v ≢ 0) (ascending start)
some_ascending start some k d within =
    let v = get_or (ascending start) k d in
    let in_order = in_from_contains v (ascending start) (Contains-get_or (ascending start) k d within) in
    All-contains (λ w. w ≢ 0) start v some (contains_from_in v start (from_ascending v start in_order))

once_ascending : (start : List ℕ) → AllPairs (λ a b. a ≢ b) start → EachOnce (ascending start)
once_ascending start distinct v some = omega (arith, weighs_ascending (is_one v) start, once_distinct start distinct v some)

no_answers : (base : List ℕ) → IsAnswering base []
no_answers base = record { tells_base = All-nil (λ (a : Answer). TellsBase base a.number a.met); in_order = λ i j d lt within. absurd (omega arith) }

idle_tab : (base : List ℕ) (claims : ℕ) (list : List ℕ) → IsIdle (replicate claims 0) (view_of (caught_up base claims (record { state = Rest; answers = []; left = list })))
idle_tab base claims list =
    let tab : Tabulator = record { state = Rest; answers = []; left = list } in
    let words = replicate claims 0 in
    let none_met = fresh_met words in
    record {
      rests = refl;
      no_accepted = caught_up_accepted base claims tab;
      met = subst (λ (n : ℕ). HasMet words (view_of (caught_up base n tab))) (length-replicate claims 0) (caught_up_met base words tab none_met);
    }

pub opened_is : (bits salt limit : ℕ) (start : List ℕ) (lists : List (List ℕ)) → MayOpen bits limit start lists → IsCasting (opened bits salt limit start lists)
opened_is bits salt limit start lists may =
    let c = opened bits salt limit start lists in
    let t = table_in c in
    let home = home_of bits salt in
    let size = 2 ^ bits + limit in
    let few = may.few in
    let room : HasRoom home (2 ^ bits) size start = record {
      distinct = may.distinct;
      some = may.some;
      homed = λ k d lt. home_of-lt bits salt (get_or start k d) may.few_bits;
      room = omega arith;
    } in
    let layout = layout_of_is home (2 ^ bits) size start room in
    let cells = layout_of home size start in
    let begin = λ (list : List ℕ). let tab : Tabulator = record { state = Rest; answers = []; left = list } in caught_up c.base t.claims tab in
    record {
      few_bits = may.few_bits;
      within_limit = omega (arith, length-ascending start);
      some = some_ascending start may.some;
      invariant = opening_idle t c.base cells (map view_of c.tabs) layout.ordered layout.size
          (hold (λ weight none. layout_weighs home (2 ^ bits) size start room weight none ∙ sym (weighs_ascending weight start)))
          (once_ascending start may.distinct)
          (All-map (IsIdle (replicate t.claims 0)) view_of c.tabs
          (All-map (λ tab. IsIdle (replicate t.claims 0) (view_of tab)) begin lists (λ k d within. idle_tab c.base t.claims (get_or lists k d))));
      tabs = All-map (IsTabulator t c.base) begin lists
          (λ k d within. tab_caught_up t c.base [] (get_or lists k d) (may.listed k d within) (no_answers c.base));
    }

-- ---- the end

accepted_by_all : (tabs : List Tabulator) → accepted_of (map view_of tabs) ≡ numbers_accepted (map (λ (tab : Tabulator). tab.answers) tabs)
accepted_by_all tabs =
    flat_map-map (λ (view : CastView). view.accepted) view_of tabs
    ∙ sym (flat_map-map (numbers_that is_met_accepted) (λ (tab : Tabulator). tab.answers) tabs)

-- ---- an answer is right at the end

-- what an answer says of the set before and after, as its tabulator tells it
right : (limit : ℕ) (base after accepted taken full : List ℕ) (x : ℕ) (met : Met) → TellsBase base x met → (is_met_accepted met ≡ true → Contains accepted x) → (is_taken met ≡ true → Contains taken x) → (is_full met ≡ true → Contains full x) → (Contains accepted x → Contains after x) → (Contains taken x → Contains after x) → (Contains full x → ¬ Contains base x → (¬ Contains after x) × (length after ≡ limit)) → IsRightlyMet limit base after x met
right limit base after accepted taken full x Held tells in_accepted in_taken in_full from_accepted from_taken from_full = tells
right limit base after accepted taken full x Accepted tells in_accepted in_taken in_full from_accepted from_taken from_full = (tells, from_accepted (in_accepted refl))
right limit base after accepted taken full x Taken tells in_accepted in_taken in_full from_accepted from_taken from_full = (tells, from_taken (in_taken refl))
right limit base after accepted taken full x Full tells in_accepted in_taken in_full from_accepted from_taken from_full = from_full (in_full refl) tells

-- the outcome with any listing of the set after the phase
record EndsBy (c : Casting) (after : List ℕ) : Type 0 where
  outcome : CastOutcome c.limit c.base (answers_in c) after
  layout : cells_in c ≡ layout_of (home_of c.bits c.salt) (2 ^ c.bits + c.limit) after

module _ (c : Casting) (h : IsCasting c) where
  -- where claim words were full for a number, it is not in the set, and that has reached the limit
  no_room : (id : ℕ) (tab : Tabulator) (x : ℕ) → slice_get c.tabs id ≡ Some tab → Contains (numbers_that is_full tab.answers) x → ¬ Contains c.base x → (¬ Contains (c.base ++ accepted_of (map view_of c.tabs)) x) × (length (c.base ++ accepted_of (map view_of c.tabs)) ≡ c.limit)
  no_room id tab x stands full not_base =
      let t = table_in c in
      let views = map view_of c.tabs in
      let none = full_for t c.base c.words views id (view_of tab) x h.invariant (stands-map view_of c.tabs id tab stands) full in
      let within = h.within_limit in (
        λ a. ⊎_elim not_base none.0 (Contains-append_cases c.base (accepted_of views) x a),
        omega (arith, length-append c.base (accepted_of views), none.1),
      )

  -- a number found taken is accepted
  taken_accepted : (id : ℕ) (tab : Tabulator) (x : ℕ) → slice_get c.tabs id ≡ Some tab → Contains (numbers_that is_taken tab.answers) x → Contains (accepted_of (map view_of c.tabs)) x
  taken_accepted id tab x stands taken =
      let t = table_in c in
      let views = map view_of c.tabs in
      let claims = drop t.cells c.words in
      let met = at_place (HasMet claims) views id (view_of tab) (stands-map view_of c.tabs id tab stands) h.invariant.claimed.met in
      let claimed = All-contains (IsClaimed claims) (numbers_that is_taken tab.answers) x met.taken taken in
      same-contains claims (accepted_of views) x (same-back (accepted_of views) claims h.invariant.claimed.accepted) claimed.0 claimed.1

  answers_right : (id : ℕ) (tab : Tabulator) → slice_get c.tabs id ≡ Some tab → All (λ a. IsRightlyMet c.limit c.base (c.base ++ accepted_of (map view_of c.tabs)) a.number a.met) tab.answers
  answers_right id tab stands k d within =
      let views = map view_of c.tabs in
      let accepted = accepted_of views in
      let own = at_place (IsTabulator (table_in c) c.base) c.tabs id tab stands h.tabs in
      let a = get_or tab.answers k d in
      right c.limit c.base (c.base ++ accepted) (numbers_that is_met_accepted tab.answers) (numbers_that is_taken tab.answers) (numbers_that is_full tab.answers) a.number a.met
      (own.tells_base k d within)
      (numbers-contains is_met_accepted tab.answers k d within)
      (numbers-contains is_taken tab.answers k d within)
      (numbers-contains is_full tab.answers k d within)
      (λ has. Contains-append_right c.base accepted a.number (contains-flat_map (λ (view : CastView). view.accepted) views id (view_of tab) a.number (stands-map view_of c.tabs id tab stands) has))
      (λ has. Contains-append_right c.base accepted a.number (taken_accepted id tab a.number stands has))
      (λ has not_base. no_room id tab a.number stands has not_base)

  ends_by : All IsDone c.tabs → EndsBy c (c.base ++ accepted_of (map view_of c.tabs))
  ends_by done =
      let t = table_in c in
      let views = map view_of c.tabs in
      let accepted = accepted_of views in
      let after = c.base ++ accepted in
      let some : All (λ v. v ≢ 0) after = All-append (λ v. v ≢ 0) c.base accepted h.some h.invariant.claimed.some in
      record {
        outcome = record {
          gains = subst (λ (xs : List ℕ). IsPermutation (c.base ++ xs) after) (accepted_by_all c.tabs) (IsPermutation-refl after);
          distinct = distinct_once after (accepted_once t c.base c.words views h.invariant) some;
          answers = All-map (All (λ a. IsRightlyMet c.limit c.base after a.number a.met)) (λ (tab : Tabulator). tab.answers) c.tabs
              (λ id tab within. answers_right id (get_or c.tabs id tab) (slice_get-get_or c.tabs id tab within));
          in_order = All-map (AllPairs MayBeMetBefore) (λ (tab : Tabulator). tab.answers) c.tabs
              (All-weaker (IsTabulator t c.base) (λ (tab : Tabulator). AllPairs MayBeMetBefore tab.answers) (λ tab own. own.in_order) c.tabs h.tabs);
        };
        layout = rest_layout t c.base c.words views (has_room c h) h.invariant
            (All-map (λ (view : CastView). view.state ≡ Rest) view_of c.tabs (All-weaker IsDone (λ (tab : Tabulator). tab.state ≡ Rest) (λ tab is. is.0) c.tabs done));
      }

pub ends : (c : Casting) → IsCasting c → All IsDone c.tabs → HasEnded c
ends c h done =
    let by = subst (λ (xs : List ℕ). EndsBy c (c.base ++ xs)) (accepted_by_all c.tabs) (ends_by c h done) in
    record { outcome = by.outcome; layout = by.layout }
