-- A withdrawing phase opens, and ends with its outcome once all withdrawers are done.
use Rattle.std.proofs.Common.{◌≡◌, ◌≢◌, ◌^◌, Bool, true, false, ℕ, suc, ◌+◌, ◌<◌, ◌≤◌, ⊎_elim, List, [], ◌∷◌, ◌++◌, length, get_or, take, map, replicate, Option, Some, None, slice_get, refl, sym, ap, ◌∙◌, subst, arith}
use Rattle.store_spec.proofs.Common.{All, All-contains, All-map, All-weaker, AllPairs, Contains, Contains-get_or, IsOfBase, IsRightWithdrawal, IsSomeAnd, MayBeWithdrawnBefore, WithdrawInvariant, WithdrawView, Withdrawal, append-nil, ascending, begun_by, cases_Bool, cases_eq, cond-false, cond-true, filter, flat_map-map, fresh_withdraw_view, get_or-le-sum_by, get_or-map, get_or_default, get_or_from_slice_get, home_of, is_withdrawn, laid_out, layout_of, length-map, listed, numbers_in, slice_get_within, sum_by, sum_by-cons, sum_by-le-sum_by, times, withdrawn_in, without}
use Rattle.step_core.proofs.Copies.{hit, hit_yes, hit_no}
use Rattle.step_core.proofs.Listings.{no_zero_in_cells, same_ascending, some_times, times-cons, times-flat_map, times_ascending, times_in_cells, times_some, times_without, times_without_none}
use Rattle.step_core.proofs.WithdrawAtRest as rest
use Rattle.step_core.proofs.WithdrawSeats.{base_once}
use Rattle.step_core.proofs.WithdrawSeats as seats
use Rattle.step_core.proofs.WithdrawingAnswers.{IsAbsent, all_absent, next_caught_up, numbers-absent, numbers-contains, pairs_absent}
use Rattle.step_core.proofs.WithdrawingBase.{base_begins, base_layout, of_base_held}
use Rattle.step_core.proofs.WordSets.{sum_same}
use Rattle.layout_def.proofs.Ascending.{ascending_distinct, length-ascending}
use Rattle.layout_def.proofs.LaidOut.{ascending_from_rising}
use Rattle.step_core.specs.Withdrawing.{EndsWith, HasEnded, IsDone, IsDoneAt, Withdrawer, Withdrawing, absent_first, answers_in, base_in, count_in, home_in, opened, caught_up}
use Rattle.step_core.specs.WithdrawingInvariant.{IsWithdrawer, IsWithdrawing, is_gone, numbers_that, view_of}
use Rattle.store_spec.specs.WithdrawPhase as reply
use Rattle.store_spec.specs.WithdrawStep.WithdrawState.{Rest}

-- ---- numbers of lists

-- a number that stands in a list of distinct ones stands there once
once_in : (numbers : List ℕ) (x : ℕ) → AllPairs (λ a b. a ≢ b) numbers → times numbers x ≤ 1
once_in [] x apart = omega arith
once_in (y ∷ numbers) x apart =
    let rest = once_in numbers x (λ i j d lt within. apart (suc i) (suc j) d (omega arith) (omega arith)) in
    ⊎_elim
    (λ (e : y ≡ x).
    let none : times numbers x ≡ 0 = ⊎_elim (λ z. z)
    (λ (n : times numbers x ≢ 0).
    let c = some_times numbers x (omega arith) in
    absurd (apart 0 (suc c.0) x (omega arith) (omega (arith, c.1)) (e ∙ sym c.2)))
    (cases_eq (times numbers x) 0) in
    omega (arith, times-cons y numbers x, hit_yes x y e))
    (λ (n : y ≢ x). omega (arith, times-cons y numbers x, hit_no x y n))
    (cases_eq y x)

-- a kind of answers has no more numbers than all
kind_within : (such : reply.WithdrawReply → Bool) (answers : List Withdrawal) (x : ℕ) → times (numbers_that such answers) x ≤ times (map (λ a. a.number) answers) x
kind_within such [] x = omega arith
kind_within such (a ∷ answers) x =
    let more = kind_within such answers x in
    let whole : times (map (λ (b : Withdrawal). b.number) (a ∷ answers)) x ≡ hit x a.number + times (map (λ (b : Withdrawal). b.number) answers) x = times-cons a.number (map (λ (b : Withdrawal). b.number) answers) x in
    ⊎_elim
    (λ (e : such a.reply ≡ true).
    let is : times (numbers_that such (a ∷ answers)) x ≡ hit x a.number + times (numbers_that such answers) x =
    ap (λ l. times (map (λ (b : Withdrawal). b.number) l) x) (cond-true (such a.reply) (a ∷ filter (λ (b : Withdrawal). such b.reply) answers) (filter (λ (b : Withdrawal). such b.reply) answers) e)
    ∙ times-cons a.number (numbers_that such answers) x in
    omega arith)
    (λ (e : such a.reply ≡ false).
    let is : times (numbers_that such (a ∷ answers)) x ≡ times (numbers_that such answers) x =
    ap (λ l. times (map (λ (b : Withdrawal). b.number) l) x) (cond-false (such a.reply) (a ∷ filter (λ (b : Withdrawal). such b.reply) answers) (filter (λ (b : Withdrawal). such b.reply) answers) e) in
    omega arith)
    (cases_Bool (such a.reply))

-- a sum that is not 0 has a term that is not
some_term : {X : Type 0} (f : X → ℕ) (xs : List X) → 0 < sum_by f xs → (k : ℕ) × (k < length xs) × ((d : X) → 0 < f (get_or xs k d))
some_term f [] some = absurd (omega arith)
some_term f (x ∷ xs) some = ⊎_elim
    (λ (e : f x ≡ 0).
    let more = some_term f xs (omega (arith, sum_by-cons f x xs)) in let lt = more.1 in
    (suc more.0, omega arith, more.2))
    (λ (n : f x ≢ 0). (0, omega arith, λ d. omega arith))
    (cases_eq (f x) 0)

-- ---- the end

module _ (w : Withdrawing) (h : IsWithdrawing w) (done : All IsDone w.tabs) where
  abbrev views : List WithdrawView
  views = map view_of w.tabs

  resting : All (λ (v : WithdrawView). v.state ≡ Rest) (map view_of w.tabs)
  resting = All-map (λ (v : WithdrawView). v.state ≡ Rest) view_of w.tabs (λ k d lt. (done k d lt).0)

  begun_is : (x : ℕ) → times (begun_by (map view_of w.tabs)) x ≡ sum_by (λ (t : Withdrawer). times (numbers_that is_withdrawn t.answers) x) w.tabs
  begun_is x =
      ap (λ l. times l x) (flat_map-map (λ (v : WithdrawView). v.begun) view_of w.tabs)
      ∙ times-flat_map (λ (t : Withdrawer). (view_of t).begun) w.tabs x
      ∙ sum_same (λ (t : Withdrawer). times (view_of t).begun x) (λ (t : Withdrawer). times (numbers_that is_withdrawn t.answers) x) w.tabs
      (λ k d lt.
      let t = get_or w.tabs k d in
      let none : (view_of t).begun ≡ numbers_that is_withdrawn t.answers = ap (λ s. (view_of (record { state = s; answers = t.answers; left = t.left })).begun) (done k d lt).0 ∙ append-nil (numbers_that is_withdrawn t.answers) in
      ap (λ l. times l x) none)

  listed_is : (x : ℕ) → times (listed (answers_in w)) x ≡ sum_by (λ (t : Withdrawer). times (map (λ a. a.number) t.answers) x) w.tabs
  listed_is x =
      ap (λ l. times l x) (flat_map-map (map (λ (a : Withdrawal). a.number)) (λ (t : Withdrawer). t.answers) w.tabs)
      ∙ times-flat_map (λ (t : Withdrawer). map (λ a. a.number) t.answers) w.tabs x

  withdrawn_is : (x : ℕ) → times (withdrawn_in (answers_in w)) x ≡ times (begun_by (map view_of w.tabs)) x
  withdrawn_is x =
      ap (λ l. times l x) (flat_map-map (λ (answers : List Withdrawal). map (λ a. a.number) (filter (λ a. is_withdrawn a.reply) answers)) (λ (t : Withdrawer). t.answers) w.tabs)
      ∙ times-flat_map (λ (t : Withdrawer). numbers_that is_withdrawn t.answers) w.tabs x
      ∙ sym (begun_is x)

  begun_listed : (x : ℕ) → times (begun_by (map view_of w.tabs)) x ≤ times (listed (answers_in w)) x
  begun_listed x = omega (
    arith,
    begun_is x,
    listed_is x,
    sum_by-le-sum_by (λ (t : Withdrawer). times (numbers_that is_withdrawn t.answers) x) (λ (t : Withdrawer). times (map (λ a. a.number) t.answers) x) w.tabs (λ t. kind_within is_withdrawn t.answers x),
  )

  -- by its kind
  answer_cases : (t : Withdrawer) (k : ℕ) (a : Withdrawal) → k < length w.tabs → get_or w.tabs k t ≡ t → Contains w.held a.number → Contains t.answers a → (r : reply.WithdrawReply) → a.reply ≡ r → IsRightWithdrawal w.held a.number r → 0 < times (begun_by (map view_of w.tabs)) a.number
  answer_cases t k a lt is stands among reply.Withdrawn e right =
      let own : Contains (numbers_that is_withdrawn t.answers) a.number =
      All-contains (λ (b : Withdrawal). is_withdrawn b.reply ≡ true → Contains (numbers_that is_withdrawn t.answers) b.number) t.answers a (numbers-contains is_withdrawn t.answers) among (ap is_withdrawn e) in
      let some = times_some (numbers_that is_withdrawn t.answers) a.number own in
      let part : times (numbers_that is_withdrawn t.answers) a.number ≤ sum_by (λ (u : Withdrawer). times (numbers_that is_withdrawn u.answers) a.number) w.tabs =
      subst (λ (u : Withdrawer). times (numbers_that is_withdrawn u.answers) a.number ≤ sum_by (λ (v : Withdrawer). times (numbers_that is_withdrawn v.answers) a.number) w.tabs) is
      (get_or-le-sum_by (λ (u : Withdrawer). times (numbers_that is_withdrawn u.answers) a.number) w.tabs k t lt) in
      omega (arith, begun_is a.number)
  answer_cases t k a lt is stands among reply.Gone e right =
      let own : Contains (numbers_that is_gone t.answers) a.number =
      All-contains (λ (b : Withdrawal). is_gone b.reply ≡ true → Contains (numbers_that is_gone t.answers) b.number) t.answers a (numbers-contains is_gone t.answers) among (ap is_gone e) in
      let all : All (Contains (begun_by (map view_of w.tabs))) (numbers_that is_gone t.answers) =
      subst (λ (v : WithdrawView). All (Contains (begun_by (map view_of w.tabs))) v.gone) (get_or-map view_of w.tabs k t (view_of t) lt ∙ ap view_of is)
      (rest.gone_begun (home_in w) (base_in w) w.words (map view_of w.tabs) h.invariant resting k (view_of t) (omega (arith, length-map w.tabs view_of))) in
      times_some (begun_by (map view_of w.tabs)) a.number (All-contains (Contains (begun_by (map view_of w.tabs))) (numbers_that is_gone t.answers) a.number all own)
  answer_cases t k a lt is stands among reply.Absent e right = absurd (right stands)

  -- an answer to a number that is held tells that its removal was begun, here or elsewhere
  answer_begun : (t : Withdrawer) (k : ℕ) (a : Withdrawal) → k < length w.tabs → get_or w.tabs k t ≡ t → Contains w.held a.number → Contains t.answers a → 0 < times (begun_by (map view_of w.tabs)) a.number
  answer_begun t k a lt is stands among =
      let own : IsWithdrawer w.held t = subst (IsWithdrawer w.held) is (h.tabs k t lt) in
      answer_cases t k a lt is stands among a.reply refl (All-contains (λ (b : Withdrawal). IsRightWithdrawal w.held b.number b.reply) t.answers a own.answers among)

  -- so each listed number that is held was begun
  listed_begun : (x : ℕ) → Contains w.held x → 0 < times (listed (answers_in w)) x → 0 < times (begun_by (map view_of w.tabs)) x
  listed_begun x stands some =
      let term = some_term (λ (t : Withdrawer). times (map (λ a. a.number) t.answers) x) w.tabs (omega (arith, listed_is x)) in
      let d : Withdrawer = record { state = Rest; answers = []; left = [] } in
      let t = get_or w.tabs term.0 d in
      let numbers = map (λ (a : Withdrawal). a.number) t.answers in
      let c : Contains numbers x = some_times numbers x (term.2 d) in
      let none : Withdrawal = record { number = 0; reply = reply.Absent } in
      let lt : c.0 < length t.answers = omega (arith, c.1, length-map t.answers (λ (a : Withdrawal). a.number)) in
      let a = get_or t.answers c.0 none in
      let number : a.number ≡ x = sym (get_or-map (λ (b : Withdrawal). b.number) t.answers c.0 none x lt) ∙ c.2 in
      subst (λ (v : ℕ). 0 < times (begun_by (map view_of w.tabs)) v) number
      (answer_begun t term.0 a term.1 (get_or_default w.tabs term.0 t d term.1) (subst (λ (v : ℕ). Contains w.held v) (sym number) stands) (Contains-get_or t.answers c.0 none lt))

  -- the base has the numbers that are held
  base_numbers : (x : ℕ) → times (numbers_in (base_in w)) x ≡ times w.held x
  base_numbers x =
      let is = base_layout w.bits w.salt w.limit w.held h.few_bits h.within_limit h.some h.distinct in
      let begins = base_begins w.bits w.salt w.limit w.held h.few_bits h.within_limit h.some h.distinct in
      let none_held : ¬ Contains w.held x → times w.held x ≡ 0 = λ out. ⊎_elim (λ z. z) (λ (n : times w.held x ≢ 0). absurd (out (some_times w.held x (omega arith)))) (cases_eq (times w.held x) 0) in
      ⊎_elim
      (λ (e : x ≡ 0).
      ap (times (numbers_in (base_in w))) e ∙ no_zero_in_cells (base_in w) ∙ sym (none_held (λ c. All-contains (λ v. v ≢ 0) w.held x h.some c e)))
      (λ (some : x ≢ 0).
      times_in_cells (base_in w) x some
      ∙ ⊎_elim
      (λ (out : times (base_in w) x ≡ 0).
      out ∙ sym (none_held (λ c. let there = times_some (base_in w) x (is.exactly.each x c) in omega arith)))
      (λ (n : times (base_in w) x ≢ 0).
      let of : IsOfBase (base_in w) x = record { some = some; stood = some_times (base_in w) x (omega arith) } in
      let one = base_once (home_in w) (base_in w) x begins of in
      let few = once_in w.held x h.distinct in
      let there = times_some w.held x (of_base_held w.bits w.salt w.limit w.held h.few_bits h.within_limit h.some h.distinct x of) in
      omega arith)
      (cases_eq (times (base_in w) x) 0))
      (cases_eq x 0)

  -- and the same numbers are left of either
  same_left : (x : ℕ) → times (without (numbers_in (base_in w)) (begun_by (map view_of w.tabs))) x ≡ times (without w.held (listed (answers_in w))) x
  same_left x =
      let begun = times (begun_by (map view_of w.tabs)) x in
      let all = times (listed (answers_in w)) x in
      ⊎_elim
      (λ (e : all ≡ 0).
      times_without (numbers_in (base_in w)) (begun_by (map view_of w.tabs)) x (omega (arith, begun_listed x)) ∙ base_numbers x ∙ sym (times_without w.held (listed (answers_in w)) x e))
      (λ (n : all ≢ 0).
      ⊎_elim
      (λ (none : times w.held x ≡ 0).
      ⊎_elim
      (λ (z : begun ≡ 0). times_without (numbers_in (base_in w)) (begun_by (map view_of w.tabs)) x z ∙ base_numbers x ∙ none)
      (λ (m : begun ≢ 0). times_without_none (numbers_in (base_in w)) (begun_by (map view_of w.tabs)) x (omega arith))
      (cases_eq begun 0))
      (λ (stands : times w.held x ≢ 0).
      times_without_none (numbers_in (base_in w)) (begun_by (map view_of w.tabs)) x (listed_begun x (some_times w.held x (omega arith)) (omega arith)))
      (cases_eq (times w.held x) 0)
      ∙ sym (times_without_none w.held (listed (answers_in w)) x (omega arith)))
      (cases_eq all 0)

  pub ends : EndsWith w (without w.held (listed (answers_in w)))
  ends =
      let size : length (base_in w) ≡ count_in w = (base_layout w.bits w.salt w.limit w.held h.few_bits h.within_limit h.some h.distinct).size in
      record {
        outcome = record {
          rest = refl;
          answers = All-map (All (λ (a : Withdrawal). IsRightWithdrawal w.held a.number a.reply)) (λ (t : Withdrawer). t.answers) w.tabs (λ k d lt. (h.tabs k d lt).answers);
          once = λ x stands among.
              let few = rest.begun_once (home_in w) (base_in w) w.words (map view_of w.tabs) h.invariant resting x in
              let some = listed_begun x stands (times_some (listed (answers_in w)) x among) in
              omega (arith, withdrawn_is x);
          in_order = All-map (AllPairs MayBeWithdrawnBefore) (λ (t : Withdrawer). t.answers) w.tabs (λ k d lt. (h.tabs k d lt).in_order);
        };
        layout =
            ap (λ n. take n w.words) (sym size)
            ∙ rest.at_rest (home_in w) (base_in w) w.words (map view_of w.tabs) h.invariant resting
            ∙ ap (λ n. layout_of (home_in w) n (without (numbers_in (base_in w)) (begun_by (map view_of w.tabs)))) size
            ∙ ap (laid_out (home_in w) (count_in w)) (same_ascending (without (numbers_in (base_in w)) (begun_by (map view_of w.tabs))) (without w.held (listed (answers_in w))) same_left);
      }

-- ---- the opening

module _ (bits salt limit : ℕ) (start : List ℕ) (lists : List (List ℕ)) (few : bits ≤ 16) (within : length start ≤ limit) (some : All (λ x. x ≢ 0) start) (distinct : AllPairs (λ a b. a ≢ b) start) where
  abbrev held : List ℕ
  held = ascending start

  abbrev begin : Withdrawing
  begin = opened bits salt limit start lists

  short : length (ascending start) ≤ limit
  short = omega (arith, length-ascending start)

  some_held : All (λ x. x ≢ 0) (ascending start)
  some_held = λ k d lt.
      let there = Contains-get_or (ascending start) k d lt in
      All-contains (λ x. x ≢ 0) start (get_or (ascending start) k d) some
      (some_times start (get_or (ascending start) k d) (omega (arith, times_ascending start (get_or (ascending start) k d), times_some (ascending start) (get_or (ascending start) k d) there)))

  apart : AllPairs (λ a b. a ≢ b) (ascending start)
  apart = λ i j d lt in_range.
      let less : get_or (ascending start) i d < get_or (ascending start) j d = ascending_from_rising (ascending start) (ascending_distinct start distinct) i j d lt in_range in
      λ e. omega arith

  pub same_base : layout_of (home_of bits salt) (2 ^ bits + limit) start ≡ base_in begin
  same_base = ap (laid_out (home_of bits salt) (2 ^ bits + limit)) (sym (same_ascending (ascending start) start (times_ascending start)))

  all_fresh : All (λ v. v ≡ fresh_withdraw_view) (map view_of (opened bits salt limit start lists).tabs)
  all_fresh = All-map (λ v. v ≡ fresh_withdraw_view) view_of begin.tabs (All-map (λ t. view_of t ≡ fresh_withdraw_view) (λ (list : List ℕ). caught_up (ascending start) (record { state = Rest; answers = []; left = list })) lists
      (λ k d lt.
      let list = get_or lists k d in
      ap (λ l. record { state = Rest; begun = l ++ []; gone = numbers_that is_gone (absent_first (ascending start) list) }) (numbers-absent is_withdrawn (ascending start) list refl)
      ∙ ap (λ l. record { state = Rest; begun = []; gone = l }) (numbers-absent is_gone (ascending start) list refl)))

  pub opens : IsWithdrawing (opened bits salt limit start lists)
  opens =
      let size : length (base_in begin) ≡ 2 ^ bits + limit = (base_layout bits salt limit (ascending start) few short some_held apart).size in
      let words : begin.words ≡ base_in begin ++ replicate (length (base_in begin)) 0 =
      ap (λ l. l ++ replicate (2 ^ bits + limit) 0) same_base ∙ ap (λ n. base_in begin ++ replicate n 0) (sym size) in
      record {
        few_bits = few;
        within_limit = short;
        some = some_held;
        distinct = apart;
        invariant = subst (λ (l : List ℕ). WithdrawInvariant (home_of bits salt) (base_in begin) l (map view_of begin.tabs)) (sym words)
            (seats.opened (home_of bits salt) (base_in begin) (map view_of begin.tabs) (base_begins bits salt limit (ascending start) few short some_held apart) all_fresh);
        tabs = All-map (IsWithdrawer (ascending start)) (λ (list : List ℕ). caught_up (ascending start) (record { state = Rest; answers = []; left = list })) lists
            (λ k d lt.
            let list = get_or lists k d in
            let absent = all_absent (ascending start) list in
            record {
              next = next_caught_up (ascending start) list;
              answers = All-weaker (IsAbsent (ascending start)) (λ b. IsRightWithdrawal (ascending start) b.number b.reply) (λ b out. subst (λ r. IsRightWithdrawal (ascending start) b.number r) (sym out.reply) out.not_held) (absent_first (ascending start) list) absent;
              in_order = pairs_absent (ascending start) list;
              not_gone = λ moves. absurd (moves refl);
            });
      }

-- ---- one withdrawer by itself

pub alone_ends : (w : Withdrawing) (id : ℕ) → IsWithdrawing w → length w.tabs ≡ 1 → IsDoneAt w id → HasEnded w
alone_ends w id h one done =
    let stands = some_tab (slice_get w.tabs id) done refl in
    let lt = slice_get_within w.tabs id stands.0 stands.1 in
    ends w h (λ k d within.
    let same : k ≡ id = omega arith in
    subst IsDone (sym (ap (λ i. get_or w.tabs i d) same ∙ get_or_from_slice_get w.tabs id stands.0 d stands.1)) stands.2)
  where
    some_tab : (o : Option Withdrawer) → IsSomeAnd o IsDone → slice_get w.tabs id ≡ o → (tab : Withdrawer) × (slice_get w.tabs id ≡ Some tab) × IsDone tab
    some_tab None none is = absurd none
    some_tab (Some tab) some is = (tab, is, some)
