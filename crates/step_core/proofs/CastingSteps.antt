-- Each step of a casting phase keeps what holds of it at every moment.
use Rattle.std.proofs.Common.{◌≡◌, ◌≢◌, true, ℕ, ◌+◌, ◌^◌, Some, List, [], ◌∷◌, ◌++◌, length, get_or, set, drop, map, refl, sym, ap, ◌∙◌, subst, arith}
use Rattle.store_spec.proofs.Common.{All, All-append, All-push, All-set, All-weaker, AllPairs, Answer, Carrying, CastInvariant, CastNote, CastRow, CastState, CastView, Contains, GoesFrom, HasRoomFor, Held, Met, Probing, Ready, Rest, Table, all_pairs_push, cast_act, cast_number, cast_view_after, claim_met, claim_passed, claim_won, claim_word, claims_full, displaces, look_passes, look_ready, lost_passes, lost_ready, map-set, numbers_that, slice_get, takes_empty, word_of}
use Rattle.probe_order.specs.Below.{home_of-lt}
use Rattle.std.proofs.lemmas.List.{set-set}
use Rattle.std.proofs.lemmas.List.Elements.{All-drop}
use Rattle.step_core.proofs.CastAtRest.{IsNewIn, claim_is_new}
use Rattle.step_core.proofs.CastRows.{probing_is}
use Rattle.step_core.proofs.CastSteps.{begins, begun, keeps_step, word_of_row}
use Rattle.step_core.proofs.CastingAnswers.{IsAtOnce, at_once, next_caught_up, numbers-contains}
use Rattle.step_core.proofs.CastingAnswers.IsAtOnce.{is_full_for, is_held}
use Rattle.step_core.proofs.CastingViews.{AnswersFirst, keeps_caught_up, view_told}
use Rattle.step_core.proofs.Sets.{AllPairs-append, at_place, stands-map, stands-set}
use Rattle.step_core.specs.Casting.{Casting, Steps, Tabulator, after_step, answers_at_once, first_answered, next_from, caught_up, table_in, told}
use Rattle.step_core.specs.CastingInvariant.{IsCasting, IsNext, IsTabulator, TellsBase, is_full, is_taken, view_of}
use Rattle.store_spec.specs.CastStep as notes
use Rattle.store_spec.specs.Phase.{MayBeMetBefore, is_met_accepted}
use Rattle.store_spec.specs.Phase.Met.{Accepted, Taken, Full}

-- a cell for each home, each number of the base and each claim word
pub has_room : (c : Casting) → IsCasting c → HasRoomFor (table_in c) c.base
has_room c h = record {
  some = h.some;
  homes = 2 ^ c.bits;
  homed = λ v. home_of-lt c.bits c.salt v h.few_bits;
  room = let few = h.within_limit in omega arith;
}

-- ---- where a step goes from

-- the number for which claim words are tried stands first
pub tried_first : (t : Table) (base : List ℕ) (state : CastState) (left : List ℕ) (x k : ℕ) → IsNext t base state left → next_from state left ≡ Probing x k → (xs : List ℕ) × (left ≡ x ∷ xs)
tried_first t base Rest [] x k next e = absurd cc
tried_first t base Rest (y ∷ ys) x k next e = let same : y ≡ x = cc in (ys, ap (λ z. z ∷ ys) same)
tried_first t base (Probing y j) [] x k next e = absurd next
tried_first t base (Probing y j) (z ∷ zs) x k next e = let same : z ≡ x = cc in (zs, ap (λ w. w ∷ zs) same)
tried_first t base (Carrying v i) left x k next e = absurd cc
tried_first t base (Ready v i s) left x k next e = absurd cc

-- from rest with no number left there is no step
pub no_row : (t : Table) (word found left : ℕ) (new : CastState) (note : CastNote) → CastRow t Rest word found left new note → ⊥
no_row t word found left new note row = elim row [ ]

pub goes_from : (t : Table) (base : List ℕ) (state : CastState) (left : List ℕ) (word found put : ℕ) (new : CastState) (note : CastNote) → IsNext t base state left → CastRow t (next_from state left) word found put new note → GoesFrom t base state (next_from state left)
goes_from t base Rest [] word found put new note next row = absurd (no_row t word found put new note row)
goes_from t base Rest (x ∷ xs) word found put new note next row = (x, next, refl)
goes_from t base (Probing x k) left word found put new note next row = refl
goes_from t base (Carrying v i) left word found put new note next row = refl
goes_from t base (Ready v i s) left word found put new note next row = refl

answers_first : (t : Table) (from : CastState) (word found put : ℕ) (new : CastState) (note : CastNote) (left : List ℕ) → CastRow t from word found put new note → ((x k : ℕ) → from ≡ Probing x k → (xs : List ℕ) × (left ≡ x ∷ xs)) → AnswersFirst note (cast_number from) left
answers_first t from word found put new note left (claim_won x k) first = first x k refl
answers_first t from word found put new note left (claim_met x k) first = first x k refl
answers_first t from word found put new note left (claim_passed x k f some other more) first = tt
answers_first t from word found put new note left (claims_full x k f some other last) first = first x k refl
answers_first t from word found put new note left (look_passes v i f greater) first = tt
answers_first t from word found put new note left (look_ready v i f less) first = tt
answers_first t from word found put new note left (takes_empty v i) first = tt
answers_first t from word found put new note left (displaces v i s some) first = tt
answers_first t from word found put new note left (lost_passes v i s f lost greater) first = tt
answers_first t from word found put new note left (lost_ready v i s f lost less) first = tt

-- the word that a probe reads
word_is : (t : Table) (from : CastState) (word found put : ℕ) (new : CastState) (note : CastNote) → CastRow t from word found put new note → (x k : ℕ) → from ≡ Probing x k → word ≡ claim_word t x k
word_is t from word found put new note row x k e = word_of_row t from word found put new note row ∙ ap (λ s. word_of (cast_act t s)) e

-- ---- the invariant

pub told_state : (note : CastNote) (tab : Tabulator) → (told note tab).state ≡ tab.state
told_state notes.Quiet tab = refl
told_state notes.Claimed tab = refl
told_state notes.Taken tab = refl
told_state notes.Full tab = refl
told_state notes.Placed tab = refl

invariant_after : (t : Table) (base words : List ℕ) (views : List CastView) (id : ℕ) (view : CastView) (tab : Tabulator) (new : CastState) (note : CastNote) → slice_get views id ≡ Some view → CastInvariant t base words (set views id (view_of (told note (record tab { state = new })))) → CastInvariant t base words (set views id (view_of (after_step base t.claims tab new note)))
invariant_after t base words views id view tab Rest note stands h =
    let now = told note (record tab { state = Rest }) in
    subst (CastInvariant t base words) (set-set views id (view_of now) (view_of (caught_up base t.claims now)))
    (keeps_caught_up t base words (set views id (view_of now)) id now h (stands-set views id view (view_of now) stands) (told_state note (record tab { state = Rest })))
invariant_after t base words views id view tab (Probing x k) note stands h = h
invariant_after t base words views id view tab (Carrying v i) note stands h = h
invariant_after t base words views id view tab (Ready v i s) note stands h = h

-- ---- the answers

pub record IsAnswering (base : List ℕ) (answers : List Answer) : Type 0 where
  pub tells_base : All (λ a. TellsBase base a.number a.met) answers
  pub in_order : AllPairs MayBeMetBefore answers

answers_more : (base : List ℕ) (answers : List Answer) (x : ℕ) (met : Met) → IsAnswering base answers → TellsBase base x met → (met ≡ Accepted → All (λ a. (a.number ≢ x) × (a.met ≢ Full)) answers) → IsAnswering base (answers ++ record { number = x; met = met } ∷ [])
answers_more base answers x met h tells new =
    let a : Answer = record { number = x; met = met } in
    record {
      tells_base = All-push (λ (b : Answer). TellsBase base b.number b.met) answers a h.tells_base tells;
      in_order = all_pairs_push MayBeMetBefore answers a h.in_order (λ k d within is. new is k d within);
    }

at_once_tells : (base : List ℕ) (claims x : ℕ) (met : Met) → IsAtOnce base claims x met → TellsBase base x met
at_once_tells base claims x met (is_held y h) = h
at_once_tells base claims x met (is_full_for y h e) = h

at_once_follows : (base : List ℕ) (claims : ℕ) (earlier : Answer) (x : ℕ) (met : Met) → IsAtOnce base claims x met → MayBeMetBefore earlier (record { number = x; met = met })
at_once_follows base claims earlier x met (is_held y h) = λ is. absurd cc
at_once_follows base claims earlier x met (is_full_for y h e) = λ is. absurd cc

pub answers_caught_up : (base : List ℕ) (claims : ℕ) (answers : List Answer) (xs : List ℕ) → IsAnswering base answers → IsAnswering base (answers ++ answers_at_once base claims xs)
answers_caught_up base claims answers xs h =
    let more = answers_at_once base claims xs in
    let once = at_once base claims xs in
    let AtOnce : Answer → Type 0 = λ a. IsAtOnce base claims a.number a.met in
    record {
      tells_base = All-append (λ (a : Answer). TellsBase base a.number a.met) answers more h.tells_base
          (All-weaker AtOnce (λ (a : Answer). TellsBase base a.number a.met) (λ a. at_once_tells base claims a.number a.met) more once);
      in_order = AllPairs-append MayBeMetBefore answers more h.in_order
          (All-weaker AtOnce (λ (a : Answer). (earlier : Answer) → MayBeMetBefore earlier a) (λ a is earlier. at_once_follows base claims earlier a.number a.met is) more once);
    }

-- an answer among others, of which none has the number and none met full claim words
new_by : (base accepted taken full : List ℕ) (x y : ℕ) (met : Met) → TellsBase base y met → (is_met_accepted met ≡ true → Contains accepted y) → (is_taken met ≡ true → Contains taken y) → (is_full met ≡ true → Contains full y) → ¬ Contains base x → ¬ Contains accepted x → ¬ Contains taken x → full ≡ [] → (y ≢ x) × (met ≢ Full)
new_by base accepted taken full x y Held tells in_accepted in_taken in_full not_base not_accepted not_taken none =
    (λ e. not_base (subst (Contains base) e tells), λ is. cc)
new_by base accepted taken full x y Accepted tells in_accepted in_taken in_full not_base not_accepted not_taken none =
    (λ e. not_accepted (subst (Contains accepted) e (in_accepted refl)), λ is. cc)
new_by base accepted taken full x y Taken tells in_accepted in_taken in_full not_base not_accepted not_taken none =
    (λ e. not_taken (subst (Contains taken) e (in_taken refl)), λ is. cc)
new_by base accepted taken full x y Full tells in_accepted in_taken in_full not_base not_accepted not_taken none =
    let nowhere : Contains [] y = subst (λ (l : List ℕ). Contains l y) none (in_full refl) in
    absurd (let within = nowhere.1 in omega arith)

new_among : (base : List ℕ) (answers : List Answer) (x : ℕ) → IsAnswering base answers → ¬ Contains base x → IsNewIn (view_of (record { state = Rest; answers = answers; left = [] })) x → All (λ a. (a.number ≢ x) × (a.met ≢ Full)) answers
new_among base answers x h not_base new k d within =
    let a = get_or answers k d in
    new_by base (numbers_that is_met_accepted answers) (numbers_that is_taken answers) (numbers_that is_full answers) x a.number a.met
    (h.tells_base k d within)
    (numbers-contains is_met_accepted answers k d within)
    (numbers-contains is_taken answers k d within)
    (numbers-contains is_full answers k d within)
    not_base new.not_accepted new.not_taken new.not_full

-- ---- a tabulator after a step

pub tabulator : (t : Table) (base : List ℕ) (tab : Tabulator) → All (λ x. x ≢ 0) tab.left → IsNext t base tab.state tab.left → IsAnswering base tab.answers → IsTabulator t base tab
tabulator t base tab some next answering = record { some = some; next = next; tells_base = answering.tells_base; in_order = answering.in_order }

pub tab_caught_up : (t : Table) (base : List ℕ) (answers : List Answer) (left : List ℕ) → All (λ x. x ≢ 0) left → IsAnswering base answers → IsTabulator t base (caught_up base t.claims (record { state = Rest; answers = answers; left = left }))
tab_caught_up t base answers left some answering =
    let tab : Tabulator = record { state = Rest; answers = answers; left = left } in
    let now = caught_up base t.claims tab in
    tabulator t base now (All-drop (λ x. x ≢ 0) (length (answers_at_once base t.claims left)) left some)
    (next_caught_up t base left some) (answers_caught_up base t.claims answers left answering)

-- what a row leaves of a tabulator whose first number is tried by it
module _ (t : Table) (base : List ℕ) (tab : Tabulator) (some : All (λ x. x ≢ 0) tab.left) (answering : IsAnswering base tab.answers) where
  one_more : (x : ℕ) (met : Met) → (xs : List ℕ) × (tab.left ≡ x ∷ xs) → TellsBase base x met → (met ≡ Accepted → All (λ a. (a.number ≢ x) × (a.met ≢ Full)) tab.answers) → IsAnswering base (first_answered met tab.answers tab.left)
  one_more x met first tells new =
      subst (IsAnswering base) (sym (ap (first_answered met tab.answers) first.1)) (answers_more base tab.answers x met answering tells new)

  rest_some : All (λ x. x ≢ 0) (drop 1 tab.left)
  rest_some = All-drop (λ x. x ≢ 0) 1 tab.left some

  pub tab_after : (from : CastState) (word found put : ℕ) (new : CastState) (note : CastNote) → CastRow t from word found put new note → ((x k : ℕ) → from ≡ Probing x k → (xs : List ℕ) × (tab.left ≡ x ∷ xs)) → ((x k : ℕ) → from ≡ Probing x k → ¬ Contains base x) → ((x k : ℕ) → from ≡ Probing x k → found ≡ 0 → All (λ a. (a.number ≢ x) × (a.met ≢ Full)) tab.answers) → IsTabulator t base (after_step base t.claims tab new note)
  tab_after from word found put new note (claim_won x k) first not_base is_new =
      tabulator t base (told notes.Claimed (record tab { state = Carrying x (t.home x) })) rest_some tt (one_more x Accepted (first x k refl) (not_base x k refl) (λ is. is_new x k refl refl))
  tab_after from word found put new note (claim_met x k) first not_base is_new =
      tab_caught_up t base (first_answered Taken tab.answers tab.left) (drop 1 tab.left) rest_some
      (one_more x Taken (first x k refl) (not_base x k refl) (λ is. absurd cc))
  tab_after from word found put new note (claim_passed x k f f_some other more) first not_base is_new =
      let head = first x k refl in
      tabulator t base (record tab { state = Probing x (k + 1) }) some
      (subst (IsNext t base (Probing x (k + 1))) (sym head.1) refl) answering
  tab_after from word found put new note (claims_full x k f f_some other last) first not_base is_new =
      tab_caught_up t base (first_answered Full tab.answers tab.left) (drop 1 tab.left) rest_some
      (one_more x Full (first x k refl) (not_base x k refl) (λ is. absurd cc))
  tab_after from word found put new note (look_passes v i f greater) first not_base is_new = tabulator t base (record tab { state = Carrying v (i + 1) }) some tt answering
  tab_after from word found put new note (look_ready v i f less) first not_base is_new = tabulator t base (record tab { state = Ready v i f }) some tt answering
  tab_after from word found put new note (takes_empty v i) first not_base is_new = tab_caught_up t base tab.answers tab.left some answering
  tab_after from word found put new note (displaces v i s s_some) first not_base is_new = tabulator t base (record tab { state = Carrying s (i + 1) }) some tt answering
  tab_after from word found put new note (lost_passes v i s f lost greater) first not_base is_new = tabulator t base (record tab { state = Carrying v (i + 1) }) some tt answering
  tab_after from word found put new note (lost_ready v i s f lost less) first not_base is_new = tabulator t base (record tab { state = Ready v i f }) some tt answering

-- ---- a step

pub steps_keep : (c : Casting) (id : ℕ) (now : Casting) → IsCasting c → Steps c id now → IsCasting now
steps_keep c id now h s =
    let t = table_in c in
    let tab = s.tab in
    let from = next_from tab.state tab.left in
    let found = get_or c.words s.word 0 in
    let views = map view_of c.tabs in
    let view = view_of tab in
    let room = has_room c h in
    let stands : slice_get views id ≡ Some view = stands-map view_of c.tabs id tab s.acts in
    let own = at_place (IsTabulator t c.base) c.tabs id tab s.acts h.tabs in
    let goes = goes_from t c.base tab.state tab.left s.word found s.left s.new s.note own.next s.row in
    let first = λ (x k : ℕ) (e : from ≡ Probing x k). tried_first t c.base tab.state tab.left x k own.next e in
    let words = set c.words s.word s.left in
    let after = keeps_step t c.base c.words views id words (set views id (cast_view_after view (cast_number from) s.new s.note)) room h.invariant
    (record {
      view = view;
      acts = stands;
      from = from;
      goes = goes;
      word = s.word;
      left = s.left;
      new = s.new;
      note = s.note;
      row = s.row;
      words_now = refl;
      view_now = refl;
    }) in
    let told_view = view_told s.new tab.answers (cast_number from) tab.left s.note (answers_first t from s.word found s.left s.new s.note tab.left s.row first) in
    let told_invariant : CastInvariant t c.base words (set views id (view_of (told s.note (record tab { state = s.new })))) =
    subst (λ (v : CastView). CastInvariant t c.base words (set views id v)) (sym told_view) after in
    let end = after_step c.base t.claims tab s.new s.note in
    let whole : CastInvariant t c.base words (map view_of (set c.tabs id end)) =
    subst (CastInvariant t c.base words) (sym (map-set view_of c.tabs id end))
    (invariant_after t c.base words views id view tab s.new s.note stands told_invariant) in
    let begun_view = begun view from in
    let begun_views = set views id begun_view in
    let before = begins t c.base c.words views id view view.state from h.invariant stands refl goes in
    let stands_begun = stands-set views id view begun_view stands in
    let tried = λ (x k : ℕ) (e : from ≡ Probing x k). probing_is t c.base c.words begun_views id begun_view (Probing x k) before stands_begun e in
    let answering : IsAnswering c.base tab.answers = record { tells_base = own.tells_base; in_order = own.in_order } in
    let kept : IsTabulator t c.base end = tab_after t c.base tab own.some answering from s.word found s.left s.new s.note s.row first
    (λ x k e. (tried x k e).not_held)
    (λ x k e free. new_among c.base tab.answers x answering (tried x k e).not_held
    (let new = claim_is_new t c.base c.words begun_views id begun_view x k before stands_begun e (ap (λ w. get_or c.words w 0) (sym (word_is t from s.word found s.left s.new s.note s.row x k e)) ∙ free) in
    record { not_accepted = new.not_accepted; not_taken = new.not_taken; not_full = new.not_full })) in
    subst IsCasting (sym s.is) (record {
      few_bits = h.few_bits;
      within_limit = h.within_limit;
      some = h.some;
      invariant = whole;
      tabs = All-set (IsTabulator t c.base) c.tabs id end kept h.tabs;
    })
