-- The numbers of a casting phase fit in 64 bits at every moment, so that its measures fit in the digits of a number.
use Rattle.std.proofs.Common.{◌≡◌, ℕ, ◌+◌, ◌-◌, ◌^◌, ◌<◌, ◌≤◌, ◌==◌, Bool, true, false, cond, ⊎_elim, Option, Some, List, [], ◌∷◌, ◌++◌, length, get_or, take, drop, map, refl, sym, ap, ◌∙◌, subst, arith}
use Rattle.store_spec.proofs.Common.{All, All-append, All-cons, All-contains, All-filter, All-head, All-map, All-nil, All-push, All-set, All-tail, All-weaker, Answer, Carrying, CastInvariant, CastNote, CastState, CastView, Contains-get_or, Held, Met, Probing, Ready, Rest, Table, accepted_of, ascending, cases_lt, cast_measure, cond-false, cond-true, filter, get_or-le-sum_by, hands_of, in_hand, is_met_accepted, le-ltb, list_any, lt-ltb, most_ballots, numbers_that, option_map_or, pow_mono, slice_get, sum_by, sum_by-append, sum_by-le}
use Rattle.layout_def.proofs.Ascending.{contains_from_in, from_ascending, in_from_contains}
use Rattle.std.proofs.Math.Dec.{ltb}
use Rattle.std.proofs.lemmas.List.Elements.{All-drop}
use Rattle.schedule_replay.proofs.Measures.{number_falls}
use Rattle.schedule_replay.specs.Machine.{IsShort, IsShortCasting, IsShortTab, cast_work, measure_base, number_of}
use Rattle.step_core.proofs.SameNumbers.{weigh}
use Rattle.step_core.proofs.Sets.{All-flat_map, All-from_map, at_place}
use Rattle.step_core.specs.Casting.{Casting, Steps, Tabulator, after_step, answered, answers_at_once, first_answered, opened, opened_tab, caught_up, table_in, told}
use Rattle.step_core.specs.CastingInvariant.{FallsAt, IsCasting, tab_measure, view_of}
use Rattle.store_spec.specs.CastStep as notes
use Rattle.store_spec.specs.Phase.Met.{Accepted, Taken, Full}

-- ---- what is kept

abbrev IsShortAnswer : Answer → Type 0
IsShortAnswer a = IsShort a.number

one_of_two : {X : Type 0} (P : X → Type 0) (b : Bool) (xs ys : List X) → All P xs → All P ys → All P (cond b xs ys)
one_of_two P true xs ys one other = one
one_of_two P false xs ys one other = other

at_once_short : (base : List ℕ) (claims : ℕ) (xs : List ℕ) → All IsShort xs → All IsShortAnswer (answers_at_once base claims xs)
at_once_short base claims [] h = All-nil IsShortAnswer
at_once_short base claims (x ∷ xs) h =
    let rest = at_once_short base claims xs (All-tail IsShort x xs h) in
    let first = All-head IsShort x xs h in
    one_of_two IsShortAnswer (list_any (λ b. b == x) base) _ _ (All-cons IsShortAnswer (record { number = x; met = Held }) _ first rest)
    (one_of_two IsShortAnswer (claims == 0) _ _ (All-cons IsShortAnswer (record { number = x; met = Full }) _ first rest) (All-nil IsShortAnswer))

caught_up_short : (base : List ℕ) (claims : ℕ) (tab : Tabulator) → IsShortTab tab → IsShortTab (caught_up base claims tab)
caught_up_short base claims tab h = record {
  answered = All-append IsShortAnswer tab.answers (answers_at_once base claims tab.left) h.answered (at_once_short base claims tab.left h.left);
  left = All-drop IsShort (length (answers_at_once base claims tab.left)) tab.left h.left;
}

first_short : (meets : Met) (answers : List Answer) (left : List ℕ) → All IsShortAnswer answers → All IsShort left → All IsShortAnswer (first_answered meets answers left)
first_short meets answers [] answered left = answered
first_short meets answers (x ∷ xs) answered left = All-push IsShortAnswer answers (record { number = x; met = meets }) answered (All-head IsShort x xs left)

answered_short : (meets : Met) (tab : Tabulator) → IsShortTab tab → IsShortTab (answered meets tab)
answered_short meets tab h = record {
  answered = first_short meets tab.answers tab.left h.answered h.left;
  left = All-drop IsShort 1 tab.left h.left;
}

told_short : (note : CastNote) (tab : Tabulator) → IsShortTab tab → IsShortTab (told note tab)
told_short notes.Quiet tab h = h
told_short notes.Claimed tab h = answered_short Accepted tab h
told_short notes.Taken tab h = answered_short Taken tab h
told_short notes.Full tab h = answered_short Full tab h
told_short notes.Placed tab h = h

in_state : (state : CastState) (tab : Tabulator) → IsShortTab tab → IsShortTab (record tab { state = state })
in_state state tab h = record { answered = h.answered; left = h.left }

after_short : (base : List ℕ) (claims : ℕ) (tab : Tabulator) (new : CastState) (note : CastNote) → IsShortTab tab → IsShortTab (after_step base claims tab new note)
after_short base claims tab Rest note h = caught_up_short base claims (told note (record tab { state = Rest })) (told_short note (record tab { state = Rest }) (in_state Rest tab h))
after_short base claims tab (Probing x k) note h = told_short note (record tab { state = Probing x k }) (in_state (Probing x k) tab h)
after_short base claims tab (Carrying v i) note h = told_short note (record tab { state = Carrying v i }) (in_state (Carrying v i) tab h)
after_short base claims tab (Ready v i s) note h = told_short note (record tab { state = Ready v i s }) (in_state (Ready v i s) tab h)

pub step_short : (c : Casting) (id : ℕ) (now : Casting) → IsShortCasting c → Steps c id now → IsCasting now → IsShortCasting now
step_short c id now h s holds =
    let tab_now = after_step c.base (table_in c).claims s.tab s.new s.note in
    let short = after_short c.base (table_in c).claims s.tab s.new s.note (at_place IsShortTab c.tabs id s.tab s.acts h.tabs) in
    subst (λ (d : Casting). IsCasting d → IsShortCasting d) (sym s.is)
    (λ kept. record { holds = kept; limit = h.limit; base = h.base; tabs = All-set IsShortTab c.tabs id tab_now short h.tabs })
    holds

-- ---- at the opening

pub ascending_short : (numbers : List ℕ) → All IsShort numbers → All IsShort (ascending numbers)
ascending_short numbers h k d within =
    let v = get_or (ascending numbers) k d in
    All-contains IsShort numbers v h (contains_from_in v numbers (from_ascending v numbers (in_from_contains v (ascending numbers) (Contains-get_or (ascending numbers) k d within))))

pub opened_short : (bits salt limit : ℕ) (start : List ℕ) (lists : List (List ℕ)) → limit ≤ most_ballots → All IsShort start → All (All IsShort) lists → IsCasting (opened bits salt limit start lists) → IsShortCasting (opened bits salt limit start lists)
opened_short bits salt limit start lists few short listed holds =
    let base = ascending start in
    let claims = limit - length base in
    record {
      holds = holds;
      limit = few;
      base = ascending_short start short;
      tabs = All-map IsShortTab (opened_tab base claims) lists (All-weaker (All IsShort) (λ list. IsShortTab (opened_tab base claims list))
          (λ list each. caught_up_short base claims (record { state = Rest; answers = []; left = list }) (record { answered = All-nil IsShortAnswer; left = each })) lists listed);
    }

-- ---- numbers in hand

-- 1 for a number that does not fit
abbrev long : ℕ → ℕ
long v = cond (ltb v (2 ^ 64)) 0 1

short_long : (v : ℕ) → IsShort v → long v ≤ 0
short_long v h = omega (arith, cond-true {A = ℕ} (ltb v (2 ^ 64)) 0 1 (lt-ltb v (2 ^ 64) h))

long_short : (v : ℕ) → long v ≤ 0 → IsShort v
long_short v h = ⊎_elim
    (λ (less : v < 2 ^ 64). less)
    (λ (more : 2 ^ 64 ≤ v). absurd (omega (arith, cond-false {A = ℕ} (ltb v (2 ^ 64)) 0 1 (le-ltb v (2 ^ 64) more))))
    (cases_lt v (2 ^ 64))

none_long : (numbers : List ℕ) → All IsShort numbers → sum_by long numbers ≡ 0
none_long numbers h = omega (arith, sum_by-le long 0 numbers (All-weaker IsShort (λ v. long v ≤ 0) short_long numbers h))

all_short : (numbers : List ℕ) → sum_by long numbers ≡ 0 → All IsShort numbers
all_short numbers none k d within = long_short (get_or numbers k d) (omega (arith, get_or-le-sum_by long numbers k d within))

accepted_short : (tabs : List Tabulator) → All IsShortTab tabs → All IsShort (accepted_of (map view_of tabs))
accepted_short tabs h =
    All-flat_map IsShort (λ (view : CastView). view.accepted) (map view_of tabs)
    (All-map (λ (view : CastView). All IsShort view.accepted) view_of tabs (All-weaker IsShortTab (λ tab. All IsShort (numbers_that is_met_accepted tab.answers))
    (λ tab short. All-map IsShort (λ (a : Answer). a.number) (filter (λ (a : Answer). is_met_accepted a.met) tab.answers) (All-filter (λ (a : Answer). is_met_accepted a.met) IsShortAnswer tab.answers short.answered)) tabs h))

-- a number in hand is of the base, or was accepted
hands_short : (t : Table) (base words : List ℕ) (views : List CastView) → CastInvariant t base words views → All IsShort base → All IsShort (accepted_of views) → All IsShort (hands_of views)
hands_short t base words views invariant of_base accepted =
    let cells = take t.cells words in
    let claims = drop t.cells words in
    let zero_weight : long 0 ≡ 0 = omega (arith, short_long 0 (omega arith)) in
    let claimed : sum_by long (accepted_of views) ≡ sum_by long claims = weigh invariant.claimed.accepted long zero_weight in
    let owned : sum_by long (cells ++ hands_of views) ≡ sum_by long (base ++ claims) = weigh invariant.owned long zero_weight in
    all_short (hands_of views) (omega (
      arith,
      claimed,
      owned,
      none_long base of_base,
      none_long (accepted_of views) accepted,
      sum_by-append long cells (hands_of views),
      sum_by-append long base claims,
    ))

-- ---- the measure

three_below : (a b c : ℕ) → a < measure_base → b < measure_base → c < measure_base → All (λ n. n < measure_base) (a ∷ b ∷ c ∷ [])
three_below a b c one two three =
    let P : ℕ → Type 0 = λ n. n < measure_base in
    All-cons P a (b ∷ c ∷ []) one (All-cons P b (c ∷ []) two (All-cons P c [] three (All-nil P)))

state_below : (t : Table) (state : CastState) → t.cells ≤ 2 ^ 17 → t.claims ≤ 2 ^ 17 → IsShort (in_hand state) → All (λ n. n < measure_base) (cast_measure t state)
state_below t Rest few claims short = three_below 0 0 0 (omega arith) (omega arith) (omega arith)
state_below t (Probing x k) few claims short = three_below (t.claims - k) 0 0 (omega arith) (omega arith) (omega arith)
state_below t (Carrying v i) few claims short = three_below 0 (t.cells - i) (v + 1) (omega arith) (omega arith) (omega arith)
state_below t (Ready v i s) few claims short = three_below 0 (t.cells - i) (v - s) (omega arith) (omega arith) (omega arith)

size : (t : Table) (state : CastState) → length (cast_measure t state) ≡ 3
size t Rest = refl
size t (Probing x k) = refl
size t (Carrying v i) = refl
size t (Ready v i s) = refl

tab_below : (c : Casting) (id : ℕ) (tab : Tabulator) → IsShortCasting c → slice_get c.tabs id ≡ Some tab → All (λ n. n < measure_base) (cast_measure (table_in c) tab.state)
tab_below c id tab h stands =
    let views = map view_of c.tabs in
    let hands = hands_short (table_in c) c.base c.words views h.holds.invariant h.base (accepted_short c.tabs h.tabs) in
    let each = All-from_map (λ (view : CastView). IsShort (in_hand view.state)) view_of c.tabs (All-from_map IsShort (λ (view : CastView). in_hand view.state) views hands) in
    let homes : 2 ^ c.bits ≤ 2 ^ 16 = pow_mono h.holds.few_bits in
    let few : c.limit ≤ most_ballots = h.limit in
    state_below (table_in c) tab.state (omega arith) (omega arith) (at_place (λ (t : Tabulator). IsShort (in_hand t.state)) c.tabs id tab stands each)

pub work_falls : (c : Casting) (id : ℕ) (now : Casting) → IsShortCasting now → Steps c id now → FallsAt c id now → cast_work now id < cast_work c id
work_falls c id now short s f =
    let same : table_in now ≡ table_in c = ap table_in s.is in
    let before : cast_work c id ≡ number_of measure_base (tab_measure (table_in c) f.tab) = ap (λ (o : Option Tabulator). option_map_or (λ tab. number_of measure_base (tab_measure (table_in c) tab)) o 0) f.stands in
    let after : cast_work now id ≡ number_of measure_base (tab_measure (table_in now) f.tab_now) = ap (λ (o : Option Tabulator). option_map_or (λ tab. number_of measure_base (tab_measure (table_in now) tab)) o 0) f.stands_now in
    let after_same : cast_work now id ≡ number_of measure_base (tab_measure (table_in c) f.tab_now) = after ∙ ap (λ (t : Table). number_of measure_base (tab_measure t f.tab_now)) same in
    let below = subst (λ (t : Table). All (λ n. n < measure_base) (cast_measure t f.tab_now.state)) same (tab_below now id f.tab_now short f.stands_now) in
    let sizes : length (tab_measure (table_in c) f.tab_now) ≡ length (tab_measure (table_in c) f.tab) = omega (arith, size (table_in c) f.tab_now.state, size (table_in c) f.tab.state) in
    let less = number_falls measure_base (tab_measure (table_in c) f.tab_now) (tab_measure (table_in c) f.tab) sizes below f.falls in
    subst (λ n. n < cast_work c id) (sym after_same) (subst (λ n. number_of measure_base (tab_measure (table_in c) f.tab_now) < n) (sym before) less)
