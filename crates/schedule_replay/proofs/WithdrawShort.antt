-- The numbers of a withdrawing phase fit in 64 bits at every moment, so that its measures fit in the digits of a number.
use Rattle.std.proofs.Common.{◌≡◌, ℕ, ◌-◌, ◌*◌, ◌^◌, ◌<◌, ◌≤◌, Option, Some, List, [], ◌∷◌, length, map, refl, sym, ap, ◌∙◌, subst, arith}
use Rattle.store_spec.proofs.Common.{All, All-cons, All-contains, All-nil, Chosen, Down, IsOfBase, IsSound, Owing, Up, WithdrawState, WithdrawView, cell_words, most_ballots, option_map_or, pow_mono, slice_get, withdraw_measure}
use Rattle.schedule_replay.proofs.CastShort.{ascending_short}
use Rattle.schedule_replay.proofs.Measures.{number_falls}
use Rattle.schedule_replay.specs.Machine.{IsShort, IsShortWithdrawing, measure_base, number_of, withdraw_work}
use Rattle.step_core.proofs.Sets.{All-from_map, at_place}
use Rattle.step_core.proofs.WithdrawingBase.{base_layout, of_base_held}
use Rattle.step_core.specs.Withdrawing.{Steps, Withdrawer, Withdrawing, base_in, count_in, home_in, opened}
use Rattle.step_core.specs.WithdrawingInvariant.{FallsAt, IsWithdrawing, tab_measure, view_of}
use Rattle.store_spec.specs.WithdrawStep.WithdrawState.{Rest}

-- ---- what is kept

pub step_short : (w : Withdrawing) (id : ℕ) (now : Withdrawing) → IsShortWithdrawing w → Steps w id now → IsWithdrawing now → IsShortWithdrawing now
step_short w id now h s holds =
    subst (λ (d : Withdrawing). IsWithdrawing d → IsShortWithdrawing d) (sym s.is) (λ kept. record { holds = kept; limit = h.limit; held = h.held }) holds

pub opened_short : (bits salt limit : ℕ) (start : List ℕ) (lists : List (List ℕ)) → limit ≤ most_ballots → All IsShort start → IsWithdrawing (opened bits salt limit start lists) → IsShortWithdrawing (opened bits salt limit start lists)
opened_short bits salt limit start lists few short holds = record { holds = holds; limit = few; held = ascending_short start short }

-- ---- the measure

four_below : (a b c d : ℕ) → a < measure_base → b < measure_base → c < measure_base → d < measure_base → All (λ n. n < measure_base) (a ∷ b ∷ c ∷ d ∷ [])
four_below a b c d one two three four =
    let P : ℕ → Type 0 = λ n. n < measure_base in
    All-cons P a (b ∷ c ∷ d ∷ []) one (All-cons P b (c ∷ d ∷ []) two (All-cons P c (d ∷ []) three (All-cons P d [] four (All-nil P))))

state_below : (home : ℕ → ℕ) (base cells : List ℕ) (views : List WithdrawView) (state : WithdrawState) (many : ℕ) → many ≤ 2 ^ 17 → length base ≡ many → ((x : ℕ) → IsOfBase base x → IsShort x) → IsSound home base cells views state → All (λ n. n < measure_base) (withdraw_measure many state)
state_below home base cells views Rest many few counted short sound = four_below 0 0 0 0 (omega arith) (omega arith) (omega arith) (omega arith)
state_below home base cells views (Chosen x place) many few counted short sound = four_below (many - place) 0 0 0 (omega arith) (omega arith) (omega arith) (omega arith)
state_below home base cells views (Owing x bound) many few counted short sound =
    let fits : x < 2 ^ 64 = short x sound.of_base in
    four_below 0 x bound (2 * many) (omega arith) (omega arith) (omega (arith, sound.within)) (omega arith)
state_below home base cells views (Up x bound place) many few counted short sound =
    let fits : x < 2 ^ 64 = short x sound.owed.of_base in
    four_below 0 x bound (2 * many - place) (omega arith) (omega arith) (omega (arith, sound.owed.within)) (omega arith)
state_below home base cells views (Down x bound place c source) many few counted short sound =
    let fits : x < 2 ^ 64 = short x sound.owed.of_base in
    four_below 0 x bound (place - bound) (omega arith) (omega arith) (omega (arith, sound.owed.within)) (omega (arith, sound.below, sound.within))

size : (many : ℕ) (state : WithdrawState) → length (withdraw_measure many state) ≡ 4
size many Rest = refl
size many (Chosen x place) = refl
size many (Owing x bound) = refl
size many (Up x bound place) = refl
size many (Down x bound place c source) = refl

tab_below : (w : Withdrawing) (id : ℕ) (tab : Withdrawer) → IsShortWithdrawing w → slice_get w.tabs id ≡ Some tab → All (λ n. n < measure_base) (withdraw_measure (count_in w) tab.state)
tab_below w id tab h stands =
    let i = h.holds in
    let views = map view_of w.tabs in
    let cells = cell_words (base_in w) w.words in
    let sound = at_place (λ (t : Withdrawer). IsSound (home_in w) (base_in w) cells views t.state) w.tabs id tab stands
    (All-from_map (λ (view : WithdrawView). IsSound (home_in w) (base_in w) cells views view.state) view_of w.tabs i.invariant.states) in
    let homes : 2 ^ w.bits ≤ 2 ^ 16 = pow_mono i.few_bits in
    let few : w.limit ≤ most_ballots = h.limit in
    let of_base : (x : ℕ) → IsOfBase (base_in w) x → IsShort x = λ x of. All-contains IsShort w.held x h.held (of_base_held w.bits w.salt w.limit w.held i.few_bits i.within_limit i.some i.distinct x of) in
    state_below (home_in w) (base_in w) cells views tab.state (count_in w) (omega arith) (base_layout w.bits w.salt w.limit w.held i.few_bits i.within_limit i.some i.distinct).size of_base sound

pub work_falls : (w : Withdrawing) (id : ℕ) (now : Withdrawing) → IsShortWithdrawing now → Steps w id now → FallsAt w id now → withdraw_work now id < withdraw_work w id
work_falls w id now short s f =
    let same : count_in now ≡ count_in w = ap count_in s.is in
    let before : withdraw_work w id ≡ number_of measure_base (tab_measure (count_in w) f.tab) = ap (λ (o : Option Withdrawer). option_map_or (λ tab. number_of measure_base (tab_measure (count_in w) tab)) o 0) f.stands in
    let after : withdraw_work now id ≡ number_of measure_base (tab_measure (count_in now) f.tab_now) = ap (λ (o : Option Withdrawer). option_map_or (λ tab. number_of measure_base (tab_measure (count_in now) tab)) o 0) f.stands_now in
    let after_same : withdraw_work now id ≡ number_of measure_base (tab_measure (count_in w) f.tab_now) = after ∙ ap (λ n. number_of measure_base (tab_measure n f.tab_now)) same in
    let below = subst (λ many. All (λ n. n < measure_base) (withdraw_measure many f.tab_now.state)) same (tab_below now id f.tab_now short f.stands_now) in
    let sizes : length (tab_measure (count_in w) f.tab_now) ≡ length (tab_measure (count_in w) f.tab) = omega (arith, size (count_in w) f.tab_now.state, size (count_in w) f.tab.state) in
    let less = number_falls measure_base (tab_measure (count_in w) f.tab_now) (tab_measure (count_in w) f.tab) sizes below f.falls in
    subst (λ n. n < withdraw_work w id) (sym after_same) (subst (λ n. number_of measure_base (tab_measure (count_in w) f.tab_now) < n) (sym before) less)
