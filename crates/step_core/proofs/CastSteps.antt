-- Any step keeps the casting invariant, the first step of a number too.
use Rattle.std.proofs.Common.{◌≡◌, ◌≢◌, ℕ, ◌<◌, Some, List, length, get_or, set, take, drop, refl, sym, ap, ◌∙◌, subst, arith}
use Rattle.store_spec.proofs.Common.{Carrying, CastInvariant, CastNote, CastRow, CastState, CastView, Claimed, Contains, Falls, GoesFrom, HasRoomFor, MayStand, Placed, Probing, Ready, Rest, Table, Taken, cast_act, cast_measure, cast_number, cast_view_after, claim_met, claim_passed, claim_won, claims_full, displaces, get_or-take, get_or_default, get_or_from_slice_get, in_hand, look_passes, look_ready, lost_passes, lost_ready, set-get_or, slice_get, takes_empty, word_of}
use Rattle.std.proofs.lemmas.List.{set-set}
use Rattle.step_core.proofs.CastHands.{cells_size, hand_fits, hand_nowhere}
use Rattle.step_core.proofs.CastMeasure.{IsSteady, measure_falls}
use Rattle.step_core.proofs.CastRows.{hand_is, keeps_row, met_is, probing_is, seen_is, whole_still}
use Rattle.step_core.proofs.CastClaims.{met_same}
use Rattle.step_core.proofs.Sets.{stands-set}
use Rattle.step_core.specs.CastTables.{FitsIn, MayFind}
use Rattle.store_spec.specs.CastStep.{CastStep}
use Rattle.store_spec.specs.CastStep.CastNote.{Quiet, Full}

-- the word of a row is that of the state's act
pub word_of_row : (t : Table) (from : CastState) (word found left : ℕ) (new : CastState) (note : CastNote) → CastRow t from word found left new note → word ≡ word_of (cast_act t from)
word_of_row t from word found left new note (claim_won x k) = refl
word_of_row t from word found left new note (claim_met x k) = refl
word_of_row t from word found left new note (claim_passed x k f some other more) = refl
word_of_row t from word found left new note (claims_full x k f some other last) = refl
word_of_row t from word found left new note (look_passes v i f greater) = refl
word_of_row t from word found left new note (look_ready v i f less) = refl
word_of_row t from word found left new note (takes_empty v i) = refl
word_of_row t from word found left new note (displaces v i s some) = refl
word_of_row t from word found left new note (lost_passes v i s f lost greater) = refl
word_of_row t from word found left new note (lost_ready v i s f lost less) = refl

-- the view as it is when its step begins
abbrev pub begun : CastView → CastState → CastView
begun view from = record view { state = from }

-- it goes on from its own state
begun_same : (views : List CastView) (id : ℕ) (view : CastView) (from : CastState) → slice_get views id ≡ Some view → from ≡ view.state → set views id (begun view from) ≡ views
begun_same views id view from stands same =
    let own : begun view from ≡ get_or views id view = ap (begun view) same ∙ sym (get_or_from_slice_get views id view view stands) in
    ap (set views id) own ∙ set-get_or views id view

pub begins : (t : Table) (base words : List ℕ) (views : List CastView) (id : ℕ) (view : CastView) (state from : CastState) → CastInvariant t base words views → slice_get views id ≡ Some view → view.state ≡ state → GoesFrom t base state from → CastInvariant t base words (set views id (begun view from))
begins t base words views id view Rest from h stands is goes =
    let x = goes.0 in
    let may = goes.1 in
    let now = begun view (Probing x 0) in
    subst (λ (s : CastState). CastInvariant t base words (set views id (begun view s))) (sym goes.2)
    (whole_still t base words views id view now h stands tt tt (sym (ap in_hand is)) refl
    (record { some = may.some; not_held = may.not_held; one_left = may.claims; others = λ before lt. absurd (omega arith) })
    (met_same (drop t.cells words) view now (met_is t base words views id view h stands) refl refl))
begins t base words views id view (Probing x k) from h stands is goes = subst (CastInvariant t base words) (sym (begun_same views id view from stands (goes ∙ sym is))) h
begins t base words views id view (Carrying v i) from h stands is goes = subst (CastInvariant t base words) (sym (begun_same views id view from stands (goes ∙ sym is))) h
begins t base words views id view (Ready v i s) from h stands is goes = subst (CastInvariant t base words) (sym (begun_same views id view from stands (goes ∙ sym is))) h

after_begun : (view : CastView) (from : CastState) (number : ℕ) (new : CastState) (note : CastNote) → cast_view_after (begun view from) number new note ≡ cast_view_after view number new note
after_begun view from number new Quiet = refl
after_begun view from number new Claimed = refl
after_begun view from number new Taken = refl
after_begun view from number new Full = refl
after_begun view from number new Placed = refl

pub keeps_step : (t : Table) (base words : List ℕ) (views : List CastView) (id : ℕ) (now : List ℕ) (views_now : List CastView) → HasRoomFor t base → CastInvariant t base words views → CastStep t base words views id now views_now → CastInvariant t base now views_now
keeps_step t base words views id now views_now room h s =
    let view = s.view in
    let from = s.from in
    let begun_views = set views id (begun view from) in
    let before = begins t base words views id view view.state from h s.acts refl s.goes in
    let after = keeps_row t from s.word (get_or words s.word 0) s.left s.new s.note s.row base words begun_views id (begun view from) room before
    (stands-set views id view (begun view from) s.acts) refl refl in
    let same : set begun_views id (cast_view_after (begun view from) (cast_number from) s.new s.note) ≡ views_now =
    set-set views id (begun view from) (cast_view_after (begun view from) (cast_number from) s.new s.note)
    ∙ ap (set views id) (after_begun view from (cast_number from) s.new s.note)
    ∙ sym s.view_now in
    subst (λ (w : List ℕ). CastInvariant t base w views_now) (sym s.words_now)
    (subst (λ (vs : List CastView). CastInvariant t base (set words s.word s.left) vs) same after)

-- ---- what the state of a step allows

cell_found : (t : Table) (words : List ℕ) (place : ℕ) → place < t.cells → length (take t.cells words) ≡ t.cells → Contains (take t.cells words) (get_or words place 0)
cell_found t words place there size =
    let in_cells : place < length (take t.cells words) = omega arith in
    let word = get_or-take t.cells words place 0 there in
    (place, in_cells, get_or_default (take t.cells words) place (get_or words place 0) 0 in_cells ∙ word)

module _ (t : Table) (base words : List ℕ) (views : List CastView) (id : ℕ) (view : CastView) (room : HasRoomFor t base) (h : CastInvariant t base words views) (stands : slice_get views id ≡ Some view) where
  hand_there : (v place : ℕ) → in_hand view.state ≡ v → (v ≢ 0) × MayStand t.home (take t.cells words) v place → place < t.cells
  hand_there v place holds hand = omega (arith, hand_fits t base words views id view v place room h stands holds hand.0 hand.1)

  hand_apart : (v place : ℕ) → in_hand view.state ≡ v → (v ≢ 0) × MayStand t.home (take t.cells words) v place → get_or words place 0 ≢ v
  hand_apart v place holds hand same =
      hand_nowhere t base words views id view v h stands holds hand.0
      (subst (λ (w : ℕ). Contains (take t.cells words) w) same (cell_found t words place (hand_there v place holds hand) (cells_size t base words views h)))

  pub fits_at : (from : CastState) → view.state ≡ from → FitsIn t from
  fits_at Rest is = tt
  fits_at (Probing x k) is = let tried = probing_is t base words views id view (Probing x k) h stands is in (tried.some, tried.one_left)
  fits_at (Carrying v i) is = let hand = hand_is t base words views id view (Carrying v i) h stands is in (hand.0, hand_there v i (ap in_hand is) hand)
  fits_at (Ready v i s) is = let hand = hand_is t base words views id view (Ready v i s) h stands is in (hand.0, hand_there v i (ap in_hand is) hand)

  pub finds_at : (from : CastState) → view.state ≡ from → from ≢ Rest → MayFind from (get_or words (word_of (cast_act t from)) 0)
  finds_at Rest is moving = moving refl
  finds_at (Probing x k) is moving = tt
  finds_at (Carrying v i) is moving = hand_apart v i (ap in_hand is) (hand_is t base words views id view (Carrying v i) h stands is)
  finds_at (Ready v i s) is moving = hand_apart v i (ap in_hand is) (hand_is t base words views id view (Ready v i s) h stands is)

  pub steady_at : (from : CastState) → view.state ≡ from → IsSteady t from (get_or words (word_of (cast_act t from)) 0)
  steady_at Rest is = tt
  steady_at (Probing x k) is = (fits_at (Probing x k) is).1
  steady_at (Carrying v i) is = (fits_at (Carrying v i) is).1
  steady_at (Ready v i s) is =
      let seen = seen_is t base words views id view (Ready v i s) h stands is in
      let there = (fits_at (Ready v i s) is).1 in
      (there, seen.0, let less = seen.1 in omega (arith, get_or-take t.cells words i 0 there))

  pub falls_at : (word left : ℕ) (new : CastState) (note : CastNote) → CastRow t view.state word (get_or words word 0) left new note → Falls (cast_measure t new) (cast_measure t view.state)
  falls_at word left new note row =
      let at = word_of_row t view.state word (get_or words word 0) left new note row in
      measure_falls t view.state word (get_or words word 0) left new note row
      (subst (λ (w : ℕ). IsSteady t view.state (get_or words w 0)) (sym at) (steady_at view.state refl))
