-- What a step of the code asks is known of a casting phase, and what it leaves is a step of the phase.
use Rattle.std.proofs.Common.{◌≡◌, ◌≢◌, ℕ, ◌+◌, ◌<◌, Some, List, [], ◌∷◌, length, get_or, set, map, refl, arith}
use Rattle.store_spec.proofs.Common.{Carrying, CastNote, CastRow, CastState, GoesFrom, Probing, Ready, Rest, Table, cast_act, claim_met, claim_passed, claim_won, claims_full, displaces, look_passes, look_ready, lost_passes, lost_ready, pow_pos, slice_get, takes_empty, word_of}
use Rattle.probe_order.proofs.ClaimOrder.{within}
use Rattle.step_core.proofs.CastSteps.{begins, begun, finds_at, fits_at}
use Rattle.step_core.proofs.CastingSteps.{has_room}
use Rattle.step_core.proofs.Sets.{at_place, stands-map, stands-set}
use Rattle.step_core.specs.CastCore.{HasTried, MayStep, MayTell}
use Rattle.step_core.specs.CastTables.{FitsIn, MayFind}
use Rattle.step_core.specs.Casting.{Casting, Tabulator, next_from, table_in}
use Rattle.step_core.specs.CastingInvariant.{IsCasting, IsNext, IsTabulator, view_of}

-- a row that answers a number goes from one that is tried
pub may_tell : (t : Table) (from : CastState) (word found put : ℕ) (new : CastState) (note : CastNote) (left : List ℕ) → CastRow t from word found put new note → HasTried from left → MayTell note left
may_tell t from word found put new note left (claim_won x k) h = h
may_tell t from word found put new note left (claim_met x k) h = h
may_tell t from word found put new note left (claim_passed x k f some other more) h = tt
may_tell t from word found put new note left (claims_full x k f some other last) h = h
may_tell t from word found put new note left (look_passes v i f greater) h = tt
may_tell t from word found put new note left (look_ready v i f less) h = tt
may_tell t from word found put new note left (takes_empty v i) h = tt
may_tell t from word found put new note left (displaces v i s some) h = tt
may_tell t from word found put new note left (lost_passes v i s f lost greater) h = tt
may_tell t from word found put new note left (lost_ready v i s f lost less) h = tt

-- ---- what is known before a step

goes_moving : (t : Table) (base : List ℕ) (state : CastState) (left : List ℕ) → IsNext t base state left → next_from state left ≢ Rest → GoesFrom t base state (next_from state left)
goes_moving t base Rest [] next moving = absurd (moving refl)
goes_moving t base Rest (x ∷ xs) next moving = (x, next, refl)
goes_moving t base (Probing x k) left next moving = refl
goes_moving t base (Carrying v i) left next moving = refl
goes_moving t base (Ready v i s) left next moving = refl

has_tried : (t : Table) (base : List ℕ) (state : CastState) (left : List ℕ) → IsNext t base state left → HasTried (next_from state left) left
has_tried t base Rest [] next = tt
has_tried t base Rest (x ∷ xs) next = omega arith
has_tried t base (Probing x k) [] next = absurd next
has_tried t base (Probing x k) (y ∷ ys) next = omega arith
has_tried t base (Carrying v i) left next = tt
has_tried t base (Ready v i s) left next = tt

-- a word of a state that fits is one of the words
word_within : (t : Table) (words : List ℕ) (from : CastState) → length words ≡ t.cells + t.claims → 0 < t.cells → FitsIn t from → word_of (cast_act t from) < length words
word_within t words Rest size some fits = omega arith
word_within t words (Probing x k) size some fits = let there = within x k t.claims (omega (arith, fits.1)) in omega arith
word_within t words (Carrying v i) size some fits = omega (arith, fits.1)
word_within t words (Ready v i s) size some fits = omega (arith, fits.1)

-- at rest nothing is asked, and else the view at which the step begins tells it
module _ (c : Casting) (h : IsCasting c) (id : ℕ) (tab : Tabulator) (stands : slice_get c.tabs id ≡ Some tab) where
  fits_from : next_from tab.state tab.left ≢ Rest → FitsIn (table_in c) (next_from tab.state tab.left) × MayFind (next_from tab.state tab.left) (get_or c.words (word_of (cast_act (table_in c) (next_from tab.state tab.left))) 0)
  fits_from moving =
      let t = table_in c in
      let from = next_from tab.state tab.left in
      let views = map view_of c.tabs in
      let view = view_of tab in
      let view_stands : slice_get views id ≡ Some view = stands-map view_of c.tabs id tab stands in
      let own = at_place (IsTabulator t c.base) c.tabs id tab stands h.tabs in
      let goes = goes_moving t c.base tab.state tab.left own.next moving in
      let now = begun view from in
      let before = begins t c.base c.words views id view view.state from h.invariant view_stands refl goes in
      let begun_stands = stands-set views id view now view_stands in
      let room = has_room c h in (
        fits_at t c.base c.words (set views id now) id now room before begun_stands from refl,
        finds_at t c.base c.words (set views id now) id now room before begun_stands from refl moving,
      )

  fits_any : (from : CastState) → (from ≢ Rest → FitsIn (table_in c) from) → FitsIn (table_in c) from
  fits_any Rest fits = tt
  fits_any (Probing x k) fits = fits (λ e. cc)
  fits_any (Carrying v i) fits = fits (λ e. cc)
  fits_any (Ready v i s) fits = fits (λ e. cc)

  pub may_step : MayStep (table_in c) c.words tab
  may_step =
      let t = table_in c in
      let from = next_from tab.state tab.left in
      let own = at_place (IsTabulator t c.base) c.tabs id tab stands h.tabs in
      let fits = fits_any from (λ moving. (fits_from moving).0) in
      let some : 0 < t.cells = let homes = pow_pos c.bits in omega arith in
      record {
        fits = fits;
        finds = λ moving. (fits_from moving).1;
        within = word_within t c.words from h.invariant.size some fits;
        tried = has_tried t c.base tab.state tab.left own.next;
      }
