-- Each row of the table keeps the casting invariant.
use Rattle.std.proofs.Common.{◌≡◌, ◌≢◌, ℕ, ◌+◌, ◌<◌, Some, List, [], ◌∷◌, ◌++◌, length, get_or, set, take, drop, refl, sym, ap, ◌∙◌, subst, arith}
use Rattle.store_spec.proofs.Common.{AreClaimed, AreInOrder, ArePlaced, Carrying, CastInvariant, CastNote, CastRow, CastState, CastView, Claimed, HasMet, HasRoomFor, HasSeen, HoldsOther, IsHand, IsProbing, IsTried, MayStand, Placed, Probing, Ready, Rest, Table, Taken, cast_view_after, claim_met, claim_passed, claim_place, claim_won, claim_word, claims_full, displaces, get_or-drop, get_or-take, hands_of, in_hand, length-set, look_passes, look_ready, lost_passes, lost_ready, set-get_or, slice_get, sum_by, sum_by-append, sum_by-set, take-set-lt, takes_empty}
use Rattle.probe_order.proofs.ClaimOrder.{within}
use Rattle.std.proofs.lemmas.List.{drop-set-add, drop-set-lt, take-set-le}
use Rattle.step_core.specs.CastKept.{KeepsInvariant}
use Rattle.step_core.proofs.CastClaims.{claimed_still, claimed_won, met_claimed, met_full, met_same, met_taken, tried_all, tried_more}
use Rattle.step_core.proofs.CastHands.{cells_size, claims_size, hand_fits, hands-set}
use Rattle.step_core.proofs.CastPlaces.{placed_over, placed_still}
use Rattle.step_core.proofs.SameNumbers.{hold, weigh}
use Rattle.step_core.proofs.Sets.{at_place}
use Rattle.layout_def.proofs.Displaced.{displaced_stands_on, passes_greater, stands_at_home}
use Rattle.store_spec.specs.CastStep.CastNote.{Quiet, Full}

-- ---- the whole invariant from its parts

-- no word changes
pub whole_still : (t : Table) (base words : List ℕ) (views : List CastView) (id : ℕ) (view now : CastView) → CastInvariant t base words views → slice_get views id ≡ Some view → IsHand t.home (take t.cells words) now.state → HasSeen (take t.cells words) now.state → in_hand now.state ≡ in_hand view.state → now.accepted ≡ view.accepted → IsProbing t.claims base (drop t.cells words) now.state → HasMet (drop t.cells words) now → CastInvariant t base words (set views id now)
whole_still t base words views id view now h stands hand seen same accepted probing met = record {
  size = h.size;
  placed = placed_still t.home (take t.cells words) views id now h.placed hand seen;
  owned = hold (λ weight none.
      let change = hands-set weight views id view now stands in
      let kept = ap weight same in
      let before = sum_by-append weight (take t.cells words) (hands_of views) in
      let after = sum_by-append weight (take t.cells words) (hands_of (set views id now)) in
      omega (arith, weigh h.owned weight none));
  claimed = claimed_still t.claims base (drop t.cells words) views id view now stands h.claimed accepted probing met;
}

-- a number takes a cell from a lower one, which the hand takes over
pub whole_cell : (t : Table) (base words : List ℕ) (views : List CastView) (id place : ℕ) (view now : CastView) (v f : ℕ) → CastInvariant t base words views → slice_get views id ≡ Some view → place < t.cells → MayStand t.home (take t.cells words) v place → get_or words place 0 ≡ f → f < v → in_hand view.state ≡ v → in_hand now.state ≡ f → IsHand t.home (set (take t.cells words) place v) now.state → HasSeen (set (take t.cells words) place v) now.state → now.accepted ≡ view.accepted → IsProbing t.claims base (drop t.cells words) now.state → HasMet (drop t.cells words) now → CastInvariant t base (set words place v) (set views id now)
whole_cell t base words views id place view now v f h stands inside may found less holds takes hand seen accepted probing met =
    let cells = take t.cells words in
    let size = cells_size t base words views h in
    let in_cells : place < length cells = omega arith in
    let word : get_or cells place 0 ≡ f = get_or-take t.cells words place 0 inside ∙ found in
    let front : take t.cells (set words place v) ≡ set cells place v = take-set-lt t.cells words place v inside in
    let back : drop t.cells (set words place v) ≡ drop t.cells words = drop-set-lt t.cells words place v inside in
    record {
      size = length-set words place v ∙ h.size;
      placed = subst (λ (c : List ℕ). ArePlaced t.home c (set views id now)) (sym front)
          (placed_over t.home cells views id place v now h.placed may in_cells (let is = word in omega arith) hand seen);
      owned = hold (λ weight none.
          let change = hands-set weight views id view now stands in
          let put = sum_by-set weight cells place v 0 in_cells in
          let was = ap weight word in
          let from = ap weight holds in
          let to = ap weight takes in
          let before = sum_by-append weight cells (hands_of views) in
          let after = sum_by-append weight (take t.cells (set words place v)) (hands_of (set views id now)) in
          let moved = ap (sum_by weight) front in
          let claims = ap (λ (c : List ℕ). sum_by weight (base ++ c)) back in
          omega (arith, weigh h.owned weight none));
      claimed = subst (λ (c : List ℕ). AreClaimed t.claims base c (set views id now)) (sym back)
          (claimed_still t.claims base (drop t.cells words) views id view now stands h.claimed accepted probing met);
    }

-- a claim word is won, and its number comes into the hand
pub whole_claim : (t : Table) (base words : List ℕ) (views : List CastView) (id : ℕ) (view now : CastView) (x k : ℕ) → CastInvariant t base words views → slice_get views id ≡ Some view → IsTried t.claims base (drop t.cells words) x k → get_or words (claim_word t x k) 0 ≡ 0 → in_hand view.state ≡ 0 → now.state ≡ Carrying x (t.home x) → now.accepted ≡ view.accepted ++ x ∷ [] → now.taken ≡ view.taken → now.full ≡ view.full → CastInvariant t base (set words (claim_word t x k) x) (set views id now)
whole_claim t base words views id view now x k h stands tried free empty takes accepted taken full =
    let cells = take t.cells words in
    let claims = drop t.cells words in
    let place = claim_place x k t.claims in
    let many : length claims ≡ t.claims = claims_size t base words views h in
    let left = tried.one_left in
    let inside : place < length claims = let there = within x k t.claims (omega arith) in omega arith in
    let word : get_or claims place 0 ≡ 0 = get_or-drop t.cells words place 0 ∙ free in
    let front : take t.cells (set words (claim_word t x k) x) ≡ cells = take-set-le t.cells words (claim_word t x k) x (omega arith) in
    let back : drop t.cells (set words (claim_word t x k) x) ≡ set claims place x = drop-set-add t.cells words place x in
    let hand : IsHand t.home cells now.state = subst (λ (s : CastState). IsHand t.home cells s) (sym takes) (tried.some, stands_at_home t.home cells x) in
    let seen : HasSeen cells now.state = subst (λ (s : CastState). HasSeen cells s) (sym takes) tt in
    let to : in_hand now.state ≡ x = ap in_hand takes in
    let at = λ (n : ℕ). claim_place x k n in
    let won : AreClaimed t.claims base (set claims place x) (set views id now) =
    subst (λ (n : ℕ). AreClaimed n base (set claims (claim_place x k n) x) (set views id now)) many
    (claimed_won claims base x k
    (subst (λ (n : ℕ). IsTried n base claims x k) (sym many) tried)
    (subst (λ (n : ℕ). AreInOrder n claims) (sym many) h.claimed.in_order)
    (ap (λ p. get_or claims p 0) (ap at many) ∙ word)
    views id view now stands
    (subst (λ (n : ℕ). AreClaimed n base claims views) (sym many) h.claimed)
    accepted taken full
    (subst (λ (s : CastState). IsProbing (length claims) base (set claims (claim_place x k (length claims)) x) s) (sym takes) tt)) in
    record {
      size = length-set words (claim_word t x k) x ∙ h.size;
      placed = subst (λ (c : List ℕ). ArePlaced t.home c (set views id now)) (sym front) (placed_still t.home cells views id now h.placed hand seen);
      owned = hold (λ weight none.
          let change = hands-set weight views id view now stands in
          let put = sum_by-set weight claims place x 0 inside in
          let was = ap weight word in
          let from = ap weight empty in
          let gains = ap weight to in
          let before = sum_by-append weight cells (hands_of views) in
          let after = sum_by-append weight (take t.cells (set words (claim_word t x k) x)) (hands_of (set views id now)) in
          let same = ap (sum_by weight) front in
          let held = sum_by-append weight base claims in
          let claimed = sum_by-append weight base (drop t.cells (set words (claim_word t x k) x)) in
          let moved = ap (sum_by weight) back in
          omega (arith, weigh h.owned weight none));
      claimed = subst (λ (c : List ℕ). AreClaimed t.claims base c (set views id now)) (sym back) won;
    }

-- ---- what a view's state says

pub hand_is : (t : Table) (base words : List ℕ) (views : List CastView) (id : ℕ) (view : CastView) (from : CastState) → CastInvariant t base words views → slice_get views id ≡ Some view → view.state ≡ from → IsHand t.home (take t.cells words) from
hand_is t base words views id view from h stands is =
    subst (λ (s : CastState). IsHand t.home (take t.cells words) s) is
    (at_place (λ (v : CastView). IsHand t.home (take t.cells words) v.state) views id view stands h.placed.hands)

pub seen_is : (t : Table) (base words : List ℕ) (views : List CastView) (id : ℕ) (view : CastView) (from : CastState) → CastInvariant t base words views → slice_get views id ≡ Some view → view.state ≡ from → HasSeen (take t.cells words) from
seen_is t base words views id view from h stands is =
    subst (λ (s : CastState). HasSeen (take t.cells words) s) is
    (at_place (λ (v : CastView). HasSeen (take t.cells words) v.state) views id view stands h.placed.seen)

pub probing_is : (t : Table) (base words : List ℕ) (views : List CastView) (id : ℕ) (view : CastView) (from : CastState) → CastInvariant t base words views → slice_get views id ≡ Some view → view.state ≡ from → IsProbing t.claims base (drop t.cells words) from
probing_is t base words views id view from h stands is =
    subst (λ (s : CastState). IsProbing t.claims base (drop t.cells words) s) is
    (at_place (λ (v : CastView). IsProbing t.claims base (drop t.cells words) v.state) views id view stands h.claimed.probing)

pub met_is : (t : Table) (base words : List ℕ) (views : List CastView) (id : ℕ) (view : CastView) → CastInvariant t base words views → slice_get views id ≡ Some view → HasMet (drop t.cells words) view
met_is t base words views id view h stands = at_place (HasMet (drop t.cells words)) views id view stands h.claimed.met

-- a word that is left as it was found
unchanged : (words : List ℕ) (word found : ℕ) → get_or words word 0 ≡ found → set words word found ≡ words
unchanged words word found is = ap (set words word) (sym is) ∙ set-get_or words word 0

-- ---- the rows

pub keeps_claim_won : (t : Table) (x k : ℕ) → KeepsInvariant t (Probing x k) (claim_word t x k) 0 x (Carrying x (t.home x)) Claimed
keeps_claim_won t x k base words views id view room h stands from found =
    let tried = probing_is t base words views id view (Probing x k) h stands from in
    whole_claim t base words views id view (cast_view_after view x (Carrying x (t.home x)) Claimed) x k h stands tried found (ap in_hand from) refl refl refl refl

-- where the word is left as it was
row_still : (t : Table) (base words : List ℕ) (views : List CastView) (word found : ℕ) (now : List CastView) → get_or words word 0 ≡ found → CastInvariant t base words now → CastInvariant t base (set words word found) now
row_still t base words views word found now is h = subst (λ (w : List ℕ). CastInvariant t base w now) (sym (unchanged words word found is)) h

claim_found : (t : Table) (words : List ℕ) (x k found : ℕ) → get_or words (claim_word t x k) 0 ≡ found → get_or (drop t.cells words) (claim_place x k t.claims) 0 ≡ found
claim_found t words x k found is = get_or-drop t.cells words (claim_place x k t.claims) 0 ∙ is

other_found : (t : Table) (words : List ℕ) (x k found : ℕ) → get_or words (claim_word t x k) 0 ≡ found → found ≢ 0 → found ≢ x → HoldsOther (drop t.cells words) x (claim_place x k t.claims)
other_found t words x k found is some other =
    let word = claim_found t words x k found is in
    record { some = λ e. some (sym word ∙ e); other = λ e. other (sym word ∙ e) }

pub keeps_claim_met : (t : Table) (x k : ℕ) → KeepsInvariant t (Probing x k) (claim_word t x k) x x Rest Taken
keeps_claim_met t x k base words views id view room h stands from found =
    let claims = drop t.cells words in
    let tried = probing_is t base words views id view (Probing x k) h stands from in
    let left = tried.one_left in
    let inside : claim_place x k t.claims < length claims = let there = within x k t.claims (omega arith) in omega (arith, claims_size t base words views h) in
    let claimed = met_claimed claims x (claim_place x k t.claims) tried.some inside (claim_found t words x k x found) in
    let now = cast_view_after view x Rest Taken in
    row_still t base words views (claim_word t x k) x (set views id now) found
    (whole_still t base words views id view now h stands tt tt (sym (ap in_hand from)) refl tt
    (met_taken claims view now x (met_is t base words views id view h stands) claimed refl refl))

pub keeps_claim_passed : (t : Table) (x k f : ℕ) → f ≢ 0 → f ≢ x → k + 1 < t.claims → KeepsInvariant t (Probing x k) (claim_word t x k) f f (Probing x (k + 1)) Quiet
keeps_claim_passed t x k f some other more base words views id view room h stands from found =
    let claims = drop t.cells words in
    let tried = probing_is t base words views id view (Probing x k) h stands from in
    let now = cast_view_after view x (Probing x (k + 1)) Quiet in
    row_still t base words views (claim_word t x k) f (set views id now) found
    (whole_still t base words views id view now h stands tt tt (sym (ap in_hand from)) refl
    (tried_more t.claims base claims x k tried (other_found t words x k f found some other) more)
    (met_same claims view now (met_is t base words views id view h stands) refl refl))

pub keeps_claims_full : (t : Table) (x k f : ℕ) → f ≢ 0 → f ≢ x → k + 1 ≡ t.claims → KeepsInvariant t (Probing x k) (claim_word t x k) f f Rest Full
keeps_claims_full t x k f some other last base words views id view room h stands from found =
    let claims = drop t.cells words in
    let tried = probing_is t base words views id view (Probing x k) h stands from in
    let now = cast_view_after view x Rest Full in
    let all = tried_all t.claims base claims x k tried (other_found t words x k f found some other) last in
    row_still t base words views (claim_word t x k) f (set views id now) found
    (whole_still t base words views id view now h stands tt tt (sym (ap in_hand from)) refl tt
    (met_full claims view now x (met_is t base words views id view h stands)
    (λ place there. all place (omega (arith, claims_size t base words views h))) refl refl))

-- what a hand finds in its cell
inside : (t : Table) (base words : List ℕ) (views : List CastView) (id : ℕ) (view : CastView) (v place : ℕ) → HasRoomFor t base → CastInvariant t base words views → slice_get views id ≡ Some view → in_hand view.state ≡ v → (v ≢ 0) × MayStand t.home (take t.cells words) v place → place < t.cells
inside t base words views id view v place room h stands holds hand = omega (arith, hand_fits t base words views id view v place room h stands holds hand.0 hand.1)

pub keeps_look_passes : (t : Table) (v i f : ℕ) → v < f → KeepsInvariant t (Carrying v i) i f f (Carrying v (i + 1)) Quiet
keeps_look_passes t v i f greater base words views id view room h stands from found =
    let cells = take t.cells words in
    let hand = hand_is t base words views id view (Carrying v i) h stands from in
    let there = inside t base words views id view v i room h stands (ap in_hand from) hand in
    let word : get_or cells i 0 ≡ f = get_or-take t.cells words i 0 there ∙ found in
    let now = cast_view_after view v (Carrying v (i + 1)) Quiet in
    row_still t base words views i f (set views id now) found
    (whole_still t base words views id view now h stands
    (hand.0, passes_greater t.home cells v i hand.1 (omega arith)) tt (sym (ap in_hand from)) refl tt
    (met_same (drop t.cells words) view now (met_is t base words views id view h stands) refl refl))

pub keeps_look_ready : (t : Table) (v i f : ℕ) → f < v → KeepsInvariant t (Carrying v i) i f f (Ready v i f) Quiet
keeps_look_ready t v i f less base words views id view room h stands from found =
    let cells = take t.cells words in
    let hand = hand_is t base words views id view (Carrying v i) h stands from in
    let there = inside t base words views id view v i room h stands (ap in_hand from) hand in
    let word : get_or cells i 0 ≡ f = get_or-take t.cells words i 0 there ∙ found in
    let now = cast_view_after view v (Ready v i f) Quiet in
    row_still t base words views i f (set views id now) found
    (whole_still t base words views id view now h stands hand (less, omega arith) (sym (ap in_hand from)) refl tt
    (met_same (drop t.cells words) view now (met_is t base words views id view h stands) refl refl))

pub keeps_lost_passes : (t : Table) (v i s f : ℕ) → v < f → KeepsInvariant t (Ready v i s) i f f (Carrying v (i + 1)) Quiet
keeps_lost_passes t v i s f greater base words views id view room h stands from found =
    let cells = take t.cells words in
    let hand = hand_is t base words views id view (Ready v i s) h stands from in
    let there = inside t base words views id view v i room h stands (ap in_hand from) hand in
    let word : get_or cells i 0 ≡ f = get_or-take t.cells words i 0 there ∙ found in
    let now = cast_view_after view v (Carrying v (i + 1)) Quiet in
    row_still t base words views i f (set views id now) found
    (whole_still t base words views id view now h stands
    (hand.0, passes_greater t.home cells v i hand.1 (omega arith)) tt (sym (ap in_hand from)) refl tt
    (met_same (drop t.cells words) view now (met_is t base words views id view h stands) refl refl))

pub keeps_lost_ready : (t : Table) (v i s f : ℕ) → f < v → KeepsInvariant t (Ready v i s) i f f (Ready v i f) Quiet
keeps_lost_ready t v i s f less base words views id view room h stands from found =
    let cells = take t.cells words in
    let hand = hand_is t base words views id view (Ready v i s) h stands from in
    let there = inside t base words views id view v i room h stands (ap in_hand from) hand in
    let word : get_or cells i 0 ≡ f = get_or-take t.cells words i 0 there ∙ found in
    let now = cast_view_after view v (Ready v i f) Quiet in
    row_still t base words views i f (set views id now) found
    (whole_still t base words views id view now h stands hand (less, omega arith) (sym (ap in_hand from)) refl tt
    (met_same (drop t.cells words) view now (met_is t base words views id view h stands) refl refl))

pub keeps_takes_empty : (t : Table) (v i : ℕ) → KeepsInvariant t (Ready v i 0) i 0 v Rest Placed
keeps_takes_empty t v i base words views id view room h stands from found =
    let hand = hand_is t base words views id view (Ready v i 0) h stands from in
    let seen = seen_is t base words views id view (Ready v i 0) h stands from in
    let there = inside t base words views id view v i room h stands (ap in_hand from) hand in
    let now = cast_view_after view v Rest Placed in
    whole_cell t base words views id i view now v 0 h stands there hand.1 found seen.0 (ap in_hand from) refl tt tt refl tt
    (met_same (drop t.cells words) view now (met_is t base words views id view h stands) refl refl)

pub keeps_displaces : (t : Table) (v i s : ℕ) → s ≢ 0 → KeepsInvariant t (Ready v i s) i s v (Carrying s (i + 1)) Quiet
keeps_displaces t v i s some base words views id view room h stands from found =
    let cells = take t.cells words in
    let hand = hand_is t base words views id view (Ready v i s) h stands from in
    let seen = seen_is t base words views id view (Ready v i s) h stands from in
    let there = inside t base words views id view v i room h stands (ap in_hand from) hand in
    let word : get_or cells i 0 ≡ s = get_or-take t.cells words i 0 there ∙ found in
    let now = cast_view_after view v (Carrying s (i + 1)) Quiet in
    let onward : MayStand t.home (set cells i v) s (i + 1) = subst (λ (w : ℕ). MayStand t.home (set cells i v) w (i + 1)) word
    (displaced_stands_on t.home cells v i h.placed.ordered (omega (arith, cells_size t base words views h)) (λ z. some (sym word ∙ z)) (let less = seen.0 in omega arith)) in
    whole_cell t base words views id i view now v s h stands there hand.1 found seen.0 (ap in_hand from) refl (some, onward) tt refl tt
    (met_same (drop t.cells words) view now (met_is t base words views id view h stands) refl refl)

pub keeps_row : (t : Table) (from : CastState) (word found left : ℕ) (new : CastState) (note : CastNote) → CastRow t from word found left new note → KeepsInvariant t from word found left new note
keeps_row t from word found left new note (claim_won x k) = keeps_claim_won t x k
keeps_row t from word found left new note (claim_met x k) = keeps_claim_met t x k
keeps_row t from word found left new note (claim_passed x k f some other more) = keeps_claim_passed t x k f some other more
keeps_row t from word found left new note (claims_full x k f some other last) = keeps_claims_full t x k f some other last
keeps_row t from word found left new note (look_passes v i f greater) = keeps_look_passes t v i f greater
keeps_row t from word found left new note (look_ready v i f less) = keeps_look_ready t v i f less
keeps_row t from word found left new note (takes_empty v i) = keeps_takes_empty t v i
keeps_row t from word found left new note (displaces v i s some) = keeps_displaces t v i s some
keeps_row t from word found left new note (lost_passes v i s f lost greater) = keeps_lost_passes t v i s f greater
keeps_row t from word found left new note (lost_ready v i s f lost less) = keeps_lost_ready t v i s f less
