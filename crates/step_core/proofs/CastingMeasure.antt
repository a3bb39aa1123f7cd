-- The measure of the acting tabulator falls at each step, and what holds at the opening holds after every schedule.
use Rattle.std.proofs.Common.{◌≡◌, ℕ, ◌<◌, ◌≤◌, inl, inr, ⊎_elim, Some, List, [], ◌∷◌, length, get_or, set, drop, map, refl, sym, subst, arith}
use Rattle.store_spec.proofs.Common.{Carrying, CastNote, CastRow, CastState, Falls, Probing, Ready, Rest, Table, cases_lt, cast_measure, claim_met, claim_passed, claim_won, claims_full, displaces, length-drop, look_passes, look_ready, lost_passes, lost_ready, slice_get, takes_empty}
use Rattle.step_core.proofs.CastSteps.{begins, begun, falls_at}
use Rattle.step_core.proofs.CastingSteps.{goes_from, has_room, no_row, told_state}
use Rattle.step_core.proofs.Sets.{at_place, stands-map, stands-set}
use Rattle.step_core.specs.Casting.{Casting, Steps, Tabulator, after_step, answers_at_once, next_from, table_in}
use Rattle.step_core.specs.CastingInvariant.{FallsAt, IsCasting, IsTabulator, not_begun, view_of}

-- ---- the numbers that were not begun

no_more : (n : ℕ) (left : List ℕ) → length (drop n left) ≤ length left
no_more n left = omega (arith, length-drop n left)

-- after a row they are no more than before it, without the one that was begun by it
begun_fewer : (t : Table) (base : List ℕ) (tab : Tabulator) (from : CastState) (word found put : ℕ) (new : CastState) (note : CastNote) → CastRow t from word found put new note → not_begun (after_step base t.claims tab new note).state (length (after_step base t.claims tab new note).left) ≤ not_begun from (length tab.left)
begun_fewer t base tab from word found put new note (claim_won x k) = omega (arith, length-drop 1 tab.left)
begun_fewer t base tab from word found put new note (claim_met x k) =
    let rest = drop 1 tab.left in
    omega (arith, no_more (length (answers_at_once base t.claims rest)) rest, length-drop 1 tab.left)
begun_fewer t base tab from word found put new note (claim_passed x k f some other more) = omega arith
begun_fewer t base tab from word found put new note (claims_full x k f some other last) =
    let rest = drop 1 tab.left in
    omega (arith, no_more (length (answers_at_once base t.claims rest)) rest, length-drop 1 tab.left)
begun_fewer t base tab from word found put new note (look_passes v i f greater) = omega arith
begun_fewer t base tab from word found put new note (look_ready v i f less) = omega arith
begun_fewer t base tab from word found put new note (takes_empty v i) = no_more (length (answers_at_once base t.claims tab.left)) tab.left
begun_fewer t base tab from word found put new note (displaces v i s some) = omega arith
begun_fewer t base tab from word found put new note (lost_passes v i s f lost greater) = omega arith
begun_fewer t base tab from word found put new note (lost_ready v i s f lost less) = omega arith

after_state : (base : List ℕ) (claims : ℕ) (tab : Tabulator) (new : CastState) (note : CastNote) → (after_step base claims tab new note).state ≡ new
after_state base claims tab Rest note = told_state note (record tab { state = Rest })
after_state base claims tab (Probing x k) note = told_state note (record tab { state = Probing x k })
after_state base claims tab (Carrying v i) note = told_state note (record tab { state = Carrying v i })
after_state base claims tab (Ready v i s) note = told_state note (record tab { state = Ready v i s })

lexical : (n b : ℕ) (now before : List ℕ) → n ≤ b → Falls now before → Falls (n ∷ now) (b ∷ before)
lexical n b now before le falls = ⊎_elim (λ (less : n < b). inl less) (λ (same : b ≤ n). inr (omega arith, falls)) (cases_lt n b)

-- at rest a step begins a number, and else its own state's measure falls
falls_by : (t : Table) (base : List ℕ) (state : CastState) (left : List ℕ) (n : ℕ) (now : List ℕ) (word found put : ℕ) (new : CastState) (note : CastNote) → CastRow t (next_from state left) word found put new note → n ≤ not_begun (next_from state left) (length left) → Falls now (cast_measure t (next_from state left)) → Falls (n ∷ now) (not_begun state (length left) ∷ cast_measure t state)
falls_by t base Rest [] n now word found put new note row le falls = absurd (no_row t word found put new note row)
falls_by t base Rest (x ∷ xs) n now word found put new note row le falls = inl (omega arith)
falls_by t base (Probing x k) left n now word found put new note row le falls = lexical n _ now _ le falls
falls_by t base (Carrying v i) left n now word found put new note row le falls = lexical n _ now _ le falls
falls_by t base (Ready v i s) left n now word found put new note row le falls = lexical n _ now _ le falls

pub steps_fall : (c : Casting) (id : ℕ) (now : Casting) → IsCasting c → Steps c id now → FallsAt c id now
steps_fall c id now h s =
    let t = table_in c in
    let tab = s.tab in
    let from = next_from tab.state tab.left in
    let views = map view_of c.tabs in
    let view = view_of tab in
    let stands : slice_get views id ≡ Some view = stands-map view_of c.tabs id tab s.acts in
    let own = at_place (IsTabulator t c.base) c.tabs id tab s.acts h.tabs in
    let found = get_or c.words s.word 0 in
    let goes = goes_from t c.base tab.state tab.left s.word found s.left s.new s.note own.next s.row in
    let begun_view = begun view from in
    let before = begins t c.base c.words views id view view.state from h.invariant stands refl goes in
    let falls = falls_at t c.base c.words (set views id begun_view) id begun_view (has_room c h) before (stands-set views id view begun_view stands) s.word s.left s.new s.note s.row in
    let end = after_step c.base t.claims tab s.new s.note in
    let state = after_state c.base t.claims tab s.new s.note in
    let fall_now : Falls (cast_measure t end.state) (cast_measure t from) = subst (λ (st : CastState). Falls (cast_measure t st) (cast_measure t from)) (sym state) falls in
    subst (FallsAt c id) (sym s.is) (record {
      tab = tab;
      stands = s.acts;
      tab_now = end;
      stands_now = stands-set c.tabs id tab end s.acts;
      falls = falls_by t c.base tab.state tab.left (not_begun end.state (length end.left)) (cast_measure t end.state) s.word found s.left s.new s.note s.row
          (begun_fewer t c.base tab from s.word found s.left s.new s.note s.row) fall_now;
    })
