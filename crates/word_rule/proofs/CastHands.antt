-- What a step from a hand leads to, and what is left of the steps until it is empty.
use Rattle.std.proofs.Common.{◌≡◌, ◌≢◌, ℕ, suc, ◌+◌, ◌-◌, ◌*◌, ◌<◌, ◌≤◌, inl, inr, [], ◌∷◌, refl, sym, ap, ◌∙◌, subst, arith}
use Rattle.store_spec.proofs.Common.{Carrying, CastNote, CastRow, CastState, CastView, Claimed, Falls, Placed, Probing, Ready, Rest, Table, Taken, cast_measure, cast_number, cast_view_after, claim_met, claim_passed, claim_won, claims_full, displaces, look_passes, look_ready, lost_passes, lost_ready, mul-le-mul_right, takes_empty}
use Rattle.store_spec.specs.CastStep.CastNote.{Quiet, Full}
use Rattle.word_rule.specs.CastSeats.{MakesNextRow, MakesRow}
use Rattle.word_rule.specs.Chain.{Rows}
use Rattle.word_rule.specs.Chain.Rows.{one_more}

-- Nothing is in hand, or a number that is not above another one, and is above the word that was seen for it.
abbrev pub IsHeld : ℕ → CastState → Type 0
IsHeld top Rest = Unit {0}
IsHeld top (Probing x k) = ⊥
IsHeld top (Carrying v i) = v ≤ top
IsHeld top (Ready v i s) = (v ≤ top) × (s < v)

-- a number is in hand again, or all are placed
abbrev pub IsHandAfter : ℕ → CastState → CastNote → Type 0
IsHandAfter top new Quiet = IsHeld top new
IsHandAfter top new Claimed = ⊥
IsHandAfter top new Taken = ⊥
IsHandAfter top new Full = ⊥
IsHandAfter top new Placed = new ≡ Rest

row_from_hand : (t : Table) (top : ℕ) (from : CastState) (word found left : ℕ) (new : CastState) (note : CastNote) → CastRow t from word found left new note → IsHeld top from → IsHandAfter top new note
row_from_hand t top from word found left new note (claim_won x k) h = absurd h
row_from_hand t top from word found left new note (claim_met x k) h = absurd h
row_from_hand t top from word found left new note (claim_passed x k f some other more) h = absurd h
row_from_hand t top from word found left new note (claims_full x k f some other last) h = absurd h
row_from_hand t top from word found left new note (look_passes v i f greater) h = h
row_from_hand t top from word found left new note (look_ready v i f less) h = (h, less)
row_from_hand t top from word found left new note (takes_empty v i) h = refl
row_from_hand t top from word found left new note (displaces v i s some) h = omega (arith, h.0, h.1)
row_from_hand t top from word found left new note (lost_passes v i s f lost greater) h = h.0
row_from_hand t top from word found left new note (lost_ready v i s f lost less) h = (h.0, less)

held_after : (top : ℕ) (new : CastState) (note : CastNote) → IsHandAfter top new note → IsHeld top new
held_after top new Quiet h = h
held_after top new Claimed h = absurd h
held_after top new Taken h = absurd h
held_after top new Full h = absurd h
held_after top new Placed h = subst (IsHeld top) (sym h) tt

lists_stay : (top number : ℕ) (old now : CastView) (note : CastNote) → now ≡ cast_view_after old number now.state note → IsHandAfter top now.state note → now ≡ record old { state = now.state }
lists_stay top number old now Quiet is h = is
lists_stay top number old now Claimed is h = absurd h
lists_stay top number old now Taken is h = absurd h
lists_stay top number old now Full is h = absurd h
lists_stay top number old now Placed is h = is

-- ---- the measure

-- the cells that are left, and then the room between the word seen and the number, in one number
abbrev pub work_left : ℕ → Table → CastState → ℕ
work_left top t Rest = 0
work_left top t (Probing x k) = 0
work_left top t (Carrying v i) = (t.cells - i) * (top + 2) + (v + 1)
work_left top t (Ready v i s) = (t.cells - i) * (top + 2) + (v - s)

digits_fall : (base cells rest cells_now rest_now : ℕ) → rest_now < base → Falls (0 ∷ cells_now ∷ rest_now ∷ []) (0 ∷ cells ∷ rest ∷ []) → cells_now * base + rest_now < cells * base + rest
digits_fall base cells rest cells_now rest_now small (inl less) = absurd (omega arith)
digits_fall base cells rest cells_now rest_now small (inr (same, inl less)) =
    let more : suc cells_now * base ≤ cells * base = mul-le-mul_right base less in
    omega (arith, more)
digits_fall base cells rest cells_now rest_now small (inr (same, inr (equal, inl less))) =
    let as_many : cells_now * base ≡ cells * base = ap (λ n. n * base) equal in
    omega (arith, as_many)
digits_fall base cells rest cells_now rest_now small (inr (same, inr (equal, inr (alike, none)))) = absurd none

work_falls : (top : ℕ) (t : Table) (old now : CastState) → old ≢ Rest → IsHeld top old → IsHeld top now → Falls (cast_measure t now) (cast_measure t old) → work_left top t now < work_left top t old
work_falls top t Rest now moving h k falls = absurd (moving refl)
work_falls top t (Probing x n) now moving h k falls = absurd h
work_falls top t (Carrying v i) Rest moving h k falls = omega arith
work_falls top t (Carrying v i) (Probing x n) moving h k falls = absurd k
work_falls top t (Carrying v i) (Carrying w j) moving h k falls = digits_fall (top + 2) (t.cells - i) (v + 1) (t.cells - j) (w + 1) (omega arith) falls
work_falls top t (Carrying v i) (Ready w j r) moving h k falls = digits_fall (top + 2) (t.cells - i) (v + 1) (t.cells - j) (w - r) (omega (arith, k.0)) falls
work_falls top t (Ready v i s) Rest moving h k falls = omega (arith, h.1)
work_falls top t (Ready v i s) (Probing x n) moving h k falls = absurd k
work_falls top t (Ready v i s) (Carrying w j) moving h k falls = digits_fall (top + 2) (t.cells - i) (v - s) (t.cells - j) (w + 1) (omega arith) falls
work_falls top t (Ready v i s) (Ready w j r) moving h k falls = digits_fall (top + 2) (t.cells - i) (v - s) (t.cells - j) (w - r) (omega (arith, k.0)) falls

-- ---- a step with a number in hand

-- a row from the state that a view has is one from that view
pub next_row : (t : Table) (from : CastState) (old now : CastView) (note : CastNote) → old.state ≡ from → MakesRow t from old note now → MakesNextRow t old note now
next_row t from old now note is row = subst (λ (s : CastState). MakesRow t s old note now) (sym is) row

-- the lists are those of before, one row more was made, and less is left to do
pub record HasMoved (t : Table) (top : ℕ) (first : CastView) (from new : CastState) (now : CastView) : Type 0 where
  pub held : IsHeld top new
  pub lists : now ≡ record first { state = new }
  pub rows : Rows (MakesNextRow t) first now
  pub falls : work_left top t new < work_left top t from

pub has_moved : (t : Table) (top : ℕ) (first old now : CastView) (from new : CastState) (note : CastNote) → from ≢ Rest → IsHeld top from → old ≡ record first { state = from } → Rows (MakesNextRow t) first old → MakesRow t from old note now → now.state ≡ new → Falls (cast_measure t new) (cast_measure t from) → HasMoved t top first from new now
has_moved t top first old now from new note moving h lists rows row state falls =
    let after = row_from_hand t top from _ row.found _ now.state note row.leads h in
    let held = subst (IsHeld top) state (held_after top now.state note after) in
    record {
      held = held;
      lists = lists_stay top _ old now note row.is after
          ∙ ap (λ (v : CastView). record v { state = now.state }) lists
          ∙ ap (λ (s : CastState). record first { state = s }) state;
      rows = one_more old now note rows (next_row t from old now note (ap (λ (v : CastView). v.state) lists) row);
      falls = work_falls top t from new moving h held falls;
    }

-- a number in hand, to begin with
pub held_first : (number place : ℕ) (state : CastState) → state ≡ Carrying number place → IsHeld (cast_number state) state
held_first number place state is = subst (λ (s : CastState). IsHeld (cast_number s) s) (sym is) (omega arith)
