-- What a step leaves of a seat, from what it told and from the table of steps.
use Rattle.std.proofs.Common.{◌≡◌, ℕ, [], refl, sym, ap, ◌∙◌, subst, pos_of_ne-zero}
use Rattle.store_spec.proofs.Common.{Act, CastNote, CastState, CastView, Falls, GoesFrom, Probing, Rest, cast_act, cast_measure, cast_number, cast_view_after, fresh_cast_view, left_by, numbers_in, word_of}
use Rattle.atomic_table.specs.Table.{Allows, Me}
use Rattle.atomic_table.specs.declared.shared.Seat.{Seat}
use Rattle.step_core.proofs.CastBegins.{begins_on}
use Rattle.step_core.specs.CastTables.{BeginsAt, FitsIn, LeadsTo}
use Rattle.step_core.specs.Shape.{table_of}
use Rattle.step_core.specs.declared.shape.Shape.{Shape}
use Rattle.store_spec.specs.CastStep as definition
use Rattle.word_rule.proofs.CastFound.{one_row}
use Rattle.word_rule.proofs.CastKept.{allows, state_after}
use Rattle.word_rule.specs.CastSeats.{IsCast, IsToldAlike, MakesRow, StepsFrom, begins}
use Rattle.word_rule.specs.CastWords.{IsAbout, MayBeginWith, StandsFor}
use Rattle.word_rule.specs.Places.{IsSeat}
use Rattle.word_rule.specs.Seats.{IsSeated, SharedWords, words_of}
use Rattle.word_rule.specs.Steps.{step_of}
use Rattle.word_rule.specs.declared.cast.Standing.{Standing}
use Rattle.word_rule.specs.declared.seats.Known.{Known}
use Rattle.word_rule.specs.declared.seats.Opening.{Opening}

abbrev Here : Type 0
Here = Me (Unit {0}) (Known CastView)

abbrev OneSeat : Type 0
OneSeat = Seat (Unit {0}) (Known CastView)

-- a seat of words has their shape
pub same_shape : (of : SharedWords) (state : CastState) (seat : OneSeat) → IsAbout of state seat → of.shape ≡ seat.me.0.shape
same_shape of state seat about = sym (ap (λ (v : SharedWords). v.shape) about.belongs)

-- the act of a state, as the code has it
pub allows_act : (opening : Opening) (slots id : ℕ) (me : Here) (from : CastState) (shape : Shape) (act : Act) → shape ≡ me.0.shape → act ≡ cast_act (table_of shape) from → me.0.weight ≡ 1 → GoesFrom (table_of me.0.shape) (numbers_in me.0.base) me.0.view.state from → Allows (IsSeated IsCast fresh_cast_view opening) slots id me (word_of act) (left_by act) (StepsFrom from me)
allows_act opening slots id me from shape act same is weight goes =
    subst (λ (a : Act). Allows (IsSeated IsCast fresh_cast_view opening) slots id me (word_of a) (left_by a) (StepsFrom from me))
    (sym (is ∙ ap (λ (s : Shape). cast_act (table_of s) from) same))
    (allows opening slots id me from (λ none. absurd (let one = weight in cc)) goes)

module _ (from : CastState) (me : Here) (found : ℕ) (now : Here) (told : StepsFrom from me found now) where
  view_now : now.0.view ≡ cast_view_after me.0.view (cast_number from) told.new told.note
  view_now = ap (λ (m : Here). m.0.view) told.is

  state_now : now.0.view.state ≡ told.new
  state_now = ap (λ (v : CastView). v.state) view_now ∙ state_after me.0.view (cast_number from) told.new told.note

  -- what the code makes of the word is what the step told
  pub same_end : (shape : Shape) (new : CastState) (note : CastNote) → shape ≡ me.0.shape → FitsIn (table_of me.0.shape) from → LeadsTo (table_of shape) from found new note → (told.new ≡ new) × (told.note ≡ note)
  same_end shape new note same fits leads =
      one_row (table_of me.0.shape) from found told.new new told.note note fits told.leads (subst (λ (s : Shape). LeadsTo (table_of s) from found new note) same leads)

  pub makes_row : (note : CastNote) → told.note ≡ note → MakesRow (table_of me.0.shape) from me.0.view note now.0.view
  makes_row note same =
      subst (λ (n : CastNote). MakesRow (table_of me.0.shape) from me.0.view n now.0.view) same
      (record {
        found = found;
        leads = subst (λ (s : CastState). LeadsTo (table_of me.0.shape) from found s told.note) (sym state_now) told.leads;
        is = view_now ∙ ap (λ (s : CastState). cast_view_after me.0.view (cast_number from) s told.note) (sym state_now);
      })

  pub tells : (note : CastNote) → told.note ≡ note → IsToldAlike me.0.view (cast_number from) note
  tells note same = subst (IsToldAlike me.0.view (cast_number from)) same told.told_alike

  -- the seat is kept
  pub record IsLeft (new : CastState) : Type 0 where
    pub state : new ≡ now.0.view.state
    pub holds_none : now.1 ≡ []
    pub weight : now.0.weight ≡ 1
    pub fits : FitsIn (table_of now.0.shape) now.0.view.state

  pub stays : (new : CastState) → told.new ≡ new → me.1 ≡ [] → me.0.weight ≡ 1 → IsLeft new
  stays new same none weight = record {
    state = sym same ∙ sym state_now;
    holds_none = ap (λ (m : Here). m.1) told.is ∙ none;
    weight = ap (λ (m : Here). m.0.weight) told.is ∙ weight;
    fits = subst (λ (s : Shape). FitsIn (table_of s) now.0.view.state) (sym (ap (λ (m : Here). m.0.shape) told.is))
        (subst (FitsIn (table_of me.0.shape)) (sym state_now) told.fits);
  }

-- what a step from a state leaves of a seat
pub record HasStepped (of : SharedWords) (from : CastState) (seat now : OneSeat) (new : CastState) (note : CastNote) : Type 0 where
  pub about : IsAbout of new now
  pub row : MakesRow (table_of of.shape) from seat.me.0.view note now.me.0.view
  pub told_alike : IsToldAlike seat.me.0.view (cast_number from) note
  pub begins : (first : ℕ) → BeginsAt (table_of of.shape) from first → BeginsAt (table_of of.shape) new first
  pub falls : Falls (cast_measure (table_of of.shape) new) (cast_measure (table_of of.shape) from)

pub has_stepped : (of : SharedWords) (state from : CastState) (seat now : OneSeat) (found : ℕ) (new : CastState) (note : CastNote) → IsAbout of state seat → now.table_id ≡ seat.table_id → FitsIn (table_of of.shape) from → StepsFrom from seat.me found now.me → LeadsTo (table_of of.shape) from found new note → HasStepped of from seat now new note
has_stepped of state from seat now found new note about table fits told leads =
    let same = same_shape of state seat about in
    let own : seat.me.0.shape ≡ of.shape = sym same in
    let end = same_end from seat.me found now.me told of.shape new note same (subst (λ (s : Shape). FitsIn (table_of s) from) same fits) leads in
    let left = stays from seat.me found now.me told new end.0 about.single.holds_none about.single.weight in
    record {
      about = record {
        belongs = ap (λ t. words_of t now.me.0) table ∙ ap (λ (m : Here). words_of seat.table_id m.0) told.is ∙ about.belongs;
        state_is = sym left.state;
        single = record { holds_none = left.holds_none; weight = left.weight };
        fits = subst (λ (s : Shape). FitsIn (table_of s) new) own (subst (FitsIn (table_of seat.me.0.shape)) end.0 told.fits);
      };
      row = subst (λ (s : Shape). MakesRow (table_of s) from seat.me.0.view note now.me.0.view) own (makes_row from seat.me found now.me told note end.1);
      told_alike = tells from seat.me found now.me told note end.1;
      begins = λ first. begins_on (table_of of.shape) from found new note first leads;
      falls = subst (λ (s : Shape). Falls (cast_measure (table_of s) new) (cast_measure (table_of s) from)) own
          (subst (λ (s : CastState). Falls (cast_measure (table_of seat.me.0.shape) s) (cast_measure (table_of seat.me.0.shape) from)) end.0 told.falls);
    }

-- ---- the first step of a number

-- a number that may be begun with at a seat's words
pub may_begin : (of : SharedWords) (seat : OneSeat) (x : ℕ) → words_of seat.table_id seat.me.0 ≡ of → MayBeginWith of x → definition.MayBegin (table_of seat.me.0.shape) (numbers_in seat.me.0.base) x
may_begin of seat x belongs may =
    let own = subst (λ (w : SharedWords). MayBeginWith w x) (sym belongs) may in
    record { some = own.some; not_held = own.not_held; claims = pos_of_ne-zero own.claims }

pub allows_first : (opening : Opening) (slots id : ℕ) (me : Here) (x : ℕ) (shape : Shape) (act : Act) → shape ≡ me.0.shape → act ≡ cast_act (table_of shape) (Probing x 0) → me.0.weight ≡ 1 → me.0.view.state ≡ Rest → definition.MayBegin (table_of me.0.shape) (numbers_in me.0.base) x → Allows (IsSeated IsCast fresh_cast_view opening) slots id me (word_of act) (left_by act) (begins (step_of slots act) me)
allows_first opening slots id me x shape act same is weight rest may =
    let first = cast_act (table_of me.0.shape) (Probing x 0) in
    subst (λ (a : Act). Allows (IsSeated IsCast fresh_cast_view opening) slots id me (word_of a) (left_by a) (begins (step_of slots a) me))
    (sym (is ∙ ap (λ (s : Shape). cast_act (table_of s) (Probing x 0)) same))
    (allows opening slots id me (Probing x 0) (λ none. absurd (let one = weight in cc))
    (subst (λ (s : CastState). GoesFrom (table_of me.0.shape) (numbers_in me.0.base) s (Probing x 0)) (sym rest) (x, may, refl)))

-- a seat that rests, where it rested before, is kept with what it stood for
pub rest_again : (of : SharedWords) (standing : Standing) (seat now : OneSeat) → IsSeat StandsFor standing seat → seat.me.0.view.state ≡ Rest → IsAbout of Rest now → IsSeat StandsFor standing now
rest_again of standing seat now kept rested about = record {
  stands = record {
    state = kept.stands.state ∙ rested ∙ sym about.state_is;
    first = subst (λ (state : CastState). BeginsAt (table_of now.me.0.shape) state standing.first) (sym about.state_is) tt;
    fits = subst (FitsIn (table_of now.me.0.shape)) (sym about.state_is) tt;
  };
  single = about.single;
}
