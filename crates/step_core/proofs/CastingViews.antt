-- What the answers of a step and those that need none do to a tabulator's view.
use Rattle.std.proofs.Common.{◌≡◌, Bool, true, false, ℕ, ◌<◌, Some, List, [], ◌∷◌, ◌++◌, length, set, take, drop, refl, sym, ap, ◌∙◌, subst, arith}
use Rattle.store_spec.proofs.Common.{All, All-append, All-weaker, Answer, CastInvariant, CastNote, CastState, CastView, HasMet, HasSeen, HoldsOther, IsClaimed, IsHand, IsProbing, Met, Rest, Table, append-nil, cast_view_after, is_met_accepted, numbers_that, slice_get}
use Rattle.step_core.proofs.CastHands.{claims_size}
use Rattle.step_core.proofs.CastRows.{met_is, whole_still}
use Rattle.step_core.proofs.CastingAnswers.{All-numbers, IsAtOnce, at_once, numbers-append, numbers-no, numbers-none, numbers-yes}
use Rattle.step_core.proofs.CastingAnswers.IsAtOnce.{is_full_for, is_held}
use Rattle.step_core.specs.Casting.{Tabulator, answers_at_once, first_answered, caught_up, told}
use Rattle.step_core.specs.CastingInvariant.{is_full, is_taken, view_of}
use Rattle.store_spec.specs.CastStep as notes
use Rattle.store_spec.specs.Phase.Met.{Accepted, Taken, Full}

-- ---- the answer of a step

same_view : (state : CastState) (a b c d e f : List ℕ) → a ≡ d → b ≡ e → c ≡ f → (let v : CastView = record { state = state; accepted = a; taken = b; full = c } in v) ≡ (let w : CastView = record { state = state; accepted = d; taken = e; full = f } in w)
same_view state a b c d e f accepted taken full =
    ap (λ (x : List ℕ). (let v : CastView = record { state = state; accepted = x; taken = b; full = c } in v)) accepted
    ∙ ap (λ (x : List ℕ). (let v : CastView = record { state = state; accepted = d; taken = x; full = c } in v)) taken
    ∙ ap (λ (x : List ℕ). (let v : CastView = record { state = state; accepted = d; taken = e; full = x } in v)) full

pushed : (is_such : Met → Bool) (answers : List Answer) (x : ℕ) (met : Met) → is_such met ≡ true → numbers_that is_such (answers ++ record { number = x; met = met } ∷ []) ≡ numbers_that is_such answers ++ x ∷ []
pushed is_such answers x met passes =
    numbers-append is_such answers (record { number = x; met = met } ∷ []) ∙ ap (λ xs. numbers_that is_such answers ++ xs) (numbers-yes is_such (record { number = x; met = met }) [] passes)

passed : (is_such : Met → Bool) (answers : List Answer) (x : ℕ) (met : Met) → is_such met ≡ false → numbers_that is_such (answers ++ record { number = x; met = met } ∷ []) ≡ numbers_that is_such answers
passed is_such answers x met fails =
    numbers-append is_such answers (record { number = x; met = met } ∷ [])
    ∙ ap (λ xs. numbers_that is_such answers ++ xs) (numbers-no is_such (record { number = x; met = met }) [] fails)
    ∙ append-nil (numbers_that is_such answers)

-- a note that answers a number answers the first that is left
abbrev pub AnswersFirst : CastNote → ℕ → List ℕ → Type 0
AnswersFirst notes.Quiet x left = Unit {0}
AnswersFirst notes.Claimed x left = (xs : List ℕ) × (left ≡ x ∷ xs)
AnswersFirst notes.Taken x left = (xs : List ℕ) × (left ≡ x ∷ xs)
AnswersFirst notes.Full x left = (xs : List ℕ) × (left ≡ x ∷ xs)
AnswersFirst notes.Placed x left = Unit {0}

first_is_answered : (met : Met) (answers : List Answer) (x : ℕ) (left xs : List ℕ) → left ≡ x ∷ xs → first_answered met answers left ≡ answers ++ record { number = x; met = met } ∷ []
first_is_answered met answers x left xs e = ap (first_answered met answers) e

-- the view of a tabulator that has answered by a note
pub view_told : (state : CastState) (answers : List Answer) (x : ℕ) (left : List ℕ) (note : CastNote) → AnswersFirst note x left → view_of (told note (record { state = state; answers = answers; left = left })) ≡ cast_view_after (view_of (record { state = state; answers = answers; left = left })) x state note
view_told state answers x left notes.Quiet first = refl
view_told state answers x left notes.Claimed first =
    let is = first_is_answered Accepted answers x left first.0 first.1 in
    same_view state _ _ _ _ _ _
    (ap (numbers_that is_met_accepted) is ∙ pushed is_met_accepted answers x Accepted refl)
    (ap (numbers_that is_taken) is ∙ passed is_taken answers x Accepted refl)
    (ap (numbers_that is_full) is ∙ passed is_full answers x Accepted refl)
view_told state answers x left notes.Taken first =
    let is = first_is_answered Taken answers x left first.0 first.1 in
    same_view state _ _ _ _ _ _
    (ap (numbers_that is_met_accepted) is ∙ passed is_met_accepted answers x Taken refl)
    (ap (numbers_that is_taken) is ∙ pushed is_taken answers x Taken refl)
    (ap (numbers_that is_full) is ∙ passed is_full answers x Taken refl)
view_told state answers x left notes.Full first =
    let is = first_is_answered Full answers x left first.0 first.1 in
    same_view state _ _ _ _ _ _
    (ap (numbers_that is_met_accepted) is ∙ passed is_met_accepted answers x Full refl)
    (ap (numbers_that is_taken) is ∙ passed is_taken answers x Full refl)
    (ap (numbers_that is_full) is ∙ pushed is_full answers x Full refl)
view_told state answers x left notes.Placed first = refl

-- ---- the answers that need no step

not_accepted : (base : List ℕ) (claims x : ℕ) (met : Met) → IsAtOnce base claims x met → is_met_accepted met ≡ false
not_accepted base claims x met (is_held y h) = refl
not_accepted base claims x met (is_full_for y h e) = refl

not_taken : (base : List ℕ) (claims x : ℕ) (met : Met) → IsAtOnce base claims x met → is_taken met ≡ false
not_taken base claims x met (is_held y h) = refl
not_taken base claims x met (is_full_for y h e) = refl

no_claims : (base : List ℕ) (claims x : ℕ) (met : Met) → IsAtOnce base claims x met → is_full met ≡ true → claims ≡ 0
no_claims base claims x met (is_held y h) passes = absurd (let false_is : false ≡ true = passes in cc)
no_claims base claims x met (is_full_for y h e) passes = e

pub none_at_once : (is_such : Met → Bool) (base xs : List ℕ) (claims : ℕ) → ((x : ℕ) (met : Met) → IsAtOnce base claims x met → is_such met ≡ false) → numbers_that is_such (answers_at_once base claims xs) ≡ []
none_at_once is_such base xs claims none =
    numbers-none is_such (answers_at_once base claims xs)
    (All-weaker (λ (a : Answer). IsAtOnce base claims a.number a.met) (λ (a : Answer). is_such a.met ≡ false) (λ a h. none a.number a.met h) (answers_at_once base claims xs) (at_once base claims xs))

same_behind : (is_such : Met → Bool) (answers : List Answer) (base xs : List ℕ) (claims : ℕ) → ((x : ℕ) (met : Met) → IsAtOnce base claims x met → is_such met ≡ false) → numbers_that is_such (answers ++ answers_at_once base claims xs) ≡ numbers_that is_such answers
same_behind is_such answers base xs claims none =
    numbers-append is_such answers (answers_at_once base claims xs)
    ∙ ap (λ ys. numbers_that is_such answers ++ ys) (none_at_once is_such base xs claims none)
    ∙ append-nil (numbers_that is_such answers)

pub caught_up_accepted : (base : List ℕ) (claims : ℕ) (tab : Tabulator) → numbers_that is_met_accepted (caught_up base claims tab).answers ≡ numbers_that is_met_accepted tab.answers
caught_up_accepted base claims tab = same_behind is_met_accepted tab.answers base tab.left claims (not_accepted base claims)

pub caught_up_taken : (base : List ℕ) (claims : ℕ) (tab : Tabulator) → numbers_that is_taken (caught_up base claims tab).answers ≡ numbers_that is_taken tab.answers
caught_up_taken base claims tab = same_behind is_taken tab.answers base tab.left claims (not_taken base claims)

-- where there is a claim word, they add nothing to what met full ones; where there is none, that says nothing
pub caught_up_met : (base words : List ℕ) (tab : Tabulator) → HasMet words (view_of tab) → HasMet words (view_of (caught_up base (length words) tab))
caught_up_met base words tab h =
    let P : ℕ → Type 0 = λ x. (place : ℕ) → place < length words → HoldsOther words x place in
    let more = answers_at_once base (length words) tab.left in
    let full_now : numbers_that is_full (caught_up base (length words) tab).answers ≡ numbers_that is_full tab.answers ++ numbers_that is_full more = numbers-append is_full tab.answers more in
    let vacuous : All P (numbers_that is_full more) = All-numbers is_full P more
    (All-weaker (λ (a : Answer). IsAtOnce base (length words) a.number a.met) (λ (a : Answer). is_full a.met ≡ true → P a.number)
    (λ a once passes place within. absurd (let none = no_claims base (length words) a.number a.met once passes in omega arith))
    more (at_once base (length words) tab.left)) in
    record {
      taken = subst (λ (xs : List ℕ). All (IsClaimed words) xs) (sym (caught_up_taken base (length words) tab)) h.taken;
      full = subst (λ (xs : List ℕ). All P xs) (sym full_now) (All-append P (numbers_that is_full tab.answers) (numbers_that is_full more) h.full vacuous);
    }

-- the casting invariant does not mind them
pub keeps_caught_up : (t : Table) (base words : List ℕ) (views : List CastView) (id : ℕ) (tab : Tabulator) → CastInvariant t base words views → slice_get views id ≡ Some (view_of tab) → tab.state ≡ Rest → CastInvariant t base words (set views id (view_of (caught_up base t.claims tab)))
keeps_caught_up t base words views id tab h stands rests =
    let claims = drop t.cells words in
    let many : length claims ≡ t.claims = claims_size t base words views h in
    let now = view_of (caught_up base t.claims tab) in
    let met : HasMet claims now = subst (λ (n : ℕ). HasMet claims (view_of (caught_up base n tab))) many (caught_up_met base claims tab (met_is t base words views id (view_of tab) h stands)) in
    whole_still t base words views id (view_of tab) now h stands
    (subst (λ (s : CastState). IsHand t.home (take t.cells words) s) (sym rests) tt)
    (subst (λ (s : CastState). HasSeen (take t.cells words) s) (sym rests) tt)
    refl (caught_up_accepted base t.claims tab)
    (subst (λ (s : CastState). IsProbing t.claims base claims s) (sym rests) tt)
    met
