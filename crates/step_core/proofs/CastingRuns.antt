-- Whole schedules of a casting phase: what a step finds decides the rest of its row, so that a schedule has one run.
use Rattle.std.proofs.Common.{◌≡◌, ◌≢◌, if◌then◌else◌, ◌==◌, ℕ, ◌+◌, ◌<◌, List, get_or, set, Option, Some, refl, sym, ap, ◌∙◌, subst, arith}
use Rattle.store_spec.proofs.Common.{Carrying, CastNote, CastRow, CastState, Claimed, IsSomeAnd, Placed, Probing, Ready, Rest, Table, Taken, claim_met, claim_passed, claim_won, claim_word, claims_full, cond-false, cond-true, displaces, eq-eqb, le-ltb, look_passes, look_ready, lost_passes, lost_ready, lt-ltb, nat_lt, ne_eqb, slice_get, takes_empty}
use Rattle.step_core.proofs.CastSteps.{word_of_row}
use Rattle.step_core.proofs.CastingSteps.{no_row, steps_keep}
use Rattle.step_core.proofs.CoreSteps.{may_step}
use Rattle.step_core.proofs.Schedules as schedules
use Rattle.step_core.specs.CastTables.{FitsIn}
use Rattle.step_core.specs.Casting.{Casting, IsDone, IsDoneAt, Runs, Steps, Tabulator, after_step, next_from, table_in}
use Rattle.step_core.specs.CastingInvariant.{IsCasting}
use Rattle.store_spec.specs.CastStep.CastNote.{Quiet, Full}

-- ---- the rows as a function of the state and the word that is found

-- the rest of a row
record Outcome : Type 0 where
  word : ℕ
  left : ℕ
  new : CastState
  note : CastNote

abbrev leaves : ℕ → ℕ → CastState → CastNote → Outcome
leaves word left new note = record { word = word; left = left; new = new; note = note }

abbrev after_look : ℕ → ℕ → ℕ → Outcome
after_look v i found = if nat_lt v found then leaves i found (Carrying v (i + 1)) Quiet else leaves i found (Ready v i found) Quiet

abbrev after_won : ℕ → ℕ → ℕ → Outcome
after_won v i s = if s == 0 then leaves i v Rest Placed else leaves i v (Carrying s (i + 1)) Quiet

abbrev after_passed : Table → ℕ → ℕ → ℕ → Outcome
after_passed t x k found = if nat_lt (k + 1) t.claims then leaves (claim_word t x k) found (Probing x (k + 1)) Quiet else leaves (claim_word t x k) found Rest Full

abbrev after_other : Table → ℕ → ℕ → ℕ → Outcome
after_other t x k found = if found == x then leaves (claim_word t x k) found Rest Taken else after_passed t x k found

abbrev outcome : Table → CastState → ℕ → Outcome
outcome t Rest found = leaves 0 found Rest Quiet
outcome t (Probing x k) found = if found == 0 then leaves (claim_word t x k) x (Carrying x (t.home x)) Claimed else after_other t x k found
outcome t (Carrying v i) found = after_look v i found
outcome t (Ready v i s) found = if found == s then after_won v i s else after_look v i found

passes : (v i found : ℕ) → v < found → leaves i found (Carrying v (i + 1)) Quiet ≡ after_look v i found
passes v i found less = sym (cond-true (nat_lt v found) _ _ (lt-ltb v found less))

stops : (v i found : ℕ) → found < v → leaves i found (Ready v i found) Quiet ≡ after_look v i found
stops v i found less = sym (cond-false (nat_lt v found) _ _ (le-ltb v found (omega arith)))

won : (t : Table) (v i s : ℕ) → after_won v i s ≡ outcome t (Ready v i s) s
won t v i s = sym (cond-true (s == s) _ _ (eq-eqb s s refl))

lost : (t : Table) (v i s found : ℕ) → found ≢ s → after_look v i found ≡ outcome t (Ready v i s) found
lost t v i s found other = sym (cond-false (found == s) _ _ (ne_eqb found s other))

some_word : (t : Table) (x k found : ℕ) → found ≢ 0 → after_other t x k found ≡ outcome t (Probing x k) found
some_word t x k found some = sym (cond-false (found == 0) _ _ (ne_eqb found 0 some))

other_word : (t : Table) (x k found : ℕ) → found ≢ x → after_passed t x k found ≡ after_other t x k found
other_word t x k found other = sym (cond-false (found == x) _ _ (ne_eqb found x other))

row_outcome : (t : Table) (from : CastState) (word found left : ℕ) (new : CastState) (note : CastNote) → FitsIn t from → CastRow t from word found left new note → leaves word left new note ≡ outcome t from found
row_outcome t from word found left new note fits (claim_won x k) = refl
row_outcome t from word found left new note fits (claim_met x k) =
    sym (cond-true (x == x) _ _ (eq-eqb x x refl)) ∙ some_word t x k x fits.0
row_outcome t from word found left new note fits (claim_passed x k f some other more) =
    sym (cond-true (nat_lt (k + 1) t.claims) _ _ (lt-ltb (k + 1) t.claims more)) ∙ other_word t x k f other ∙ some_word t x k f some
row_outcome t from word found left new note fits (claims_full x k f some other last) =
    sym (cond-false (nat_lt (k + 1) t.claims) _ _ (le-ltb (k + 1) t.claims (omega arith))) ∙ other_word t x k f other ∙ some_word t x k f some
row_outcome t from word found left new note fits (look_passes v i f greater) = passes v i f greater
row_outcome t from word found left new note fits (look_ready v i f less) = stops v i f less
row_outcome t from word found left new note fits (takes_empty v i) = won t v i 0
row_outcome t from word found left new note fits (displaces v i s some) = sym (cond-false (s == 0) _ _ (ne_eqb s 0 some)) ∙ won t v i s
row_outcome t from word found left new note fits (lost_passes v i s f other greater) = passes v i f greater ∙ lost t v i s f other
row_outcome t from word found left new note fits (lost_ready v i s f other less) = stops v i f less ∙ lost t v i s f other

-- ---- one step

same_tab : (c : Casting) (id : ℕ) (s t : Tabulator) → slice_get c.tabs id ≡ Some s → slice_get c.tabs id ≡ Some t → s ≡ t
same_tab c id s t e f = cc

one_step : (c a b : Casting) (id : ℕ) → IsCasting c → Steps c id a → Steps c id b → a ≡ b
one_step c a b id h s u =
    let t = table_in c in
    let from = next_from s.tab.state s.tab.left in
    let fits = (may_step c h id s.tab s.acts).fits in
    let tabs : u.tab ≡ s.tab = same_tab c id u.tab s.tab u.acts s.acts in
    let second = subst (λ (v : Tabulator). CastRow t (next_from v.state v.left) u.word (get_or c.words u.word 0) u.left u.new u.note) tabs u.row in
    let word : u.word ≡ s.word = word_of_row t from u.word (get_or c.words u.word 0) u.left u.new u.note second ∙ sym (word_of_row t from s.word (get_or c.words s.word 0) s.left s.new s.note s.row) in
    let there = subst (λ (w : ℕ). CastRow t from w (get_or c.words w 0) u.left u.new u.note) word second in
    let same : leaves s.word s.left s.new s.note ≡ leaves s.word u.left u.new u.note =
    row_outcome t from s.word (get_or c.words s.word 0) s.left s.new s.note fits s.row ∙ sym (row_outcome t from s.word (get_or c.words s.word 0) u.left u.new u.note fits there) in
    let now : Outcome → Tabulator → Casting = λ o tab. record c { words = set c.words o.word o.left; tabs = set c.tabs id (after_step c.base t.claims tab o.new o.note) } in
    s.is
    ∙ ap (λ o. now o s.tab) same
    ∙ ap (λ w. now (leaves w u.left u.new u.note) s.tab) (sym word)
    ∙ ap (λ tab. now (leaves u.word u.left u.new u.note) tab) (sym tabs)
    ∙ sym u.is

-- what is done makes no step
done_stays : (c next : Casting) (id : ℕ) → Steps c id next → ¬ IsDoneAt c id
done_stays c next id s done =
    let own : IsDone s.tab = subst (λ (o : Option Tabulator). IsSomeAnd o IsDone) s.acts done in
    let from : next_from s.tab.state s.tab.left ≡ Rest = ap (λ state. next_from state s.tab.left) own.0 ∙ ap (next_from Rest) own.1 in
    no_row (table_in c) s.word (get_or c.words s.word 0) s.left s.new s.note
    (subst (λ (f : CastState). CastRow (table_in c) f s.word (get_or c.words s.word 0) s.left s.new s.note) from s.row)

-- ---- one run

pub one_run : (c : Casting) (ids : List ℕ) (a b : Casting) → IsCasting c → Runs c ids a → Runs c ids b → a ≡ b
one_run = schedules.one_run Steps IsDoneAt IsCasting steps_keep one_step done_stays
