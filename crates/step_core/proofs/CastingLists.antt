-- The numbers that a tabulator has answered, and then those that are left, are its list, whatever steps are made.
use Rattle.std.proofs.Common.{◌≡◌, ℕ, List, [], ◌∷◌, ◌++◌, length, set, drop, map, refl, sym, ap, ◌∙◌, ◌-◌}
use Rattle.store_spec.proofs.Common.{All, All-head, All-tail, Answer, Carrying, CastNote, CastState, Met, Probing, Ready, Rest, append-nil, append_assoc, ascending, get_or_from_slice_get, map-append, map-set, set-get_or}
use Rattle.step_core.proofs.CastingAnswers.{FirstIs, first_is}
use Rattle.step_core.proofs.CastingAnswers.FirstIs.{first_held, first_full, first_steps}
use Rattle.step_core.proofs.Schedules.{runs_keep}
use Rattle.step_core.proofs.Sets.{stands-map}
use Rattle.step_core.specs.Casting.{Casting, IsDone, IsDoneAt, Runs, Steps, Tabulator, after_step, answered_in, answers_at_once, first_answered, list_of, lists_in, opened, opened_tab, caught_up, told}
use Rattle.store_spec.specs.CastStep as notes
use Rattle.store_spec.specs.Phase.Met.{Accepted, Taken, Full}

abbrev numbers : List Answer → List ℕ
numbers answers = map (λ (a : Answer). a.number) answers

-- ---- numbers that need no step

at_once_by : (base : List ℕ) (claims x : ℕ) (xs : List ℕ) (answers : List Answer) → numbers (answers_at_once base claims xs) ++ drop (length (answers_at_once base claims xs)) xs ≡ xs → FirstIs base claims x xs answers → numbers answers ++ drop (length answers) (x ∷ xs) ≡ x ∷ xs
at_once_by base claims x xs answers rest (first_held h) = ap (λ l. x ∷ l) rest
at_once_by base claims x xs answers rest (first_full h e) = ap (λ l. x ∷ l) rest
at_once_by base claims x xs answers rest (first_steps h d) = refl

at_once_numbers : (base : List ℕ) (claims : ℕ) (xs : List ℕ) → numbers (answers_at_once base claims xs) ++ drop (length (answers_at_once base claims xs)) xs ≡ xs
at_once_numbers base claims [] = refl
at_once_numbers base claims (x ∷ xs) = at_once_by base claims x xs (answers_at_once base claims (x ∷ xs)) (at_once_numbers base claims xs) (first_is base claims x xs)

caught_up_list : (base : List ℕ) (claims : ℕ) (tab : Tabulator) → list_of (caught_up base claims tab) ≡ list_of tab
caught_up_list base claims tab =
    let more = answers_at_once base claims tab.left in
    ap (λ l. l ++ drop (length more) tab.left) (map-append (λ (a : Answer). a.number) tab.answers more)
    ∙ append_assoc (numbers tab.answers) (numbers more) (drop (length more) tab.left)
    ∙ ap (λ l. numbers tab.answers ++ l) (at_once_numbers base claims tab.left)

-- ---- a step

answered_list : (met : Met) (answers : List Answer) (left : List ℕ) → numbers (first_answered met answers left) ++ drop 1 left ≡ numbers answers ++ left
answered_list met answers [] = refl
answered_list met answers (x ∷ xs) =
    ap (λ l. l ++ xs) (map-append (λ (a : Answer). a.number) answers (record { number = x; met = met } ∷ []))
    ∙ append_assoc (numbers answers) (x ∷ []) xs

told_list : (note : CastNote) (tab : Tabulator) → list_of (told note tab) ≡ list_of tab
told_list notes.Quiet tab = refl
told_list notes.Claimed tab = answered_list Accepted tab.answers tab.left
told_list notes.Taken tab = answered_list Taken tab.answers tab.left
told_list notes.Full tab = answered_list Full tab.answers tab.left
told_list notes.Placed tab = refl

after_list : (base : List ℕ) (claims : ℕ) (tab : Tabulator) (new : CastState) (note : CastNote) → list_of (after_step base claims tab new note) ≡ list_of tab
after_list base claims tab Rest note = caught_up_list base claims (told note (record tab { state = Rest })) ∙ told_list note (record tab { state = Rest })
after_list base claims tab (Probing x k) note = told_list note (record tab { state = Probing x k })
after_list base claims tab (Carrying v i) note = told_list note (record tab { state = Carrying v i })
after_list base claims tab (Ready v i s) note = told_list note (record tab { state = Ready v i s })

pub steps_list : (c : Casting) (id : ℕ) (now : Casting) → Steps c id now → lists_in now ≡ lists_in c
steps_list c id now s =
    let after = after_step c.base (c.limit - length c.base) s.tab s.new s.note in
    let lists = map list_of c.tabs in
    ap lists_in s.is
    ∙ map-set list_of c.tabs id after
    ∙ ap (set lists id) (after_list c.base (c.limit - length c.base) s.tab s.new s.note
    ∙ sym (get_or_from_slice_get lists id (list_of s.tab) (list_of s.tab) (stands-map list_of c.tabs id s.tab s.acts)))
    ∙ set-get_or lists id (list_of s.tab)

-- ---- a phase

opened_each : (base : List ℕ) (claims : ℕ) (lists : List (List ℕ)) → map list_of (map (opened_tab base claims) lists) ≡ lists
opened_each base claims [] = refl
opened_each base claims (list ∷ lists) =
    ap (λ l. l ∷ map list_of (map (opened_tab base claims) lists)) (caught_up_list base claims (record { state = Rest; answers = []; left = list }))
    ∙ ap (λ ls. list ∷ ls) (opened_each base claims lists)

pub opened_lists : (bits salt limit : ℕ) (start : List ℕ) (lists : List (List ℕ)) → lists_in (opened bits salt limit start lists) ≡ lists
opened_lists bits salt limit start lists = opened_each (ascending start) (limit - length (ascending start)) lists

pub runs_list : (c : Casting) (ids : List ℕ) (end : Casting) → Runs c ids end → lists_in end ≡ lists_in c
runs_list c ids end run = runs_keep Steps IsDoneAt (λ now. lists_in now ≡ lists_in c) (λ now id next same step. steps_list now id next step ∙ same) c ids end refl run

-- once nothing is left the whole list is answered
answered_each : (tabs : List Tabulator) → All IsDone tabs → map (λ (tab : Tabulator). numbers tab.answers) tabs ≡ map list_of tabs
answered_each [] done = refl
answered_each (tab ∷ tabs) done =
    ap (λ l. l ∷ map (λ (tab : Tabulator). numbers tab.answers) tabs)
    (sym (append-nil (numbers tab.answers)) ∙ ap (λ l. numbers tab.answers ++ l) (sym (All-head IsDone tab tabs done).1))
    ∙ ap (λ ls. list_of tab ∷ ls) (answered_each tabs (All-tail IsDone tab tabs done))

pub all_answered : (c : Casting) → All IsDone c.tabs → answered_in c ≡ lists_in c
all_answered c done = answered_each c.tabs done
