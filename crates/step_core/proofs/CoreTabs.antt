-- A tabulator of the code, as the definitions see it, where it answers numbers.
use Rattle.std.proofs.Common.{◌≡◌, ◌≢◌, Some, None, ℕ, ◌<◌, ◌≤◌, List, [], ◌∷◌, ◌++◌, length, drop, map, refl, sym, ap, ◌∙◌, subst, arith}
use Rattle.store_spec.proofs.Common.{Answer, CastState, Contains, Met, append-nil, append_assoc, drop-drop, length_push, slice_get}
use Rattle.step_core.proofs.CastingAnswers.{FirstIs, first_is}
use Rattle.step_core.proofs.CastingAnswers.FirstIs.{first_held, first_full, first_steps}
use Rattle.step_core.specs.CastCore.{AnswersAtOnce, NeedsStep, answers_of, met_of}
use Rattle.step_core.specs.Casting.{Tabulator, answered, answers_at_once, first_answered, caught_up}
use Rattle.step_core.specs.declared.tabulator.CastMet.{CastMet}
use Rattle.store_spec.specs.Phase.Met.{Full}

-- ---- one answer more

first_on : (a : Answer) (met : Met) (answers : List Answer) (left : List ℕ) → a ∷ first_answered met answers left ≡ first_answered met (a ∷ answers) left
first_on a met answers [] = refl
first_on a met answers (x ∷ xs) = refl

pub answers_push : (numbers : List ℕ) (replies : List CastMet) (met : CastMet) → 0 < length (drop (length replies) numbers) → answers_of numbers (replies ++ met ∷ []) ≡ first_answered (met_of met) (answers_of numbers replies) (drop (length replies) numbers)
answers_push [] [] met some = absurd (omega arith)
answers_push (x ∷ numbers) [] met some = refl
answers_push [] (r ∷ replies) met some = absurd (omega arith)
answers_push (x ∷ numbers) (r ∷ replies) met some =
    ap (λ rest. (let a : Answer = record { number = x; met = met_of r } in a) ∷ rest) (answers_push numbers replies met some)
    ∙ first_on (record { number = x; met = met_of r }) (met_of met) (answers_of numbers replies) (drop (length replies) numbers)

pub left_push : (numbers : List ℕ) (replies : List CastMet) (met : CastMet) → drop (length (replies ++ met ∷ [])) numbers ≡ drop 1 (drop (length replies) numbers)
left_push numbers replies met = ap (λ n. drop n numbers) (length_push replies met) ∙ sym (drop-drop 1 (length replies) numbers)

pub same_tab : (state : CastState) (one other : List Answer) (xs ys : List ℕ) → one ≡ other → xs ≡ ys → (let t : Tabulator = record { state = state; answers = one; left = xs } in t) ≡ (let t : Tabulator = record { state = state; answers = other; left = ys } in t)
same_tab state one other xs ys answers left =
    ap (λ (l : List Answer). (let t : Tabulator = record { state = state; answers = l; left = xs } in t)) answers
    ∙ ap (λ (l : List ℕ). (let t : Tabulator = record { state = state; answers = other; left = l } in t)) left

pub answered_is : (state : CastState) (numbers : List ℕ) (replies now : List CastMet) (met : CastMet) → 0 < length (drop (length replies) numbers) → now ≡ replies ++ met ∷ [] → (let t : Tabulator = record { state = state; answers = answers_of numbers now; left = drop (length now) numbers } in t) ≡ answered (met_of met) (record { state = state; answers = answers_of numbers replies; left = drop (length replies) numbers })
answered_is state numbers replies now met some is =
    same_tab state _ _ _ _ (ap (answers_of numbers) is ∙ answers_push numbers replies met some) (ap (λ rs. drop (length rs) numbers) is ∙ left_push numbers replies met)

-- ---- a number that needs no step

by_full : (base : List ℕ) (claims x : ℕ) (xs : List ℕ) (answers : List Answer) → ¬ Contains base x → claims ≡ 0 → FirstIs base claims x xs answers → answers ≡ record { number = x; met = Full } ∷ answers_at_once base claims xs
by_full base claims x xs answers h none (first_held is) = absurd (h is)
by_full base claims x xs answers h none (first_full is e) = refl
by_full base claims x xs answers h none (first_steps is d) = absurd (d none)

by_step : (base : List ℕ) (claims x : ℕ) (xs : List ℕ) (answers : List Answer) → ¬ Contains base x → claims ≢ 0 → FirstIs base claims x xs answers → answers ≡ []
by_step base claims x xs answers h some (first_held is) = absurd (h is)
by_step base claims x xs answers h some (first_full is e) = absurd (some e)
by_step base claims x xs answers h some (first_steps is d) = refl

pub at_once_full : (base : List ℕ) (claims x : ℕ) → ¬ Contains base x → claims ≡ 0 → AnswersAtOnce base claims x Full
at_once_full base claims x h none xs = by_full base claims x xs (answers_at_once base claims (x ∷ xs)) h none (first_is base claims x xs)

pub needs_step : (base : List ℕ) (claims x : ℕ) → ¬ Contains base x → claims ≢ 0 → NeedsStep base claims x
needs_step base claims x h some xs = by_step base claims x xs (answers_at_once base claims (x ∷ xs)) h some (first_is base claims x xs)

-- ---- numbers that need no step are answered one by one

-- the first is, and then the others
caught_up_first : (base : List ℕ) (claims : ℕ) (state : CastState) (answers : List Answer) (x y : ℕ) (ys : List ℕ) (met : Met) → y ≡ x → AnswersAtOnce base claims x met → caught_up base claims (answered met (record { state = state; answers = answers; left = y ∷ ys })) ≡ caught_up base claims (record { state = state; answers = answers; left = y ∷ ys })
caught_up_first base claims state answers x y ys met same at_once =
    let a : Answer = record { number = y; met = met } in
    let more = answers_at_once base claims ys in
    let is : answers_at_once base claims (y ∷ ys) ≡ a ∷ more = subst (λ (n : ℕ). answers_at_once base claims (n ∷ ys) ≡ record { number = n; met = met } ∷ more) (sym same) (at_once ys) in
    same_tab state _ _ _ _
    (append_assoc answers (a ∷ []) more ∙ ap (λ l. answers ++ l) (sym is))
    (ap (λ (l : List Answer). drop (length l) (y ∷ ys)) (sym is))

pub caught_up_on : (base : List ℕ) (claims : ℕ) (state : CastState) (answers : List Answer) (left : List ℕ) (x : ℕ) (met : Met) → slice_get left 0 ≡ Some x → AnswersAtOnce base claims x met → caught_up base claims (answered met (record { state = state; answers = answers; left = left })) ≡ caught_up base claims (record { state = state; answers = answers; left = left })
caught_up_on base claims state answers [] x met first at_once = absurd cc
caught_up_on base claims state answers (y ∷ ys) x met first at_once = caught_up_first base claims state answers x y ys met (let same : y ≡ x = cc in same) at_once

-- there are none
pub caught_up_none : (base : List ℕ) (claims : ℕ) (state : CastState) (answers : List Answer) (left : List ℕ) → slice_get left 0 ≡ None → caught_up base claims (record { state = state; answers = answers; left = left }) ≡ record { state = state; answers = answers; left = left }
caught_up_none base claims state answers [] none = same_tab state _ _ _ _ (append-nil answers) refl
caught_up_none base claims state answers (y ∷ ys) none = absurd cc

-- the first needs a step
caught_up_steps : (base : List ℕ) (claims : ℕ) (state : CastState) (answers : List Answer) (left : List ℕ) → answers_at_once base claims left ≡ [] → caught_up base claims (record { state = state; answers = answers; left = left }) ≡ record { state = state; answers = answers; left = left }
caught_up_steps base claims state answers left none =
    same_tab state _ _ _ _ (ap (λ l. answers ++ l) none ∙ append-nil answers) (ap (λ (l : List Answer). drop (length l) left) none)

pub caught_up_stops : (base : List ℕ) (claims : ℕ) (state : CastState) (answers : List Answer) (left : List ℕ) (x : ℕ) → slice_get left 0 ≡ Some x → NeedsStep base claims x → caught_up base claims (record { state = state; answers = answers; left = left }) ≡ record { state = state; answers = answers; left = left }
caught_up_stops base claims state answers [] x first needs = absurd cc
caught_up_stops base claims state answers (y ∷ ys) x first needs =
    let same : x ≡ y = cc in
    caught_up_steps base claims state answers (y ∷ ys) (subst (λ (n : ℕ). answers_at_once base claims (n ∷ ys) ≡ []) same (needs ys))

-- ---- replies

pub mets_are : (numbers : List ℕ) (replies : List CastMet) → length replies ≤ length numbers → map (λ (a : Answer). a.met) (answers_of numbers replies) ≡ map met_of replies
mets_are numbers [] few = refl
mets_are [] (r ∷ replies) few = absurd (omega arith)
mets_are (x ∷ numbers) (r ∷ replies) few = ap (λ mets. met_of r ∷ mets) (mets_are numbers replies (omega arith))
