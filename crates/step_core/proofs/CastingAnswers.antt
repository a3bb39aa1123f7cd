-- Answers of a tabulator, and what they add to its view.
use Rattle.std.proofs.Common.{◌≡◌, ◌≢◌, ◌==◌, if◌then◌else◌, Bool, true, false, ℕ, suc, ⊎_elim, List, [], ◌∷◌, ◌++◌, length, get_or, drop, map, refl, sym, ap, ◌∙◌, subst, arith}
use Rattle.store_spec.proofs.Common.{All, All-cons, All-head, All-nil, All-tail, All-weaker, Answer, Any-from_list_any, Contains, Held, Met, Rest, Table, both_ways, cases_Bool, cases_eq, cond-false, cond-true, eq-eqb, eqb-true, filter, filter-append, get_or_default, list_any, list_any_at, map-append, ne_eqb, numbers_that}
use Rattle.step_core.specs.Casting.{answers_at_once}
use Rattle.step_core.specs.CastingInvariant.{IsNext}
use Rattle.store_spec.specs.Phase.Met.{Full}

-- ---- whether a number is of the base

pub held : (base : List ℕ) (x : ℕ) → list_any (λ b. b == x) base ≡ true → Contains base x
held base x found =
    let at = Any-from_list_any (λ b. b == x) base found in
    let same : at.1 ≡ x = eqb-true at.1 x at.4 in
    (at.0, at.2, get_or_default base at.0 x at.1 at.2 ∙ at.3 ∙ same)

pub not_held : (base : List ℕ) (x : ℕ) → list_any (λ b. b == x) base ≡ false → ¬ Contains base x
not_held base x none c = both_ways (list_any (λ b. b == x) base) none (list_any_at (λ b. b == x) base c.0 x c.1 (eq-eqb (get_or base c.0 x) x c.2))

-- ---- answers that need no step

-- the two answers that a number may get at once
pub data IsAtOnce (base : List ℕ) (claims : ℕ) : ℕ → Met → Type 0 where
  is_held : (x : ℕ) → Contains base x → IsAtOnce base claims x Held
  is_full_for : (x : ℕ) → ¬ Contains base x → claims ≡ 0 → IsAtOnce base claims x Full

-- the three cases of the definition
pub data FirstIs (base : List ℕ) (claims x : ℕ) (xs : List ℕ) : List Answer → Type 0 where
  first_held : Contains base x → FirstIs base claims x xs (record { number = x; met = Held } ∷ answers_at_once base claims xs)
  first_full : ¬ Contains base x → claims ≡ 0 → FirstIs base claims x xs (record { number = x; met = Full } ∷ answers_at_once base claims xs)
  first_steps : ¬ Contains base x → claims ≢ 0 → FirstIs base claims x xs []

pub first_is : (base : List ℕ) (claims x : ℕ) (xs : List ℕ) → FirstIs base claims x xs (answers_at_once base claims (x ∷ xs))
first_is base claims x xs =
    let of_base = list_any (λ b. b == x) base in
    let rest = answers_at_once base claims xs in
    let as_held : List Answer = record { number = x; met = Held } ∷ rest in
    let as_full : List Answer = record { number = x; met = Full } ∷ rest in
    ⊎_elim
    (λ (found : of_base ≡ true).
    subst (FirstIs base claims x xs) (sym (cond-true of_base as_held (if claims == 0 then as_full else []) found)) (first_held (held base x found)))
    (λ (none : of_base ≡ false).
    subst (FirstIs base claims x xs) (sym (cond-false of_base as_held (if claims == 0 then as_full else []) none))
    (⊎_elim
    (λ (e : claims ≡ 0). subst (FirstIs base claims x xs) (sym (cond-true (claims == 0) as_full [] (eq-eqb claims 0 e))) (first_full (not_held base x none) e))
    (λ (d : claims ≢ 0). subst (FirstIs base claims x xs) (sym (cond-false (claims == 0) as_full [] (ne_eqb claims 0 d))) (first_steps (not_held base x none) d))
    (cases_eq claims 0)))
    (cases_Bool of_base)

at_once_by : (base : List ℕ) (claims x : ℕ) (xs : List ℕ) (answers : List Answer) → All (λ a. IsAtOnce base claims a.number a.met) (answers_at_once base claims xs) → FirstIs base claims x xs answers → All (λ a. IsAtOnce base claims a.number a.met) answers
at_once_by base claims x xs answers rest (first_held h) = All-cons (λ a. IsAtOnce base claims a.number a.met) _ _ (is_held x h) rest
at_once_by base claims x xs answers rest (first_full h e) = All-cons (λ a. IsAtOnce base claims a.number a.met) _ _ (is_full_for x h e) rest
at_once_by base claims x xs answers rest (first_steps h d) = All-nil (λ a. IsAtOnce base claims a.number a.met)

pub at_once : (base : List ℕ) (claims : ℕ) (xs : List ℕ) → All (λ a. IsAtOnce base claims a.number a.met) (answers_at_once base claims xs)
at_once base claims [] = All-nil (λ a. IsAtOnce base claims a.number a.met)
at_once base claims (x ∷ xs) = at_once_by base claims x xs (answers_at_once base claims (x ∷ xs)) (at_once base claims xs) (first_is base claims x xs)

-- the number that stands behind them may be begun
next_by : (t : Table) (base : List ℕ) (x : ℕ) (xs : List ℕ) (answers : List Answer) → x ≢ 0 → IsNext t base Rest (drop (length (answers_at_once base t.claims xs)) xs) → FirstIs base t.claims x xs answers → IsNext t base Rest (drop (length answers) (x ∷ xs))
next_by t base x xs answers some rest (first_held h) = rest
next_by t base x xs answers some rest (first_full h e) = rest
next_by t base x xs answers some rest (first_steps h d) = record { some = some; not_held = h; claims = omega arith }

pub next_caught_up : (t : Table) (base xs : List ℕ) → All (λ x. x ≢ 0) xs → IsNext t base Rest (drop (length (answers_at_once base t.claims xs)) xs)
next_caught_up t base [] some = tt
next_caught_up t base (x ∷ xs) some =
    next_by t base x xs (answers_at_once base t.claims (x ∷ xs)) (All-head (λ y. y ≢ 0) x xs some)
    (next_caught_up t base xs (All-tail (λ y. y ≢ 0) x xs some)) (first_is base t.claims x xs)

-- ---- the numbers that met something of a kind

pub numbers-append : (is_such : Met → Bool) (xs ys : List Answer) → numbers_that is_such (xs ++ ys) ≡ numbers_that is_such xs ++ numbers_that is_such ys
numbers-append is_such xs ys =
    ap (map (λ (a : Answer). a.number)) (filter-append (λ (a : Answer). is_such a.met) xs ys)
    ∙ map-append (λ (a : Answer). a.number) (filter (λ (a : Answer). is_such a.met) xs) (filter (λ (a : Answer). is_such a.met) ys)

pub numbers-yes : (is_such : Met → Bool) (a : Answer) (rest : List Answer) → is_such a.met ≡ true → numbers_that is_such (a ∷ rest) ≡ a.number ∷ numbers_that is_such rest
numbers-yes is_such a rest passes = ap (map (λ (b : Answer). b.number)) (cond-true (is_such a.met) (a ∷ filter (λ (b : Answer). is_such b.met) rest) (filter (λ (b : Answer). is_such b.met) rest) passes)

pub numbers-no : (is_such : Met → Bool) (a : Answer) (rest : List Answer) → is_such a.met ≡ false → numbers_that is_such (a ∷ rest) ≡ numbers_that is_such rest
numbers-no is_such a rest fails = ap (map (λ (b : Answer). b.number)) (cond-false (is_such a.met) (a ∷ filter (λ (b : Answer). is_such b.met) rest) (filter (λ (b : Answer). is_such b.met) rest) fails)

pub numbers-none : (is_such : Met → Bool) (answers : List Answer) → All (λ a. is_such a.met ≡ false) answers → numbers_that is_such answers ≡ []
numbers-none is_such [] none = refl
numbers-none is_such (a ∷ answers) none =
    numbers-no is_such a answers (All-head (λ (b : Answer). is_such b.met ≡ false) a answers none)
    ∙ numbers-none is_such answers (All-tail (λ (b : Answer). is_such b.met ≡ false) a answers none)

-- what holds of each answer of a kind holds of its number
pub All-numbers : (is_such : Met → Bool) (P : ℕ → Type 0) (answers : List Answer) → All (λ a. is_such a.met ≡ true → P a.number) answers → All P (numbers_that is_such answers)
All-numbers is_such P [] all = All-nil P
All-numbers is_such P (a ∷ answers) all =
    let Q : Answer → Type 0 = λ b. is_such b.met ≡ true → P b.number in
    let rest = All-numbers is_such P answers (All-tail Q a answers all) in
    ⊎_elim
    (λ (passes : is_such a.met ≡ true). subst (All P) (sym (numbers-yes is_such a answers passes)) (All-cons P a.number (numbers_that is_such answers) (All-head Q a answers all passes) rest))
    (λ (fails : is_such a.met ≡ false). subst (All P) (sym (numbers-no is_such a answers fails)) rest)
    (cases_Bool (is_such a.met))

later : (is_such : Met → Bool) (a : Answer) (answers : List Answer) (x : ℕ) → Contains (numbers_that is_such answers) x → Contains (numbers_that is_such (a ∷ answers)) x
later is_such a answers x c = ⊎_elim
    (λ (passes : is_such a.met ≡ true). subst (λ (xs : List ℕ). Contains xs x) (sym (numbers-yes is_such a answers passes)) (suc c.0, omega (arith, c.1), c.2))
    (λ (fails : is_such a.met ≡ false). subst (λ (xs : List ℕ). Contains xs x) (sym (numbers-no is_such a answers fails)) c)
    (cases_Bool (is_such a.met))

-- and each such number stands among them
pub numbers-contains : (is_such : Met → Bool) (answers : List Answer) → All (λ a. is_such a.met ≡ true → Contains (numbers_that is_such answers) a.number) answers
numbers-contains is_such [] = All-nil (λ (a : Answer). is_such a.met ≡ true → Contains (numbers_that is_such []) a.number)
numbers-contains is_such (a ∷ answers) =
    let Goal : Answer → Type 0 = λ b. is_such b.met ≡ true → Contains (numbers_that is_such (a ∷ answers)) b.number in
    let rest = numbers-contains is_such answers in
    All-cons Goal a answers
    (λ passes. subst (λ (xs : List ℕ). Contains xs a.number) (sym (numbers-yes is_such a answers passes)) (0, omega arith, refl))
    (All-weaker (λ (b : Answer). is_such b.met ≡ true → Contains (numbers_that is_such answers) b.number) Goal
    (λ b h passes. later is_such a answers b.number (h passes)) answers rest)
