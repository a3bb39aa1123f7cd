-- Answers of a withdrawer, and what they add to its view.
use Rattle.std.proofs.Common.{◌≡◌, ◌==◌, Bool, true, false, ℕ, suc, ⊎_elim, List, [], ◌∷◌, ◌++◌, length, get_or, drop, map, refl, sym, ap, ◌∙◌, subst, arith}
use Rattle.store_spec.proofs.Common.{Absent, All, All-append, All-cons, All-head, All-nil, All-push, All-tail, All-weaker, AllPairs, Any-from_list_any, Contains, MayBeWithdrawnBefore, WithdrawReply, Withdrawal, all_pairs_push, append-nil, append_assoc, both_ways, cases_Bool, cond-false, cond-true, eq-eqb, eqb-true, filter, filter-append, get_or_default, list_any, list_any_at, map-append}
use Rattle.step_core.specs.Withdrawing.{absent_first}
use Rattle.step_core.specs.WithdrawingInvariant.{IsNext, numbers_that}
use Rattle.store_spec.specs.WithdrawStep.WithdrawState.{Rest}

-- ---- whether a number is held

pub is_held : (held : List ℕ) (x : ℕ) → list_any (λ n. n == x) held ≡ true → Contains held x
is_held held x found =
    let at = Any-from_list_any (λ n. n == x) held found in
    (at.0, at.2, get_or_default held at.0 x at.1 at.2 ∙ at.3 ∙ eqb-true at.1 x at.4)

pub is_not_held : (held : List ℕ) (x : ℕ) → list_any (λ n. n == x) held ≡ false → ¬ Contains held x
is_not_held held x none c = both_ways (list_any (λ n. n == x) held) none (list_any_at (λ n. n == x) held c.0 x c.1 (eq-eqb (get_or held c.0 x) x c.2))

-- ---- answers that need no step

pub absent_on : (held : List ℕ) (x : ℕ) (xs : List ℕ) → list_any (λ n. n == x) held ≡ false → absent_first held (x ∷ xs) ≡ record { number = x; reply = Absent } ∷ absent_first held xs
absent_on held x xs none = cond-false (list_any (λ n. n == x) held) [] (record { number = x; reply = Absent } ∷ absent_first held xs) none

pub absent_stops : (held : List ℕ) (x : ℕ) (xs : List ℕ) → list_any (λ n. n == x) held ≡ true → absent_first held (x ∷ xs) ≡ []
absent_stops held x xs found = cond-true (list_any (λ n. n == x) held) [] (record { number = x; reply = Absent } ∷ absent_first held xs) found

pub record IsAbsent (held : List ℕ) (a : Withdrawal) : Type 0 where
  pub reply : a.reply ≡ Absent
  pub not_held : ¬ Contains held a.number

pub all_absent : (held left : List ℕ) → All (IsAbsent held) (absent_first held left)
all_absent held [] = All-nil (IsAbsent held)
all_absent held (x ∷ xs) = ⊎_elim
    (λ (found : list_any (λ n. n == x) held ≡ true). subst (All (IsAbsent held)) (sym (absent_stops held x xs found)) (All-nil (IsAbsent held)))
    (λ (none : list_any (λ n. n == x) held ≡ false). subst (All (IsAbsent held)) (sym (absent_on held x xs none))
    (All-cons (IsAbsent held) (record { number = x; reply = Absent }) (absent_first held xs) (record { reply = refl; not_held = is_not_held held x none }) (all_absent held xs)))
    (cases_Bool (list_any (λ n. n == x) held))

-- the number that stands behind them is held
pub next_caught_up : (held left : List ℕ) → IsNext held Rest (drop (length (absent_first held left)) left)
next_caught_up held [] = tt
next_caught_up held (x ∷ xs) = ⊎_elim
    (λ (found : list_any (λ n. n == x) held ≡ true). subst (λ (l : List Withdrawal). IsNext held Rest (drop (length l) (x ∷ xs))) (sym (absent_stops held x xs found)) (is_held held x found))
    (λ (none : list_any (λ n. n == x) held ≡ false). subst (λ (l : List Withdrawal). IsNext held Rest (drop (length l) (x ∷ xs))) (sym (absent_on held x xs none)) (next_caught_up held xs))
    (cases_Bool (list_any (λ n. n == x) held))

-- ---- the numbers with a reply of some kind

pub numbers-append : (such : WithdrawReply → Bool) (xs ys : List Withdrawal) → numbers_that such (xs ++ ys) ≡ numbers_that such xs ++ numbers_that such ys
numbers-append such xs ys =
    ap (map (λ (a : Withdrawal). a.number)) (filter-append (λ (a : Withdrawal). such a.reply) xs ys)
    ∙ map-append (λ (a : Withdrawal). a.number) (filter (λ (a : Withdrawal). such a.reply) xs) (filter (λ (a : Withdrawal). such a.reply) ys)

numbers-no : (such : WithdrawReply → Bool) (a : Withdrawal) (rest : List Withdrawal) → such a.reply ≡ false → numbers_that such (a ∷ rest) ≡ numbers_that such rest
numbers-no such a rest fails = ap (map (λ (b : Withdrawal). b.number)) (cond-false (such a.reply) (a ∷ filter (λ (b : Withdrawal). such b.reply) rest) (filter (λ (b : Withdrawal). such b.reply) rest) fails)

numbers-yes : (such : WithdrawReply → Bool) (a : Withdrawal) (rest : List Withdrawal) → such a.reply ≡ true → numbers_that such (a ∷ rest) ≡ a.number ∷ numbers_that such rest
numbers-yes such a rest passes = ap (map (λ (b : Withdrawal). b.number)) (cond-true (such a.reply) (a ∷ filter (λ (b : Withdrawal). such b.reply) rest) (filter (λ (b : Withdrawal). such b.reply) rest) passes)

numbers-none : (such : WithdrawReply → Bool) (answers : List Withdrawal) → All (λ a. such a.reply ≡ false) answers → numbers_that such answers ≡ []
numbers-none such [] none = refl
numbers-none such (a ∷ answers) none =
    numbers-no such a answers (All-head (λ (b : Withdrawal). such b.reply ≡ false) a answers none)
    ∙ numbers-none such answers (All-tail (λ (b : Withdrawal). such b.reply ≡ false) a answers none)

-- each answer of a kind has its number among them
pub numbers-contains : (such : WithdrawReply → Bool) (answers : List Withdrawal) → All (λ a. such a.reply ≡ true → Contains (numbers_that such answers) a.number) answers
numbers-contains such [] = All-nil (λ (a : Withdrawal). such a.reply ≡ true → Contains (numbers_that such []) a.number)
numbers-contains such (a ∷ answers) =
    let Goal : Withdrawal → Type 0 = λ b. such b.reply ≡ true → Contains (numbers_that such (a ∷ answers)) b.number in
    All-cons Goal a answers
    (λ passes. subst (λ (xs : List ℕ). Contains xs a.number) (sym (numbers-yes such a answers passes)) (0, omega arith, refl))
    (All-weaker (λ (b : Withdrawal). such b.reply ≡ true → Contains (numbers_that such answers) b.number) Goal
    (λ b h passes. let c = h passes in ⊎_elim
    (λ (first : such a.reply ≡ true). subst (λ (xs : List ℕ). Contains xs b.number) (sym (numbers-yes such a answers first)) (suc c.0, omega (arith, c.1), c.2))
    (λ (other : such a.reply ≡ false). subst (λ (xs : List ℕ). Contains xs b.number) (sym (numbers-no such a answers other)) c)
    (cases_Bool (such a.reply)))
    answers (numbers-contains such answers))

pub numbers-absent : (such : WithdrawReply → Bool) (held left : List ℕ) → such Absent ≡ false → numbers_that such (absent_first held left) ≡ []
numbers-absent such held left no_such = numbers-none such (absent_first held left)
    (All-weaker (IsAbsent held) (λ a. such a.reply ≡ false) (λ a h. ap such h.reply ∙ no_such) (absent_first held left) (all_absent held left))

-- after an answer and those that need no step
pub numbers-caught_up : (such : WithdrawReply → Bool) (held : List ℕ) (answers : List Withdrawal) (a : Withdrawal) (left : List ℕ) → such Absent ≡ false → numbers_that such ((answers ++ a ∷ []) ++ absent_first held left) ≡ numbers_that such answers ++ numbers_that such (a ∷ [])
numbers-caught_up such held answers a left no_such =
    numbers-append such (answers ++ a ∷ []) (absent_first held left)
    ∙ ap (λ (l : List ℕ). numbers_that such (answers ++ a ∷ []) ++ l) (numbers-absent such held left no_such)
    ∙ append-nil (numbers_that such (answers ++ a ∷ []))
    ∙ numbers-append such answers (a ∷ [])

-- ---- what holds of answers, when one more comes and those that need no step

pub answers_caught_up : (P : Withdrawal → Type 0) (held : List ℕ) (answers : List Withdrawal) (a : Withdrawal) (left : List ℕ) → ((b : Withdrawal) → IsAbsent held b → P b) → All P answers → P a → All P ((answers ++ a ∷ []) ++ absent_first held left)
answers_caught_up P held answers a left absent all last =
    All-append P (answers ++ a ∷ []) (absent_first held left) (All-push P answers a all last)
    (All-weaker (IsAbsent held) P absent (absent_first held left) (all_absent held left))

pairs_on : (R : Withdrawal → Withdrawal → Type 0) (P : Withdrawal → Type 0) (xs ys : List Withdrawal) → ((x y : Withdrawal) → P y → R x y) → AllPairs R xs → All P ys → AllPairs R (xs ++ ys)
pairs_on R P xs [] follows pairs all = subst (λ (l : List Withdrawal). AllPairs R l) (sym (append-nil xs)) pairs
pairs_on R P xs (y ∷ ys) follows pairs all =
    subst (λ (l : List Withdrawal). AllPairs R l) (append_assoc xs (y ∷ []) ys)
    (pairs_on R P (xs ++ y ∷ []) ys follows (all_pairs_push R xs y pairs (λ k d lt. follows _ y (All-head P y ys all))) (All-tail P y ys all))

pub pairs_caught_up : (held : List ℕ) (answers : List Withdrawal) (a : Withdrawal) (left : List ℕ) → AllPairs MayBeWithdrawnBefore answers → All (λ b. MayBeWithdrawnBefore b a) answers → AllPairs MayBeWithdrawnBefore ((answers ++ a ∷ []) ++ absent_first held left)
pairs_caught_up held answers a left pairs before =
    pairs_on MayBeWithdrawnBefore (IsAbsent held) (answers ++ a ∷ []) (absent_first held left)
    (λ x y absent same gone withdrawn. absurd (let is = absent.reply in let no : ⊥ = cc in no))
    (all_pairs_push MayBeWithdrawnBefore answers a pairs before) (all_absent held left)

pub pairs_absent : (held left : List ℕ) → AllPairs MayBeWithdrawnBefore (absent_first held left)
pairs_absent held left =
    pairs_on MayBeWithdrawnBefore (IsAbsent held) [] (absent_first held left)
    (λ x y absent same gone withdrawn. absurd (let is = absent.reply in let no : ⊥ = cc in no))
    (λ i j d lt within. absurd (omega arith)) (all_absent held left)
