-- What is left of ballots and of numbers when some numbers go.
use Rattle.std.proofs.Common.{◌≡◌, ℕ, suc, ◌≢◌, ◌==◌, ⊎_elim, Bool, true, false, cond, not, List, [], ◌∷◌, get_or, refl, sym, ap, ◌∙◌, arith}
use Rattle.store_spec.proofs.Common.{Ballot, Contains, cases_Bool, cases_eq, eq-eqb, list_any, list_any_at, numbers_of, times, without}
use Rattle.std.specs.Prelude.{◌↔◌}
use Rattle.body_store.specs.Contents.{ballots_without}
use Rattle.step_core.proofs.Listings.{some_times, times_some, times_without, times_without_none}
use Rattle.step_core.proofs.WithdrawingAnswers.{is_held}

-- ---- whether a number is among others

any_held : (numbers : List ℕ) (x : ℕ) → Contains numbers x → list_any (λ n. n == x) numbers ≡ true
any_held numbers x c = list_any_at (λ n. n == x) numbers c.0 x c.1 (eq-eqb (get_or numbers c.0 x) x c.2)

any_alike : (xs ys : List ℕ) (x : ℕ) → Contains xs x ↔ Contains ys x → list_any (λ n. n == x) xs ≡ list_any (λ n. n == x) ys
any_alike xs ys x same = ⊎_elim
    (λ (yes : list_any (λ n. n == x) xs ≡ true). yes ∙ sym (any_held ys x (same.0 (is_held xs x yes))))
    (λ (no : list_any (λ n. n == x) xs ≡ false). ⊎_elim
    (λ (yes : list_any (λ n. n == x) ys ≡ true). any_held xs x (same.1 (is_held ys x yes)) ∙ sym yes)
    (λ (other : list_any (λ n. n == x) ys ≡ false). no ∙ sym other)
    (cases_Bool (list_any (λ n. n == x) ys)))
    (cases_Bool (list_any (λ n. n == x) xs))

-- ---- ballots

-- the numbers of what is left are what is left of the numbers
pub numbers_left : (ballots : List Ballot) (gone : List ℕ) → numbers_of (ballots_without ballots gone) ≡ without (numbers_of ballots) gone
numbers_left [] gone = refl
numbers_left (b ∷ ballots) gone = step (not (list_any (λ n. n == b.number) gone)) (numbers_left ballots gone)
  where
    step : (kept : Bool) → numbers_of (ballots_without ballots gone) ≡ without (numbers_of ballots) gone → numbers_of (cond kept (b ∷ ballots_without ballots gone) (ballots_without ballots gone)) ≡ cond kept (b.number ∷ without (numbers_of ballots) gone) (without (numbers_of ballots) gone)
    step true rest = ap (λ l. b.number ∷ l) rest
    step false rest = rest

-- numbers that have the same ballots leave the same
pub left_alike : (ballots : List Ballot) (xs ys : List ℕ) → ((x : ℕ) → Contains (numbers_of ballots) x → Contains xs x ↔ Contains ys x) → ballots_without ballots xs ≡ ballots_without ballots ys
left_alike [] xs ys same = refl
left_alike (b ∷ ballots) xs ys same =
    let test = any_alike xs ys b.number (same b.number (0, omega arith, refl)) in
    let rest = left_alike ballots xs ys (λ x c. same x (suc c.0, omega (arith, c.1), c.2)) in
    ap (λ t. cond (not t) (b ∷ ballots_without ballots xs) (ballots_without ballots xs)) test
    ∙ ap (λ l. cond (not (list_any (λ n. n == b.number) ys)) (b ∷ l) l) rest

-- ---- numbers

pub without_alike : (numbers xs ys : List ℕ) → ((x : ℕ) → Contains numbers x → Contains xs x ↔ Contains ys x) → without numbers xs ≡ without numbers ys
without_alike [] xs ys same = refl
without_alike (n ∷ numbers) xs ys same =
    let test = any_alike xs ys n (same n (0, omega arith, refl)) in
    let rest = without_alike numbers xs ys (λ x c. same x (suc c.0, omega (arith, c.1), c.2)) in
    ap (λ t. cond (not t) (n ∷ without numbers xs) (without numbers xs)) test
    ∙ ap (λ l. cond (not (list_any (λ m. m == n) ys)) (n ∷ l) l) rest

-- what is left is what was there and did not go
pub members_left : (numbers gone : List ℕ) (x : ℕ) → Contains (without numbers gone) x ↔ (Contains numbers x × (¬ Contains gone x))
members_left numbers gone x = (there, back)
  where
    there : Contains (without numbers gone) x → Contains numbers x × (¬ Contains gone x)
    there c =
        let some = times_some (without numbers gone) x c in
        ⊎_elim
        (λ (none : times gone x ≡ 0). (some_times numbers x (omega (arith, times_without numbers gone x none)), λ g. let one = times_some gone x g in absurd (omega arith)))
        (λ (more : times gone x ≢ 0). absurd (omega (arith, times_without_none numbers gone x (omega arith))))
        (cases_eq (times gone x) 0)

    back : Contains numbers x × (¬ Contains gone x) → Contains (without numbers gone) x
    back h = ⊎_elim
        (λ (none : times gone x ≡ 0). some_times (without numbers gone) x (omega (arith, times_without numbers gone x none, times_some numbers x h.0)))
        (λ (more : times gone x ≢ 0). absurd (h.1 (some_times gone x (omega arith))))
        (cases_eq (times gone x) 0)
