-- Counts over all withdrawers: debts, and how often a number was chosen or begun; what one withdrawer changes in them.
use Rattle.std.proofs.Common.{◌≡◌, ◌≢◌, ◌==◌, ◌&&◌, ℕ, ◌+◌, ◌<◌, ◌≤◌, ⊎_elim, cond, List, [], ◌∷◌, ◌++◌, length, get_or, set, sym, ap, ◌∙◌, subst, arith}
use Rattle.store_spec.proofs.Common.{Chosen, Down, Owing, Up, WithdrawState, WithdrawView, and_from, cases_eq, cases_lt, count_by, debts, eq-eqb, get_or-le-sum_by, get_or_default, le-ltb, lt-ltb, nat_lt, ne_eqb, sum_by-le-sum_by, sum_by-set, sum_by_push, times, times_begun}
use Rattle.std.proofs.lemmas.Bool.{and_left, and_right}
use Rattle.step_core.proofs.Copies.{hit}
use Rattle.step_core.proofs.WordSets.{two_within}
use Rattle.store_spec.specs.WithdrawInvariant.{owes, walks_to}
use Rattle.store_spec.specs.WithdrawStep.WithdrawState.{Rest}

-- ---- one state

-- 1 where a state owes the number from the first cells, and else 0
abbrev pub owed : WithdrawState → ℕ → ℕ → ℕ
owed state x first = cond (owes state x first) 1 0

-- the debt of a number y with a bound, likewise
abbrev pub owed_to : ℕ → ℕ → ℕ → ℕ → ℕ
owed_to y bound x first = cond (y == x && nat_lt bound first) 1 0

pub owed_yes : (y bound x first : ℕ) → y ≡ x → bound < first → owed_to y bound x first ≡ 1
owed_yes y bound x first e lt = ap (λ b. cond b 1 0) (and_from _ _ (eq-eqb y x e) (lt-ltb bound first lt))

pub owed_other : (y bound x first : ℕ) → y ≢ x → owed_to y bound x first ≡ 0
owed_other y bound x first n = ap (λ b. cond b 1 0) (and_left _ _ (ne_eqb y x n))

pub owed_above : (y bound x first : ℕ) → first ≤ bound → owed_to y bound x first ≡ 0
owed_above y bound x first le = ap (λ b. cond b 1 0) (and_right _ _ (le-ltb bound first le))

owed_to_rises : (y bound x m n : ℕ) → m ≤ n → owed_to y bound x m ≤ owed_to y bound x n
owed_to_rises y bound x m n le = ⊎_elim
    (λ (same : y ≡ x). ⊎_elim
    (λ (lt : bound < m). omega (arith, owed_yes y bound x m same lt, owed_yes y bound x n same (omega arith)))
    (λ (above : m ≤ bound). omega (arith, owed_above y bound x m above))
    (cases_lt bound m))
    (λ (other : y ≢ x). omega (arith, owed_other y bound x m other))
    (cases_eq y x)

owed_rises : (state : WithdrawState) (x m n : ℕ) → m ≤ n → owed state x m ≤ owed state x n
owed_rises Rest x m n le = omega arith
owed_rises (Chosen y place) x m n le = omega arith
owed_rises (Owing y bound) x m n le = owed_to_rises y bound x m n le
owed_rises (Up y bound place) x m n le = owed_to_rises y bound x m n le
owed_rises (Down y bound place c source) x m n le = owed_to_rises y bound x m n le

-- 1 where a state has chosen the number, and else 0
abbrev pub chosen : WithdrawState → ℕ → ℕ
chosen state x = cond (walks_to state x) 1 0

-- ---- all withdrawers

-- from more cells more is owed
pub debts_rise : (views : List WithdrawView) (x m n : ℕ) → m ≤ n → debts views x m ≤ debts views x n
debts_rise views x m n le = sum_by-le-sum_by (λ w. owed w.state x m) (λ w. owed w.state x n) views (λ w. owed_rises w.state x m n le)

module _ (views : List WithdrawView) (id : ℕ) (w z : WithdrawView) (lt : id < length views) (at : get_or views id w ≡ w) where
  pub debts_set : (x first : ℕ) → debts (set views id z) x first + owed w.state x first ≡ debts views x first + owed z.state x first
  debts_set x first = ap (λ (v : WithdrawView). debts (set views id z) x first + owed v.state x first) (sym at) ∙ sum_by-set (λ v. owed v.state x first) views id z w lt

  pub begun_set : (x : ℕ) → times_begun (set views id z) x + times w.begun x ≡ times_begun views x + times z.begun x
  begun_set x = ap (λ (v : WithdrawView). times_begun (set views id z) x + times v.begun x) (sym at) ∙ sum_by-set (λ v. times v.begun x) views id z w lt

  pub chosen_set : (x : ℕ) → count_by (λ v. walks_to v.state x) (set views id z) + chosen w.state x ≡ count_by (λ v. walks_to v.state x) views + chosen z.state x
  chosen_set x = ap (λ (v : WithdrawView). count_by (λ u. walks_to u.state x) (set views id z) + chosen v.state x) (sym at) ∙ sum_by-set (λ v. chosen v.state x) views id z w lt

  -- what one owes is owed
  pub owed_within : (x first : ℕ) → owed w.state x first ≤ debts views x first
  owed_within x first = subst (λ (v : WithdrawView). owed v.state x first ≤ debts views x first) at (get_or-le-sum_by (λ v. owed v.state x first) views id w lt)

  pub begun_within : (x : ℕ) → times w.begun x ≤ times_begun views x
  begun_within x = subst (λ (v : WithdrawView). times v.begun x ≤ times_begun views x) at (get_or-le-sum_by (λ v. times v.begun x) views id w lt)

  pub chosen_within : (x : ℕ) → chosen w.state x ≤ count_by (λ v. walks_to v.state x) views
  chosen_within x = subst (λ (v : WithdrawView). chosen v.state x ≤ count_by (λ u. walks_to u.state x) views) at (get_or-le-sum_by (λ v. chosen v.state x) views id w lt)

  -- another one has chosen the number too
  pub chosen_twice : (x k : ℕ) (d : WithdrawView) → k < length views → k ≢ id → chosen w.state x + chosen (get_or views k d).state x ≤ count_by (λ v. walks_to v.state x) views
  chosen_twice x k d within other =
      subst (λ (v : WithdrawView). chosen v.state x + chosen (get_or views k d).state x ≤ count_by (λ u. walks_to u.state x) views)
      (get_or_default views id d w lt ∙ at)
      (two_within (λ v. chosen v.state x) views id k d lt within (λ e. other (sym e)))

-- one number more in a list
pub times_push : (numbers : List ℕ) (y x : ℕ) → times (numbers ++ y ∷ []) x ≡ times numbers x + hit x y
times_push numbers y x = sum_by_push (hit x) numbers y
