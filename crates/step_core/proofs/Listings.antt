-- How often a number stands in lists: after a filter, over lists of lists, and in ascending order, which the counts fix.
use Rattle.std.proofs.Common.{◌≡◌, ◌≢◌, ◌==◌, ◌||◌, not, ℕ, zero, suc, ◌+◌, ◌<◌, ◌≤◌, ⊎_elim, Bool, true, false, List, [], ◌∷◌, refl, sym, ◌∙◌, ap, subst, arith}
use Rattle.store_spec.proofs.Common.{Contains, ascending, cases_Bool, cases_eq, cases_lt, cond-false, cond-true, eq-eqb, filter, flat_map, le-leb, list_any, lt-leb, ne_eqb, numbers_in, put_in_order, sum_by, sum_by-append, sum_by-cons, times, true≢false, without}
use Rattle.std.proofs.lemmas.Bool.{or_left, or_right}
use Rattle.step_core.proofs.Copies.{hit, hit_yes, hit_no}

pub times-cons : (y : ℕ) (ys : List ℕ) (x : ℕ) → times (y ∷ ys) x ≡ hit x y + times ys x
times-cons y ys x = sum_by-cons (hit x) y ys

-- a number in a list stands there once at least
pub times_some : (numbers : List ℕ) (x : ℕ) → Contains numbers x → 0 < times numbers x
times_some [] x c = absurd (omega (arith, c.1))
times_some (y ∷ numbers) x (zero, lt, e) = omega (arith, times-cons y numbers x, hit_yes x y e)
times_some (y ∷ numbers) x (suc k, lt, e) = let rest = times_some numbers x (k, omega arith, e) in omega (arith, times-cons y numbers x)

-- and one that stands there so is in it
pub some_times : (numbers : List ℕ) (x : ℕ) → 0 < times numbers x → Contains numbers x
some_times [] x some = absurd (omega arith)
some_times (y ∷ numbers) x some = ⊎_elim
    (λ (e : y ≡ x). (0, omega arith, e))
    (λ (n : y ≢ x).
    let rest = some_times numbers x (omega (arith, times-cons y numbers x, hit_no x y n)) in
    let lt = rest.1 in
    (suc rest.0, omega arith, rest.2))
    (cases_eq y x)

-- ---- filters

pub times_kept : (p : ℕ → Bool) (numbers : List ℕ) (x : ℕ) → p x ≡ true → times (filter p numbers) x ≡ times numbers x
times_kept p [] x kept = refl
times_kept p (y ∷ numbers) x kept =
    let rest = times_kept p numbers x kept in
    ⊎_elim
    (λ (e : p y ≡ true). ap (λ l. times l x) (cond-true (p y) (y ∷ filter p numbers) (filter p numbers) e) ∙ omega (arith, times-cons y (filter p numbers) x, times-cons y numbers x))
    (λ (e : p y ≡ false).
    let other : y ≢ x = λ same. true≢false (sym kept ∙ ap p (sym same) ∙ e) in
    ap (λ l. times l x) (cond-false (p y) (y ∷ filter p numbers) (filter p numbers) e) ∙ omega (arith, hit_no x y other, times-cons y numbers x))
    (cases_Bool (p y))

pub times_left_out : (p : ℕ → Bool) (numbers : List ℕ) (x : ℕ) → p x ≡ false → times (filter p numbers) x ≡ 0
times_left_out p [] x out = refl
times_left_out p (y ∷ numbers) x out =
    let rest = times_left_out p numbers x out in
    ⊎_elim
    (λ (e : p y ≡ true).
    let other : y ≢ x = λ same. true≢false (sym e ∙ ap p same ∙ out) in
    ap (λ l. times l x) (cond-true (p y) (y ∷ filter p numbers) (filter p numbers) e) ∙ omega (arith, times-cons y (filter p numbers) x, hit_no x y other))
    (λ (e : p y ≡ false). ap (λ l. times l x) (cond-false (p y) (y ∷ filter p numbers) (filter p numbers) e) ∙ rest)
    (cases_Bool (p y))

-- the numbers in cells
pub times_in_cells : (cells : List ℕ) (x : ℕ) → x ≢ 0 → times (numbers_in cells) x ≡ times cells x
times_in_cells cells x n = times_kept (λ cell. not (cell == 0)) cells x (ap not (ne_eqb x 0 n))

pub no_zero_in_cells : (cells : List ℕ) → times (numbers_in cells) 0 ≡ 0
no_zero_in_cells cells = times_left_out (λ cell. not (cell == 0)) cells 0 refl

any_yes : (others : List ℕ) (x : ℕ) → 0 < times others x → list_any (λ other. other == x) others ≡ true
any_yes [] x some = absurd (omega arith)
any_yes (y ∷ others) x some = ⊎_elim
    (λ (e : y ≡ x). or_left (y == x) _ (eq-eqb y x e))
    (λ (n : y ≢ x). or_right (y == x) _ (any_yes others x (omega (arith, times-cons y others x, hit_no x y n))))
    (cases_eq y x)

any_no : (others : List ℕ) (x : ℕ) → times others x ≡ 0 → list_any (λ other. other == x) others ≡ false
any_no [] x none = refl
any_no (y ∷ others) x none = ⊎_elim
    (λ (e : y ≡ x). absurd (omega (arith, times-cons y others x, hit_yes x y e)))
    (λ (n : y ≢ x). ap (λ b. b || list_any (λ other. other == x) others) (ne_eqb y x n) ∙ any_no others x (omega (arith, times-cons y others x)))
    (cases_eq y x)

pub times_without : (numbers others : List ℕ) (x : ℕ) → times others x ≡ 0 → times (without numbers others) x ≡ times numbers x
times_without numbers others x none = times_kept (λ y. not (list_any (λ other. other == y) others)) numbers x (ap not (any_no others x none))

pub times_without_none : (numbers others : List ℕ) (x : ℕ) → 0 < times others x → times (without numbers others) x ≡ 0
times_without_none numbers others x some = times_left_out (λ y. not (list_any (λ other. other == y) others)) numbers x (ap not (any_yes others x some))

-- ---- lists of lists

pub times-flat_map : {X : Type 0} (f : X → List ℕ) (xs : List X) (x : ℕ) → times (flat_map f xs) x ≡ sum_by (λ y. times (f y) x) xs
times-flat_map f [] x = refl
times-flat_map f (y ∷ ys) x =
    sum_by-append (hit x) (f y) (flat_map f ys)
    ∙ ap (λ n. times (f y) x + n) (times-flat_map f ys x)
    ∙ sym (sum_by-cons (λ z. times (f z) x) y ys)

-- ---- ascending order

times_put : (v : ℕ) (numbers : List ℕ) (x : ℕ) → times (put_in_order v numbers) x ≡ hit x v + times numbers x
times_put v [] x = times-cons v [] x
times_put v (w ∷ ws) x = ⊎_elim
    (λ (later : w < v).
    ap (λ l. times l x) (cond-false _ (v ∷ w ∷ ws) (w ∷ put_in_order v ws) (lt-leb v w later))
    ∙ omega (arith, times-cons w (put_in_order v ws) x, times_put v ws x, times-cons w ws x))
    (λ (first : v ≤ w).
    ap (λ l. times l x) (cond-true _ (v ∷ w ∷ ws) (w ∷ put_in_order v ws) (le-leb v w first)) ∙ times-cons v (w ∷ ws) x)
    (cases_lt w v)

pub times_ascending : (numbers : List ℕ) (x : ℕ) → times (ascending numbers) x ≡ times numbers x
times_ascending [] x = refl
times_ascending (v ∷ vs) x = omega (arith, times_put v (ascending vs) x, times_ascending vs x, times-cons v vs x)

-- each number is at most what stands behind it
abbrev Ascends : List ℕ → Type 0
Ascends [] = Unit {0}
Ascends (x ∷ xs) = ((v : ℕ) → 0 < times xs v → x ≤ v) × Ascends xs

ascends_put : (v : ℕ) (numbers : List ℕ) → Ascends numbers → Ascends (put_in_order v numbers)
ascends_put v [] h = (λ u some. absurd (omega arith), tt)
ascends_put v (w ∷ ws) h = ⊎_elim
    (λ (later : w < v).
    subst Ascends (sym (cond-false _ (v ∷ w ∷ ws) (w ∷ put_in_order v ws) (lt-leb v w later))) (
      λ u some. ⊎_elim
          (λ (e : v ≡ u). omega arith)
          (λ (n : v ≢ u). h.0 u (omega (arith, times_put v ws u, hit_no u v n)))
          (cases_eq v u),
      ascends_put v ws h.1,
    ))
    (λ (first : v ≤ w).
    subst Ascends (sym (cond-true _ (v ∷ w ∷ ws) (w ∷ put_in_order v ws) (le-leb v w first))) (
      λ u some. ⊎_elim
          (λ (e : w ≡ u). omega arith)
          (λ (n : w ≢ u). let least = h.0 u (omega (arith, times-cons w ws u, hit_no u w n)) in omega arith)
          (cases_eq w u),
      h,
    ))
    (cases_lt w v)

ascends : (numbers : List ℕ) → Ascends (ascending numbers)
ascends [] = tt
ascends (v ∷ vs) = ascends_put v (ascending vs) (ascends vs)

same_listing : (xs ys : List ℕ) → Ascends xs → Ascends ys → ((v : ℕ) → times xs v ≡ times ys v) → xs ≡ ys
same_listing [] [] hx hy same = refl
same_listing [] (y ∷ ys) hx hy same = absurd (omega (arith, same y, times-cons y ys y, hit_yes y y refl))
same_listing (x ∷ xs) [] hx hy same = absurd (omega (arith, same x, times-cons x xs x, hit_yes x x refl))
same_listing (x ∷ xs) (y ∷ ys) hx hy same =
    let least_x : y ≤ x = ⊎_elim (λ (e : y ≡ x). omega arith)
    (λ (n : y ≢ x). hy.0 x (omega (arith, same x, times-cons x xs x, hit_yes x x refl, times-cons y ys x, hit_no x y n)))
    (cases_eq y x) in
    let least_y : x ≤ y = ⊎_elim (λ (e : x ≡ y). omega arith)
    (λ (n : x ≢ y). hx.0 y (omega (arith, same y, times-cons y ys y, hit_yes y y refl, times-cons x xs y, hit_no y x n)))
    (cases_eq x y) in
    let head : x ≡ y = omega arith in
    let rest : (v : ℕ) → times xs v ≡ times ys v = λ v.
    let hits : hit v x ≡ hit v y = ap (hit v) head in
    omega (arith, same v, times-cons x xs v, times-cons y ys v) in
    ap (λ z. z ∷ xs) head ∙ ap (λ l. y ∷ l) (same_listing xs ys hx.1 hy.1 rest)

-- the counts fix the ascending order
pub same_ascending : (xs ys : List ℕ) → ((v : ℕ) → times xs v ≡ times ys v) → ascending xs ≡ ascending ys
same_ascending xs ys same = same_listing (ascending xs) (ascending ys) (ascends xs) (ascends ys) (λ v. times_ascending xs v ∙ same v ∙ sym (times_ascending ys v))
