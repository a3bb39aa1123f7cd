-- Putting one number into the first empty cell at or after a place, and how many cells are filled.
use Rattle.std.proofs.Common.{◌≡◌, ◌≢◌, if◌then◌else◌, ◌==◌, ℕ, zero, suc, ◌+◌, ◌<◌, ◌≤◌, ◌⊎◌, inl, inr, ⊎_elim, List, [], ◌∷◌, length, get_or, set, replicate, refl, ap, ◌∙◌, arith}
use Rattle.store_spec.proofs.Common.{IsFilled, IsFirstEmpty, cases_eq, cond-false, cond-true, eq-eqb, ne_eqb, placed}

-- the number goes into a cell that is the first empty one
pub placed_at : (v place : ℕ) (cells : List ℕ) (p : ℕ) → place ≤ p → p < length cells → get_or cells p 0 ≡ 0 → IsFilled cells place p → placed v place cells ≡ set cells p v
placed_at v place [] p le lt e full = refl
placed_at v zero (cell ∷ cells) zero le lt e full = cond-true _ _ _ (eq-eqb cell 0 e)
placed_at v zero (cell ∷ cells) (suc p) le lt e full =
    cond-false _ _ _ (ne_eqb cell 0 (full 0 (omega arith) (omega arith)))
    ∙ ap (λ rest. cell ∷ rest) (placed_at v zero cells p (omega arith) (omega arith) e (λ k l m. full (suc k) (omega arith) (omega arith)))
placed_at v (suc place) (cell ∷ cells) zero le lt e full = absurd (omega arith)
placed_at v (suc place) (cell ∷ cells) (suc p) le lt e full =
    ap (λ rest. cell ∷ rest) (placed_at v place cells p (omega arith) (omega arith) e (λ k l m. full (suc k) (omega arith) (omega arith)))

filled_on : (cell : ℕ) (cells : List ℕ) (place to : ℕ) → IsFilled cells place to → IsFilled (cell ∷ cells) (suc place) (suc to)
filled_on cell cells place to h zero le lt = absurd (omega arith)
filled_on cell cells place to h (suc k) le lt = h k (omega arith) (omega arith)

filled_after : (cell : ℕ) (cells : List ℕ) (to : ℕ) → cell ≢ 0 → IsFilled cells 0 to → IsFilled (cell ∷ cells) 0 (suc to)
filled_after cell cells to n h zero le lt = n
filled_after cell cells to n h (suc k) le lt = h k (omega arith) (omega arith)

-- each place has a first empty cell at or after it, unless all are filled from there to the end
pub first_empty : (place : ℕ) (cells : List ℕ) → ((p : ℕ) × IsFirstEmpty cells place p) ⊎ IsFilled cells place (length cells)
first_empty place [] = inr (λ k le lt. absurd (omega arith))
first_empty zero (cell ∷ cells) = ⊎_elim
    (λ (e : cell ≡ 0). inl (0, record { after = omega arith; within = omega arith; empty = e; full = λ k le lt. absurd (omega arith) }))
    (λ (n : cell ≢ 0). ⊎_elim
    (λ s. let h = s.1 in let lt = h.within in inl (suc s.0, record { after = omega arith; within = omega arith; empty = h.empty; full = filled_after cell cells s.0 n h.full }))
    (λ full. inr (filled_after cell cells (length cells) n full))
    (first_empty zero cells))
    (cases_eq cell 0)
first_empty (suc place) (cell ∷ cells) = ⊎_elim
    (λ s. let h = s.1 in let le = h.after in let lt = h.within in inl (suc s.0, record { after = omega arith; within = omega arith; empty = h.empty; full = filled_on cell cells place s.0 h.full }))
    (λ full. inr (filled_on cell cells place (length cells) full))
    (first_empty place cells)

-- how many cells are filled
abbrev pub filled : List ℕ → ℕ
filled [] = 0
filled (cell ∷ cells) = if cell == 0 then filled cells else suc (filled cells)

filled_no : (cell : ℕ) (cells : List ℕ) → cell ≡ 0 → filled (cell ∷ cells) ≡ filled cells
filled_no cell cells e = cond-true _ _ _ (eq-eqb cell 0 e)

filled_yes : (cell : ℕ) (cells : List ℕ) → cell ≢ 0 → filled (cell ∷ cells) ≡ suc (filled cells)
filled_yes cell cells n = cond-false _ _ _ (ne_eqb cell 0 n)

pub filled_none : (n : ℕ) → filled (replicate n 0) ≡ 0
filled_none zero = refl
filled_none (suc n) = filled_none n

pub filled_set : (cells : List ℕ) (p v : ℕ) → filled (set cells p v) ≤ filled cells + 1
filled_set [] p v = omega arith
filled_set (cell ∷ cells) zero v = ⊎_elim
    (λ (e : v ≡ 0). ⊎_elim (λ (d : cell ≡ 0). omega (arith, filled_no v cells e, filled_no cell cells d)) (λ (d : cell ≢ 0). omega (arith, filled_no v cells e, filled_yes cell cells d)) (cases_eq cell 0))
    (λ (n : v ≢ 0). ⊎_elim (λ (d : cell ≡ 0). omega (arith, filled_yes v cells n, filled_no cell cells d)) (λ (d : cell ≢ 0). omega (arith, filled_yes v cells n, filled_yes cell cells d)) (cases_eq cell 0))
    (cases_eq v 0)
filled_set (cell ∷ cells) (suc p) v =
    let more = filled_set cells p v in
    ⊎_elim
    (λ (d : cell ≡ 0). omega (arith, filled_no cell cells d, filled_no cell (set cells p v) d))
    (λ (d : cell ≢ 0). omega (arith, filled_yes cell cells d, filled_yes cell (set cells p v) d))
    (cases_eq cell 0)

-- cells that are filled from a place to the end are many
pub filled_to_end : (place : ℕ) (cells : List ℕ) → IsFilled cells place (length cells) → length cells ≤ filled cells + place
filled_to_end place [] full = omega arith
filled_to_end zero (cell ∷ cells) full =
    let rest = filled_to_end zero cells (λ k l m. full (suc k) (omega arith) (omega arith)) in
    omega (arith, filled_yes cell cells (full 0 (omega arith) (omega arith)))
filled_to_end (suc place) (cell ∷ cells) full =
    let rest = filled_to_end place cells (λ k l m. full (suc k) (omega arith) (omega arith)) in
    ⊎_elim
    (λ (d : cell ≡ 0). omega (arith, filled_no cell cells d))
    (λ (d : cell ≢ 0). omega (arith, filled_yes cell cells d))
    (cases_eq cell 0)
