-- One cell more, with how far back it reaches.
use Rattle.std.proofs.Common.{◌≡◌, ◌≢◌, ℕ, zero, suc, ◌+◌, ◌-◌, ◌<◌, ◌≤◌, ⊎_elim, List, [], ◌∷◌, ◌++◌, length, get_or, take, drop, sym, ap, subst, ◌∙◌, arith}
use Rattle.store_spec.proofs.Common.{append-nil, cases_lt, filter-append, get_or_append_left, get_or_push, length-append, numbers_in, take-append-drop, take-append-le, take_all, take_at, take_more}
use Rattle.image_builder.proofs.Steps.{numbers_as_before, numbers_more}
use Rattle.image_builder.specs.Reaches.{AreReaches, IsReach}

-- ---- how many cells have a number

count_more : (cells : List ℕ) (v : ℕ) → v ≢ 0 → length (numbers_in (cells ++ v ∷ [])) ≡ length (numbers_in cells) + 1
count_more cells v some = ap length (numbers_more cells v some) ∙ length-append (numbers_in cells) (v ∷ [])

-- a cell with a number is not counted among those before it
count_before : (cells : List ℕ) (place : ℕ) → place < length cells → get_or cells place 0 ≢ 0 → length (numbers_in (take place cells)) < length (numbers_in cells)
count_before cells place within some =
    let front = take (place + 1) cells in
    let behind = drop (place + 1) cells in
    let one = ap (λ ns. length (numbers_in ns)) (take_more cells place 0 within) ∙ count_more (take place cells) (get_or cells place 0) some in
    let all : length (numbers_in cells) ≡ length (numbers_in front) + length (numbers_in behind) =
    ap (λ ns. length (numbers_in ns)) (sym (take-append-drop (place + 1) cells)) ∙ ap length (filter-append _ front behind) ∙ length-append (numbers_in front) (numbers_in behind) in
    omega (arith, one, all)

-- so many cells at the end all have one
count_behind : (cells : List ℕ) (from more : ℕ) → from + more ≡ length cells → ((k : ℕ) → from ≤ k → k < length cells → get_or cells k 0 ≢ 0) → length (numbers_in cells) ≡ length (numbers_in (take from cells)) + more
count_behind cells from zero whole some = ap (λ ns. length (numbers_in ns)) (sym (take_all from cells (omega (arith, whole)))) ∙ omega arith
count_behind cells from (suc more) whole some =
    let rest = count_behind cells (from + 1) more (omega (arith, whole)) (λ k after within. some k (omega arith) within) in
    let one = ap (λ ns. length (numbers_in ns)) (take_more cells from 0 (omega (arith, whole))) ∙ count_more (take from cells) (get_or cells from 0) (some from (omega arith) (omega (arith, whole))) in
    omega (arith, rest, one)

-- ---- one cell more

-- cells in front of a place look the same with one more behind them
reach_in : (cells : List ℕ) (w v place from : ℕ) → place ≤ length cells → IsReach cells v place from → IsReach (cells ++ w ∷ []) v place from
reach_in cells w v place from within reach = record {
  before = reach.before;
  greater = λ k ge lt. subst (λ (x : ℕ). v < x) (sym (get_or_append_left cells (w ∷ []) 0 k (omega arith))) (reach.greater k ge lt);
}

-- and so do their own reaches, whatever is put behind these
old_reach : (cells reaches more : List ℕ) (v place : ℕ) → AreReaches cells reaches → place < length cells → get_or (cells ++ v ∷ []) place 0 ≢ 0
    → IsReach (cells ++ v ∷ []) (get_or (cells ++ v ∷ []) place 0) place (get_or (reaches ++ more) (length (numbers_in (take place (cells ++ v ∷ [])))) 0)
old_reach cells reaches more v place are old some =
    let now = cells ++ v ∷ [] in
    let cell = get_or_append_left cells (v ∷ []) 0 place old in
    let held : get_or cells place 0 ≢ 0 = λ none. some (cell ∙ none) in
    let n = length (numbers_in (take place cells)) in
    let same : get_or (reaches ++ more) (length (numbers_in (take place now))) 0 ≡ get_or reaches n 0 =
    ap (λ ns. get_or (reaches ++ more) (length (numbers_in ns)) 0) (take-append-le place cells (v ∷ []) (omega arith))
    ∙ get_or_append_left reaches more 0 n (omega (arith, are.count, count_before cells place old held)) in
    subst (λ (w : ℕ). IsReach now w place (get_or (reaches ++ more) (length (numbers_in (take place now))) 0)) (sym cell)
    (subst (λ (f : ℕ). IsReach now (get_or cells place 0) place f) (sym same)
    (reach_in cells v (get_or cells place 0) place (get_or reaches n 0) (omega arith) (are.each place old held)))

pub reaches_more : (cells reaches : List ℕ) (v from : ℕ) → AreReaches cells reaches → v ≢ 0 → IsReach cells v (length cells) from → AreReaches (cells ++ v ∷ []) (reaches ++ from ∷ [])
reaches_more cells reaches v from are filled reach =
    let now = cells ++ v ∷ [] in
    record {
      count = omega (arith, length-append reaches (from ∷ []), are.count, count_more cells v filled);
      each = λ place lt some. ⊎_elim
          (λ (old : place < length cells). old_reach cells reaches (from ∷ []) v place are old some)
          (λ (past : length cells ≤ place).
          let e : length cells ≡ place = omega (arith, length-append cells (v ∷ [])) in
          let cell = get_or_push cells v 0 place e in
          let n : length reaches ≡ length (numbers_in (take place now)) = are.count ∙ ap (λ ns. length (numbers_in ns)) (sym (take_at cells (v ∷ []) place e)) in
          let last = get_or_push reaches from 0 (length (numbers_in (take place now))) n in
          subst (λ (w : ℕ). IsReach now w place (get_or (reaches ++ from ∷ []) (length (numbers_in (take place now))) 0)) (sym cell)
          (subst (λ (f : ℕ). IsReach now v place f) (sym last)
          (subst (λ (p : ℕ). IsReach now v p from) e (reach_in cells v v (length cells) from (omega arith) reach))))
          (cases_lt place (length cells));
    }

-- an empty cell needs no reach
pub reaches_empty : (cells reaches : List ℕ) → AreReaches cells reaches → AreReaches (cells ++ 0 ∷ []) reaches
reaches_empty cells reaches are =
    let now = cells ++ 0 ∷ [] in
    record {
      count = are.count ∙ ap length (sym (numbers_as_before cells));
      each = λ place lt some. ⊎_elim
          (λ (old : place < length cells).
          subst (λ (rs : List ℕ). IsReach now (get_or now place 0) place (get_or rs (length (numbers_in (take place now))) 0)) (append-nil reaches)
          (old_reach cells reaches [] 0 place are old some))
          (λ (past : length cells ≤ place).
          let e : length cells ≡ place = omega (arith, length-append cells (0 ∷ [])) in
          absurd (some (get_or_push cells 0 0 place e)))
          (cases_lt place (length cells));
    }

pub reach_as : (cells now : List ℕ) (v from : ℕ) → IsReach now v (length now) from → now ≡ cells → IsReach cells v (length cells) from
reach_as cells now v from reach same = subst (λ (cs : List ℕ). IsReach cs v (length cs) from) same reach

-- ---- walking back

-- Where the cells from one on hold greater numbers, and so does the one before them, its reach is that of as many from
-- the end, and all cells from there on hold greater ones.
pub record GoesBack (cells reaches : List ℕ) (v from back : ℕ) : Type 0 where
  pub known : length cells - from < length reaches
  pub less : back < from
  pub reach : IsReach cells v (length cells) back

pub goes_back : (cells reaches : List ℕ) (v from : ℕ) → AreReaches cells reaches → IsReach cells v (length cells) from → 0 < from → v < get_or cells (from - 1) 0
    → GoesBack cells reaches v from (get_or reaches (length reaches - 1 - (length cells - from)) 0)
goes_back cells reaches v from are reach some more =
    let at = from - 1 in
    let within : at < length cells = omega (arith, reach.before) in
    let greater : (k : ℕ) → at ≤ k → k < length cells → v < get_or cells k 0 = λ k after lt. ⊎_elim
    (λ (first : k < from). let same : at ≡ k = omega arith in subst (λ (k : ℕ). v < get_or cells k 0) same more)
    (λ (behind : from ≤ k). reach.greater k behind lt)
    (cases_lt k from) in
    let count = count_behind cells at (length cells - at) (omega arith) (λ k after lt none. omega (arith, greater k after lt, none)) in
    let n = length (numbers_in (take at cells)) in
    let index : n ≡ length reaches - 1 - (length cells - from) = omega (arith, count, are.count, within) in
    let own = are.each at within (λ none. omega (arith, more, none)) in
    let is : GoesBack cells reaches v from (get_or reaches n 0) = record {
      known = omega (arith, count, are.count, within);
      less = omega (arith, own.before);
      reach = record {
        before = omega (arith, own.before, within);
        greater = λ k after lt. ⊎_elim
            (λ (early : k < at). omega (arith, own.greater k after early, more))
            (λ (late : at ≤ k). greater k late lt)
            (cases_lt k at);
      };
    } in
    subst (λ (n : ℕ). GoesBack cells reaches v from (get_or reaches n 0)) index is
