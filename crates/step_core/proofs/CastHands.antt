-- Numbers in hand: how they weigh, that their places are cells, and that no cell holds them.
use Rattle.std.proofs.Common.{◌≡◌, ◌≢◌, ◌==◌, ℕ, zero, suc, ◌+◌, ◌<◌, ◌≤◌, ⊎_elim, Some, List, [], ◌∷◌, cond, length, get_or, set, take, drop, refl, ap, ◌∙◌, arith}
use Rattle.store_spec.proofs.Common.{All, All-head, All-tail, CastInvariant, CastView, Contains, HasRoomFor, MayStand, Table, cases_eq, cases_lt, cond-false, cond-true, eq-eqb, get_or-le-sum_by, get_or-map, get_or-take, get_or_from_slice_get, get_or_past, hands_of, in_hand, length-drop, length-map, length-take-le, map-set, ne_eqb, slice_get, sum_by, sum_by-append, sum_by-cons, sum_by-set}
use Rattle.std.proofs.lemmas.List.Sums.{sum_by-le, sum_by-take-le}
use Rattle.step_core.proofs.SameNumbers.{weigh}
use Rattle.step_core.proofs.Sets.{counted, is_one, is_one-same, is_one-zero, stands_within}

hand_at : (views : List CastView) (id : ℕ) (view : CastView) → slice_get views id ≡ Some view → get_or (hands_of views) id 0 ≡ in_hand view.state
hand_at views id view stands =
    get_or-map (λ (v : CastView). in_hand v.state) views id view 0 (stands_within views id view stands)
    ∙ ap (λ (v : CastView). in_hand v.state) (get_or_from_slice_get views id view view stands)

hands_within : (views : List CastView) (id : ℕ) (view : CastView) → slice_get views id ≡ Some view → id < length (hands_of views)
hands_within views id view stands = omega (arith, length-map views (λ (v : CastView). in_hand v.state), stands_within views id view stands)

-- one view changes
pub hands-set : (weight : ℕ → ℕ) (views : List CastView) (id : ℕ) (view now : CastView) → slice_get views id ≡ Some view → sum_by weight (hands_of (set views id now)) + weight (in_hand view.state) ≡ sum_by weight (hands_of views) + weight (in_hand now.state)
hands-set weight views id view now stands =
    let moved : hands_of (set views id now) ≡ set (hands_of views) id (in_hand now.state) = map-set (λ (v : CastView). in_hand v.state) views id now in
    let change = sum_by-set weight (hands_of views) id (in_hand now.state) 0 (hands_within views id view stands) in
    let was = ap weight (hand_at views id view stands) in
    let all = ap (sum_by weight) moved in
    omega arith

-- ---- a place in range

-- 1 for a number, and nothing for 0
abbrev pub is_some : ℕ → ℕ
is_some x = cond (x == 0) 0 1

pub some-one : (x : ℕ) → x ≢ 0 → is_some x ≡ 1
some-one x some = cond-false _ 0 1 (ne_eqb x 0 some)

some-le : (x : ℕ) → is_some x ≤ 1
some-le x = ⊎_elim
    (λ (e : x ≡ 0). let none : is_some x ≡ 0 = cond-true _ 0 1 (eq-eqb x 0 e) in omega arith)
    (λ (d : x ≢ 0). omega (arith, some-one x d))
    (cases_eq x 0)

pub counts_few : (xs : List ℕ) → sum_by is_some xs ≤ length xs
counts_few xs = omega (arith, sum_by-le is_some 1 xs (λ k d within. some-le (get_or xs k d)))

-- where no number is 0, all count
pub all_count : (xs : List ℕ) → All (λ v. v ≢ 0) xs → sum_by is_some xs ≡ length xs
all_count [] some = refl
all_count (x ∷ xs) some =
    omega (arith, sum_by-cons is_some x xs, some-one x (All-head (λ v. v ≢ 0) x xs some), all_count xs (All-tail (λ v. v ≢ 0) x xs some))

-- cells that are filled from a place on are many
filled_counts : (from : ℕ) (cells : List ℕ) → ((k : ℕ) → from ≤ k → k < length cells → get_or cells k 0 ≢ 0) → length cells ≤ sum_by is_some cells + from
filled_counts from [] filled = omega arith
filled_counts zero (cell ∷ cells) filled =
    let rest = filled_counts zero cells (λ k on lt. filled (suc k) (omega arith) (omega arith)) in
    omega (arith, sum_by-cons is_some cell cells, some-one cell (filled 0 (omega arith) (omega arith)))
filled_counts (suc from) (cell ∷ cells) filled =
    let rest = filled_counts from cells (λ k on lt. filled (suc k) (omega arith) (omega arith)) in
    omega (arith, sum_by-cons is_some cell cells)

pub cells_size : (t : Table) (base words : List ℕ) (views : List CastView) → CastInvariant t base words views → length (take t.cells words) ≡ t.cells
cells_size t base words views h = length-take-le t.cells words (omega (arith, h.size))

pub claims_size : (t : Table) (base words : List ℕ) (views : List CastView) → CastInvariant t base words views → length (drop t.cells words) ≡ t.claims
claims_size t base words views h = omega (arith, h.size, length-drop t.cells words)

-- There is a cell for each number, and one to spare: a hand that meets greater numbers from its home on is not past the last.
pub hand_fits : (t : Table) (base words : List ℕ) (views : List CastView) (id : ℕ) (view : CastView) (v place : ℕ) → HasRoomFor t base → CastInvariant t base words views → slice_get views id ≡ Some view → in_hand view.state ≡ v → v ≢ 0 → MayStand t.home (take t.cells words) v place → place + 2 ≤ t.cells
hand_fits t base words views id view v place room h stands holds some may =
    let cells = take t.cells words in
    let claims = drop t.cells words in
    let size = cells_size t base words views h in
    let claims_are = claims_size t base words views h in
    let from = may.from_home in
    let homed = room.homed v in
    let enough = room.room in
    let greater = may.greater_before in
    let not_past : place ≤ t.cells = ⊎_elim
    (λ (past : t.cells < place).
    let more : v < get_or cells t.cells 0 = greater t.cells (omega arith) past in
    absurd (omega (arith, get_or_past cells t.cells 0 (omega arith))))
    (λ le. le)
    (cases_lt t.cells place) in
    let front = take place cells in
    let front_size : length front ≡ place = length-take-le place cells (omega arith) in
    let filled = filled_counts (t.home v) front (λ k on lt zero_here.
    let k_before : k < place = omega arith in
    let more : v < get_or cells k 0 = greater k on k_before in
    omega (arith, get_or-take place cells k 0 k_before)) in
    let fewer = sum_by-take-le is_some cells place in
    let in_hands = get_or-le-sum_by is_some (hands_of views) id 0 (hands_within views id view stands) in
    let own = ap is_some (hand_at views id view stands ∙ holds) in
    let all = sum_by-append is_some cells (hands_of views) in
    let owned = weigh h.owned is_some refl in
    let held = sum_by-append is_some base claims in
    omega (arith, counts_few base, counts_few claims, some-one v some)

-- a number in hand stands in no cell
pub hand_nowhere : (t : Table) (base words : List ℕ) (views : List CastView) (id : ℕ) (view : CastView) (v : ℕ) → CastInvariant t base words views → slice_get views id ≡ Some view → in_hand view.state ≡ v → v ≢ 0 → ¬ Contains (take t.cells words) v
hand_nowhere t base words views id view v h stands holds some c =
    let cells = take t.cells words in
    let in_cells = counted v cells c in
    let in_hands = get_or-le-sum_by (is_one v) (hands_of views) id 0 (hands_within views id view stands) in
    let own = ap (is_one v) (hand_at views id view stands ∙ holds) in
    let all = sum_by-append (is_one v) cells (hands_of views) in
    let owned = weigh h.owned (is_one v) (is_one-zero v some) in
    let once = h.claimed.once v some in
    omega (arith, is_one-same v)
