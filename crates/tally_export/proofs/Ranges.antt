-- The ballots in ranges of the cells of a store: which they are, and how few.
use Rattle.std.proofs.Common.{◌≡◌, ◌≢◌, ℕ, ◌+◌, ◌-◌, ◌<◌, ◌≤◌, List, [], ◌∷◌, ◌++◌, Some, None, drop, get_or, length, take, sym, ap, subst, ◌∙◌, arith, length-append}
use Rattle.store_spec.proofs.Common.{Ballot, IsPermutation, IsPermutation-sym, ballot_of, cell_count, cells_of, drop-drop, length_permutation, take-add, take-append-drop, take_all}
use Rattle.body_store.proofs.BallotSets.{MayHold, held_layout, may_hold_set}
use Rattle.body_store.proofs.Spelled.{ballot_known, held_append, held_in_layout, held_next, held_past_empty, known_in_layout, none_with_zero}
use Rattle.body_store.specs.Contents.{Contents, IsStored}
use Rattle.body_store.specs.Held.{as_list, held_in}
use Rattle.tally_export.specs.Ranges.{ballots_in}

abbrev cells_in : Contents → List ℕ
cells_in store = cells_of store.election store.ballots

stored_set : (store : Contents) → IsStored store → MayHold store.election store.ballots
stored_set store stored = may_hold_set store.election store.ballots stored.set stored.within_limit

-- a range is its front and what is behind it
pub both_in : (store : Contents) (from middle end : ℕ) → from ≤ middle → middle ≤ end
    → ballots_in store from middle ++ ballots_in store middle end ≡ ballots_in store from end
both_in store from middle end front back =
    let behind = drop from (cells_in store) in
    let more = end - middle in
    let on : drop (middle - from) behind ≡ drop middle (cells_in store) = drop-drop (middle - from) from (cells_in store)
    ∙ ap (λ n. drop n (cells_in store)) (let same : from + (middle - from) ≡ middle = omega arith in same) in
    sym (ap (λ n. held_in store.ballots (take n behind)) (let both : end - from ≡ (middle - from) + more = omega arith in both)
    ∙ ap (held_in store.ballots) (take-add (middle - from) more behind)
    ∙ ap (λ cells. held_in store.ballots (take (middle - from) behind ++ take more cells)) on
    ∙ held_append store.ballots (take (middle - from) behind) (take more (drop middle (cells_in store))))

-- all cells hold the ballots of the store
pub all_in : (store : Contents) (end : ℕ) → IsStored store → end ≡ cell_count store.election
    → IsPermutation (ballots_in store 0 end) store.ballots
all_in store end stored is =
    let held = stored_set store stored in
    let size = (held_layout store.election store.ballots stored.election held).size in
    let whole : take (end - 0) (cells_in store) ≡ cells_in store = take_all (end - 0) (cells_in store) (omega arith) in
    subst (λ (cells : List ℕ). IsPermutation (held_in store.ballots cells) store.ballots) (sym whole)
    (IsPermutation-sym store.ballots (held_in store.ballots (cells_in store)) (held_in_layout store.election store.ballots stored.election held))

-- the cells of a store, as its calls hand them out
pub record AreCells (store : Contents) (cells : List ℕ) : Type 0 where
  pub stored : IsStored store
  pub same : cells ≡ cells_of store.election store.ballots

pub cell_count_is : (store : Contents) (cells : List ℕ) → AreCells store cells → length cells ≡ cell_count store.election
cell_count_is store cells are =
    ap length are.same ∙ (held_layout store.election store.ballots are.stored.election (stored_set store are.stored)).size

-- a cell with a number has a ballot
pub ballot_there : (store : Contents) (cells : List ℕ) (cell : ℕ) → AreCells store cells → get_or cells cell 0 ≢ 0
    → (b : Ballot) × (ballot_of store.ballots (get_or (cells_in store) cell 0) ≡ Some b)
ballot_there store cells cell are some =
    let same : get_or cells cell 0 ≡ get_or (cells_in store) cell 0 = ap (λ ns. get_or ns cell 0) are.same in
    let found = ballot_known store.ballots (get_or (cells_in store) cell 0)
    (known_in_layout store.election store.ballots are.stored.election (stored_set store are.stored) cell (λ none. some (same ∙ none))) in
    (found.0, found.1)

none_empty : (store : Contents) → IsStored store → ballot_of store.ballots 0 ≡ None
none_empty store stored = none_with_zero store.election store.ballots stored.set.valid

-- empty cells hold nothing
pub past_empty_in : (store : Contents) (cells : List ℕ) (from cell next : ℕ) → AreCells store cells → from ≤ cell → cell ≤ next
    → next ≤ length cells → ((k : ℕ) → cell ≤ k → k < next → get_or cells k 0 ≡ 0)
    → ballots_in store from next ≡ ballots_in store from cell
past_empty_in store cells from cell next are onward past within empty =
    held_past_empty store.ballots (cells_in store) from cell next (none_empty store are.stored) onward past
    (omega (arith, within, ap length are.same)) (λ k after before. ap (λ ns. get_or ns k 0) (sym are.same) ∙ empty k after before)

-- one cell more holds one ballot more
pub next_in : (store : Contents) (cells : List ℕ) (from cell : ℕ) (b : Ballot) → AreCells store cells → from ≤ cell → cell < length cells
    → ballot_of store.ballots (get_or (cells_in store) cell 0) ≡ Some b
    → ballots_in store from (cell + 1) ≡ ballots_in store from cell ++ b ∷ []
next_in store cells from cell b are onward within there =
    held_next store.ballots (cells_in store) from cell onward (omega (arith, within, ap length are.same))
    ∙ ap (λ found. ballots_in store from cell ++ as_list found) there

pub none_in : (store : Contents) (from : ℕ) → ballots_in store from from ≡ []
none_in store from =
    ap (λ n. held_in store.ballots (take n (drop from (cells_in store)))) (let none : from - from ≡ 0 = omega arith in none)

fewer_in_front : (ballots : List Ballot) (n : ℕ) (cells : List ℕ) → length (held_in ballots (take n cells)) ≤ length (held_in ballots cells)
fewer_in_front ballots n cells =
    omega (
      arith,
      length-append (held_in ballots (take n cells)) (held_in ballots (drop n cells)),
      ap length (sym (held_append ballots (take n cells) (drop n cells)) ∙ ap (held_in ballots) (take-append-drop n cells)),
    )

fewer_behind : (ballots : List Ballot) (n : ℕ) (cells : List ℕ) → length (held_in ballots (drop n cells)) ≤ length (held_in ballots cells)
fewer_behind ballots n cells =
    omega (
      arith,
      length-append (held_in ballots (take n cells)) (held_in ballots (drop n cells)),
      ap length (sym (held_append ballots (take n cells) (drop n cells)) ∙ ap (held_in ballots) (take-append-drop n cells)),
    )

-- no range holds more than a store may
pub few_in : (store : Contents) (from end : ℕ) → IsStored store → length (ballots_in store from end) ≤ 32768
few_in store from end stored =
    let held = stored_set store stored in
    let there = length_permutation store.ballots (held_in store.ballots (cells_in store)) (held_in_layout store.election store.ballots stored.election held) in
    omega (
      arith,
      there,
      stored.within_limit,
      stored.election.few_ballots,
      fewer_in_front store.ballots (end - from) (drop from (cells_in store)),
      fewer_behind store.ballots from (cells_in store),
    )
