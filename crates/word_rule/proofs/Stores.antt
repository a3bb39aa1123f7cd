-- The words of a store: its homes, and the numbers in its cells.
use Rattle.std.proofs.Common.{◌≡◌, ◌≢◌, ℕ, ◌+◌, ◌^◌, ◌<◌, ◌≤◌, ⊎_elim, List, ◌++◌, length, sym, ap, ◌∙◌, subst, arith}
use Rattle.store_spec.proofs.Common.{All-contains, AllPairs, Ballot, Contains, Election, HasRoom, IsLayout, IsOrdered, cases_eq, cell_count, cells_of, count_of, home_in, home_of, laid_out, layout_of, numbers_in, numbers_of, sum_by-append, times, without}
use Rattle.layout_def.proofs.Ascending.{length-ascending}
use Rattle.layout_def.proofs.Fronts.{distinct_in, holds_own}
use Rattle.layout_def.proofs.LaidOut.{layout_of_is}
use Rattle.probe_order.specs.Below.{home_of-lt}
use Rattle.step_core.proofs.Listings.{no_zero_in_cells, same_ascending, times_without, times_without_none}
use Rattle.step_core.proofs.Sets.{counted, is_one, none_counted, once_distinct, stands_counted}
use Rattle.step_core.specs.Shape.{homes_of}
use Rattle.step_core.specs.declared.shape.Shape.{Shape}
use Rattle.store_spec.specs.Election.{most_bits}
use Rattle.word_rule.specs.Seats.{SharedWords}
use Rattle.word_rule.specs.Stores.{AreWordsOf, IsShapeOf}

-- ---- homes

module _ (e : Election) (shape : Shape) (is : IsShapeOf e shape) where
  same_homes : homes_of shape ≡ home_in e
  same_homes = ap (λ b. home_of b shape.order.salt) is.bits ∙ ap (home_of e.bits) is.salt

  -- cells in order of the election's homes are so of the shape's
  pub ordered_by : (cells : List ℕ) → IsOrdered (home_in e) cells → IsOrdered (homes_of shape) cells
  ordered_by cells = subst (λ (home : ℕ → ℕ). IsOrdered home cells) (sym same_homes)

  -- each home is a cell
  pub home_in_cells : e.bits ≤ most_bits → (number home : ℕ) → home ≡ homes_of shape number → home < shape.cells
  home_in_cells few number home at =
      let below = home_of-lt e.bits e.salt number few in
      let same : home ≡ home_in e number = at ∙ ap (λ (to : ℕ → ℕ). to number) same_homes in
      omega (arith, same, below, is.cells)

-- ---- the numbers in the cells

-- lists in which each number stands at most once, and the same numbers do
same_counts : (xs ys : List ℕ) → AllPairs (λ a b. a ≢ b) xs → AllPairs (λ a b. a ≢ b) ys → ((v : ℕ) → Contains xs v → Contains ys v) → ((v : ℕ) → Contains ys v → Contains xs v) → (v : ℕ) → v ≢ 0 → count_of v xs ≡ count_of v ys
same_counts xs ys apart other there back v some = ⊎_elim
    (λ (none : count_of v xs ≡ 0). none ∙ sym (none_counted v ys (λ c. let one = counted v xs (back v c) in omega arith)))
    (λ (more : count_of v xs ≢ 0).
    let one = stands_counted v xs (omega arith) in
    omega (arith, once_distinct xs apart v some, once_distinct ys other v some, counted v xs one, counted v ys (there v one)))
    (cases_eq (count_of v xs) 0)

module _ (e : Election) (ballots : List Ballot) (room : HasRoom (home_in e) (2 ^ e.bits) (cell_count e) (numbers_of ballots)) where
  abbrev numbers : List ℕ
  numbers = numbers_of ballots

  abbrev cells : List ℕ
  cells = cells_of e ballots

  is_layout : IsLayout (home_in e) (cell_count e) numbers cells
  is_layout = layout_of_is (home_in e) (2 ^ e.bits) (cell_count e) numbers room

  pub some_number : (v : ℕ) → Contains numbers v → v ≢ 0
  some_number v c = All-contains (λ n. n ≢ 0) numbers v room.some c

  -- a number in cells is not 0
  some_in : (v : ℕ) → Contains (numbers_in cells) v → v ≢ 0
  some_in v c zero =
      let one = counted v (numbers_in cells) c in
      let none : count_of v (numbers_in cells) ≡ 0 = ap (λ n. count_of n (numbers_in cells)) zero ∙ no_zero_in_cells cells in
      omega arith

  pub from_cells : (v : ℕ) → Contains (numbers_in cells) v → Contains numbers v
  from_cells v c = is_layout.exactly.only v (some_in v c) ((holds_own cells).each v c)

  pub in_cells : (v : ℕ) → Contains numbers v → Contains (numbers_in cells) v
  in_cells v c = (holds_own cells).only v (some_number v c) (is_layout.exactly.each v c)

  same_times : (v : ℕ) → count_of v (numbers_in cells) ≡ count_of v numbers
  same_times v = ⊎_elim
      (λ (zero : v ≡ 0). none_counted v (numbers_in cells) (λ c. some_in v c zero) ∙ sym (none_counted v numbers (λ c. some_number v c zero)))
      (λ (some : v ≢ 0). same_counts (numbers_in cells) numbers (distinct_in (home_in e) cells is_layout.ordered) room.distinct from_cells in_cells v some)
      (cases_eq v 0)

  pub as_many : length (numbers_in cells) ≡ length numbers
  as_many = sym (length-ascending (numbers_in cells)) ∙ ap length (same_ascending (numbers_in cells) numbers same_times) ∙ length-ascending numbers

  -- ---- the cells at the end

  -- what the words of the store lay out is laid out in the election's cells
  laid_out_by : (words : SharedWords) → AreWordsOf e ballots words → (change : List ℕ → List ℕ)
      → layout_of (homes_of words.shape) words.shape.cells (change (numbers_in words.base)) ≡ layout_of (home_in e) (cell_count e) (change (numbers_in cells))
  laid_out_by words are change =
      ap (λ (home : ℕ → ℕ). layout_of home words.shape.cells (change (numbers_in words.base))) (same_homes e words.shape are.shape)
      ∙ ap (λ n. layout_of (home_in e) n (change (numbers_in words.base))) are.shape.cells
      ∙ ap (λ l. layout_of (home_in e) (cell_count e) (change (numbers_in l))) are.held

  -- with other numbers
  pub laid_out_with : (words : SharedWords) → AreWordsOf e ballots words → (more : List ℕ) → layout_of (homes_of words.shape) words.shape.cells (numbers_in words.base ++ more) ≡ layout_of (home_in e) (cell_count e) (numbers ++ more)
  laid_out_with words are more =
      laid_out_by words are (λ l. l ++ more)
      ∙ ap (laid_out (home_in e) (cell_count e)) (same_ascending (numbers_in cells ++ more) (numbers ++ more)
      (λ v. sum_by-append (is_one v) (numbers_in cells) more ∙ ap (λ n. n + count_of v more) (same_times v) ∙ sym (sum_by-append (is_one v) numbers more)))

  -- without some
  pub laid_out_without : (words : SharedWords) → AreWordsOf e ballots words → (gone : List ℕ) → layout_of (homes_of words.shape) words.shape.cells (without (numbers_in words.base) gone) ≡ layout_of (home_in e) (cell_count e) (without numbers gone)
  laid_out_without words are gone =
      laid_out_by words are (λ l. without l gone)
      ∙ ap (laid_out (home_in e) (cell_count e)) (same_ascending (without (numbers_in cells) gone) (without numbers gone) (λ x. ⊎_elim
      (λ (none : times gone x ≡ 0). times_without (numbers_in cells) gone x none ∙ same_times x ∙ sym (times_without numbers gone x none))
      (λ (some : times gone x ≢ 0). times_without_none (numbers_in cells) gone x (omega arith) ∙ sym (times_without_none numbers gone x (omega arith)))
      (cases_eq (times gone x) 0)))
