-- The layout of a set of numbers is ordered, holds exactly these numbers, and leaves its last cell empty.
use Rattle.std.proofs.Common.{◌≡◌, ◌≢◌, ℕ, zero, suc, ◌+◌, ◌-◌, ◌<◌, ◌≤◌, inl, inr, ⊎_elim, List, [], ◌∷◌, length, get_or, set, replicate, drop, sym, refl, ap, ◌∙◌, subst, arith}
use Rattle.store_spec.proofs.Common.{All, All-contains, All-permutation, AllPairs, AllPairs-cons, Contains-get_or, HasRoom, HoldsExactly, IsFilled, IsFirstEmpty, IsLayout, IsNonDecreasing, IsOrdered, IsPermutation, ascending, cases_eq, cases_lt, drop_more, get_or-set_other, get_or-set_same, laid_out, layout_of, length-drop, length-replicate, length-set, length_permutation, slice_index}
use Rattle.layout_def.proofs.Ascending.{IsIn, IsRising, in_ascending, from_ascending, in_from_contains, contains_from_in, length-ascending, ascending_distinct, ascending_rising, distinct-IsPermutation}
use Rattle.layout_def.proofs.OrderedCells.{same_cells, place_from_contains, contains_from_place}
use Rattle.layout_def.proofs.Placing.{first_empty, placed_at, filled, filled_none, filled_set, filled_to_end}

-- what placing keeps, number by number
pub record IsLaidOut (home : ℕ → ℕ) (count : ℕ) (numbers cells : List ℕ) : Type 0 where
  pub size : length cells ≡ count
  pub ordered : IsOrdered home cells
  pub each : (v : ℕ) → IsIn v numbers → (p : ℕ) × (p < length cells) × (get_or cells p 0 ≡ v)
  pub only : (p : ℕ) → get_or cells p 0 ≢ 0 → IsIn (get_or cells p 0) numbers
  pub few : filled cells ≤ length numbers

-- numbers that may be placed
abbrev pub AreHomed : (ℕ → ℕ) → ℕ → List ℕ → Type 0
AreHomed home homes numbers = (v : ℕ) → IsIn v numbers → (v ≢ 0) × (home v < homes)

pub empty_cell : (count p : ℕ) → slice_index (replicate count 0) p ≡ 0
empty_cell zero p = refl
empty_cell (suc count) zero = refl
empty_cell (suc count) (suc p) = empty_cell count p

pub none_ordered : (home : ℕ → ℕ) (count : ℕ) → IsOrdered home (replicate count 0)
none_ordered home count = record {
  from_home = λ p n. absurd (n (empty_cell count p));
  greater_before = λ p q n from before. absurd (n (empty_cell count p));
}

none_laid_out : (home : ℕ → ℕ) (count : ℕ) → IsLaidOut home count [] (replicate count 0)
none_laid_out home count = record {
  size = length-replicate count 0;
  ordered = none_ordered home count;
  each = λ v i. absurd i;
  only = λ p n. absurd (n (empty_cell count p));
  few = omega (arith, filled_none count);
}

-- one number more, less than all the others, in the first empty cell
at_new : (cells : List ℕ) (p v q : ℕ) → p < length cells → q ≡ p → get_or (set cells p v) q 0 ≡ v
at_new cells p v q lt e = ap (λ k. get_or (set cells p v) k 0) e ∙ get_or-set_same cells p v 0 lt

more_ordered : (home : ℕ → ℕ) (v : ℕ) (greater cells : List ℕ) (p : ℕ) → ((y : ℕ) → IsIn y greater → v < y) → IsOrdered home cells → ((q : ℕ) → get_or cells q 0 ≢ 0 → IsIn (get_or cells q 0) greater) → IsFirstEmpty cells (home v) p → IsOrdered home (set cells p v)
more_ordered home v greater cells p least h only first =
    let after = set cells p v in
    let new = λ (q : ℕ) (e : q ≡ p). at_new cells p v q first.within e in
    let old = λ (q : ℕ) (n : q ≢ p). get_or-set_other cells p q v 0 n in
    record {
      from_home = λ q n. ⊎_elim
          (λ (e : q ≡ p). subst (λ (w : ℕ). home w ≤ q) (sym (new q e)) (let le = first.after in omega arith))
          (λ (d : q ≢ p). subst (λ (w : ℕ). home w ≤ q) (sym (old q d)) (h.from_home q (λ z. n (old q d ∙ z))))
          (cases_eq q p);
      greater_before = λ q k n from before. ⊎_elim
          (λ (e : q ≡ p).
          let from_v : home v ≤ k = subst (λ (w : ℕ). home w ≤ k) (new q e) from in
          let other : k ≢ p = λ z. omega arith in
          let held = first.full k from_v (omega arith) in
          let more : v < get_or cells k 0 = least _ (only k held) in
          omega (arith, new q e, old k other))
          (λ (d : q ≢ p).
          let held : get_or cells q 0 ≢ 0 = λ z. n (old q d ∙ z) in
          let more : get_or cells q 0 < get_or cells k 0 = h.greater_before q k held (subst (λ (w : ℕ). home w ≤ k) (old q d) from) before in
          let other : k ≢ p = λ z. let gone : get_or cells k 0 ≡ 0 = ap (λ m. get_or cells m 0) z ∙ first.empty in omega arith in
          omega (arith, old q d, old k other))
          (cases_eq q p);
    }

more_laid_out : (home : ℕ → ℕ) (count v : ℕ) (greater cells : List ℕ) (p : ℕ) → v ≢ 0 → ((y : ℕ) → IsIn y greater → (y ≢ 0) × (v < y)) → IsLaidOut home count greater cells → IsFirstEmpty cells (home v) p → IsLaidOut home count (v ∷ greater) (set cells p v)
more_laid_out home count v greater cells p n least h first =
    let new = λ (q : ℕ) (e : q ≡ p). at_new cells p v q first.within e in
    let old = λ (q : ℕ) (d : q ≢ p). get_or-set_other cells p q v 0 d in
    record {
      size = length-set cells p v ∙ h.size;
      ordered = more_ordered home v greater cells p (λ y i. (least y i).1) h.ordered h.only first;
      each = λ y i. ⊎_elim
          (λ (e : v ≡ y). (p, omega (arith, length-set cells p v, first.within), new p refl ∙ e))
          (λ j.
          let s = h.each y j in
          let other : s.0 ≢ p = λ z. (least y j).0 (sym s.2 ∙ ap (λ m. get_or cells m 0) z ∙ first.empty) in
          (s.0, omega (arith, length-set cells p v, s.1), old s.0 other ∙ s.2))
          i;
      only = λ q some. ⊎_elim
          (λ (e : q ≡ p). inl (sym (new q e)))
          (λ (d : q ≢ p). inr (subst (λ (w : ℕ). IsIn w greater) (sym (old q d)) (h.only q (λ z. some (old q d ∙ z)))))
          (cases_eq q p);
      few = omega (arith, filled_set cells p v, h.few);
    }

-- the place that the next number finds
pub place_of_next : (home : ℕ → ℕ) (homes count v : ℕ) (greater cells : List ℕ) → home v < homes → homes + length (v ∷ greater) ≤ count → IsLaidOut home count greater cells → (p : ℕ) × IsFirstEmpty cells (home v) p
place_of_next home homes count v greater cells homed room h = ⊎_elim
    (λ s. s)
    (λ full. absurd (omega (arith, filled_to_end (home v) cells full, h.few, h.size)))
    (first_empty (home v) cells)

pub laid_out_is : (home : ℕ → ℕ) (homes count : ℕ) (numbers : List ℕ) → IsRising numbers → AreHomed home homes numbers → homes + length numbers ≤ count → IsLaidOut home count numbers (laid_out home count numbers)
laid_out_is home homes count [] rising homed room = none_laid_out home count
laid_out_is home homes count (v ∷ greater) rising homed room =
    let before = laid_out_is home homes count greater rising.1 (λ y i. homed y (inr i)) (omega arith) in
    let own = homed v (inl refl) in
    let s = place_of_next home homes count v greater _ own.1 room before in
    let first = s.1 in
    subst (λ (t : List ℕ). IsLaidOut home count (v ∷ greater) t)
    (sym (placed_at v (home v) _ s.0 first.after first.within first.empty first.full))
    (more_laid_out home count v greater _ s.0 own.0 (λ y i. ((homed y (inr i)).0, rising.0 y i)) before first)

-- the last cell is empty
pub last_cell : (home : ℕ → ℕ) (homes count : ℕ) (numbers cells : List ℕ) → AreHomed home homes numbers → homes + length numbers ≤ count → IsLaidOut home count numbers cells → get_or cells (count - 1) 0 ≡ 0
last_cell home homes count numbers cells homed room h = ⊎_elim
    (λ (e : get_or cells (count - 1) 0 ≡ 0). e)
    (λ (n : get_or cells (count - 1) 0 ≢ 0).
    let last = get_or cells (count - 1) 0 in
    let own = homed last (h.only (count - 1) n) in
    let full : IsFilled cells (home last) (length cells) = λ k from to. ⊎_elim
    (λ (before : k < count - 1). let more = h.ordered.greater_before (count - 1) k n from before in λ z. omega arith)
    (λ (end : count - 1 ≤ k). let same : k ≡ count - 1 = omega (arith, h.size) in λ z. n (ap (λ m. get_or cells m 0) (sym same) ∙ z))
    (cases_lt k (count - 1)) in
    absurd (omega (arith, filled_to_end (home last) cells full, h.few, h.size, own.1)))
    (cases_eq (get_or cells (count - 1) 0) 0)

-- ---- the laws

pub homed_ascending : (home : ℕ → ℕ) (homes count : ℕ) (numbers : List ℕ) → HasRoom home homes count numbers → AreHomed home homes (ascending numbers)
homed_ascending home homes count numbers h = λ v i.
    let c = contains_from_in v numbers (from_ascending v numbers i) in
    (All-contains (λ w. w ≢ 0) numbers v h.some c, All-contains (λ w. home w < homes) numbers v h.homed c)

pub layout_of_laid_out : (home : ℕ → ℕ) (homes count : ℕ) (numbers : List ℕ) → HasRoom home homes count numbers → IsLaidOut home count (ascending numbers) (layout_of home count numbers)
layout_of_laid_out home homes count numbers h =
    laid_out_is home homes count (ascending numbers) (ascending_distinct numbers h.distinct) (homed_ascending home homes count numbers h) (omega (arith, h.room, length-ascending numbers))

pub layout_of_is : (home : ℕ → ℕ) (homes count : ℕ) (numbers : List ℕ) → HasRoom home homes count numbers → IsLayout home count numbers (layout_of home count numbers)
layout_of_is home homes count numbers h =
    let laid = layout_of_laid_out home homes count numbers h in
    let cells = layout_of home count numbers in
    record {
      size = laid.size;
      ordered = laid.ordered;
      exactly = record {
        each = λ v c. let s = laid.each v (in_ascending v numbers (in_from_contains v numbers c)) in contains_from_place cells v s.0 s.1 s.2;
        only = λ v n c.
            let s = place_from_contains cells v c in
            let i = laid.only s.0 (λ z. n (sym s.2 ∙ z)) in
            contains_from_in v numbers (from_ascending v numbers (subst (λ (w : ℕ). IsIn w (ascending numbers)) s.2 i));
      };
      last_empty = last_cell home homes count (ascending numbers) cells (homed_ascending home homes count numbers h) (omega (arith, h.room, length-ascending numbers)) laid;
    }

pub ordered_is_layout_of : (home : ℕ → ℕ) (homes count : ℕ) (numbers cells : List ℕ) → HasRoom home homes count numbers → length cells ≡ count → IsOrdered home cells → HoldsExactly cells numbers → cells ≡ layout_of home count numbers
ordered_is_layout_of home homes count numbers cells h len ordered holds =
    let is = layout_of_is home homes count numbers h in
    same_cells home cells (layout_of home count numbers) ordered is.ordered (len ∙ sym is.size)
    (λ v n c. is.exactly.each v (holds.only v n c))
    (λ v n c. holds.each v (is.exactly.only v n c))

-- ---- the same set in another order

-- distinct numbers in order rise
pub rising_in_order : (xs : List ℕ) → IsNonDecreasing xs → AllPairs (λ a b. a ≢ b) xs → IsRising xs
rising_in_order xs up apart = subst (λ (l : List ℕ). IsRising l) (ascending_rising xs up) (ascending_distinct xs apart)

-- the same numbers in another order have room where these had
pub room-IsPermutation : (home : ℕ → ℕ) (homes count : ℕ) (xs ys : List ℕ) → IsPermutation xs ys → HasRoom home homes count xs → HasRoom home homes count ys
room-IsPermutation home homes count xs ys p h = record {
  distinct = distinct-IsPermutation xs ys p h.distinct;
  some = All-permutation (λ v. v ≢ 0) xs ys p h.some;
  homed = All-permutation (λ v. home v < homes) xs ys p h.homed;
  room = let len = length_permutation xs ys p in let enough = h.room in omega arith;
}

-- ---- the next number down

rising-drop : (n : ℕ) (xs : List ℕ) → IsRising xs → IsRising (drop n xs)
rising-drop zero xs h = h
rising-drop (suc n) [] h = tt
rising-drop (suc n) (x ∷ xs) h = rising-drop n xs h.1

from_drop : (n v : ℕ) (xs : List ℕ) → IsIn v (drop n xs) → IsIn v xs
from_drop zero v xs i = i
from_drop (suc n) v [] i = i
from_drop (suc n) v (x ∷ xs) i = inr (from_drop n v xs i)

-- Of numbers that rise those from a place on are laid out. The number before them finds an empty cell.
pub next_finds : (home : ℕ → ℕ) (homes count : ℕ) (xs : List ℕ) (n : ℕ) → IsNonDecreasing xs → HasRoom home homes count xs → n < length xs → (p : ℕ) × IsFirstEmpty (laid_out home count (drop (n + 1) xs)) (home (get_or xs n 0)) p
next_finds home homes count xs n up h lt =
    let rising = rising_in_order xs up h.distinct in
    let homed : AreHomed home homes xs = λ v i. let c = contains_from_in v xs i in (All-contains (λ w. w ≢ 0) xs v h.some c, All-contains (λ w. home w < homes) xs v h.homed c) in
    let rest : AreHomed home homes (drop (n + 1) xs) = λ v i. homed v (from_drop (n + 1) v xs i) in
    let enough = h.room in
    let short = length-drop (n + 1) xs in
    place_of_next home homes count (get_or xs n 0) (drop (n + 1) xs) _
    (homed _ (in_from_contains _ xs (Contains-get_or xs n 0 lt))).1
    (let room : homes + suc (length (drop (n + 1) xs)) ≤ count = omega arith in room)
    (laid_out_is home homes count (drop (n + 1) xs) (rising-drop (n + 1) xs rising) rest (omega arith))

-- it goes there
pub next_placed : (home : ℕ → ℕ) (count : ℕ) (xs : List ℕ) (n p : ℕ) → n < length xs → IsFirstEmpty (laid_out home count (drop (n + 1) xs)) (home (get_or xs n 0)) p → laid_out home count (drop n xs) ≡ set (laid_out home count (drop (n + 1) xs)) p (get_or xs n 0)
next_placed home count xs n p lt first =
    ap (laid_out home count) (drop_more xs n 0 lt)
    ∙ placed_at (get_or xs n 0) (home (get_or xs n 0)) _ p first.after first.within first.empty first.full

-- and numbers in order are laid out as they stand
pub layout_of_rising : (home : ℕ → ℕ) (count : ℕ) (xs : List ℕ) → IsNonDecreasing xs → layout_of home count xs ≡ laid_out home count xs
layout_of_rising home count xs up = ap (laid_out home count) (ascending_rising xs up)

-- numbers that rise are each below all later ones
pub ascending_from_rising : (xs : List ℕ) → IsRising xs → AllPairs (λ a b. a < b) xs
ascending_from_rising [] h = λ i j d lt in_range. absurd (omega arith)
ascending_from_rising (x ∷ xs) h =
    let below : All (λ b. x < b) xs = λ k d in_range. h.0 _ (in_from_contains _ xs (Contains-get_or xs k d in_range)) in
    AllPairs-cons (λ a b. a < b) x xs below (ascending_from_rising xs h.1)
