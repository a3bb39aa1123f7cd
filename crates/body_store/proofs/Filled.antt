-- The cells of a block that have a number, marked in a word, and listed one by one.
use Rattle.std.proofs.Common.{◌≡◌, ◌≢◌, ℕ, zero, suc, ◌+◌, ◌-◌, ◌<◌, ◌≤◌, List, [], ◌∷◌, ◌++◌, ap, ap₂, ◌∙◌, arith, cond, drop, eqb, get_or, length, subst, sym, take, ⊎_elim}
use Rattle.store_spec.proofs.Common.{append-nil, append_assoc, bit_at, cases_eq, cases_lt, drop-take, ne_eqb, not, numbers_in, take-append-drop, take-take, take_all, take_more}
use Rattle.std.proofs.lemmas.List.Elements.{filter-append}
use Rattle.std.proofs.lemmas.Nat.Bits.{bit_at-zero}
use Rattle.std.specs.Int.{from_bool}
use Rattle.layout_def.proofs.Marks.{marks_other, marks_same}
use Rattle.layout_def.proofs.OrderedCells.{place_within}

-- of a block the cells before a place are listed, and those from there on that have a number are marked
pub record IsListedTo (block before : List ℕ) (place filled : ℕ) (listed : List ℕ) : Type 0 where
  pub numbers : listed ≡ before ++ numbers_in (take place block)
  pub within : place ≤ length block
  pub below : (k : ℕ) → k < place → bit_at filled k ≡ 0
  pub marked : (k : ℕ) → place ≤ k → k < 64 → bit_at filled k ≡ from_bool (not (eqb (get_or block k 0) 0))

-- a mark says that a cell has a number
marked_some : (block : List ℕ) (k bit : ℕ) → bit ≡ from_bool (not (eqb (get_or block k 0) 0)) → bit ≡ 1 → get_or block k 0 ≢ 0
marked_some block k bit is one none = omega (arith, is, one, marks_same (get_or block k 0) 0 none)

unmarked_none : (block : List ℕ) (k bit : ℕ) → bit ≡ from_bool (not (eqb (get_or block k 0) 0)) → bit ≡ 0 → get_or block k 0 ≡ 0
unmarked_none block k bit is none =
    ⊎_elim
    (λ empty. empty)
    (λ some. absurd (omega (arith, is, none, marks_other (get_or block k 0) 0 some)))
    (cases_eq (get_or block k 0) 0)

-- the numbers of one more cell
numbers_with : (block : List ℕ) (k : ℕ) → k < length block
    → numbers_in (take (k + 1) block) ≡ numbers_in (take k block) ++ numbers_in (get_or block k 0 ∷ [])
numbers_with block k within =
    ap numbers_in (take_more block k 0 within)
    ∙ filter-append (λ (cell : ℕ). not (eqb cell 0)) (take k block) (get_or block k 0 ∷ [])

alone_none : (v : ℕ) → v ≡ 0 → numbers_in (v ∷ []) ≡ []
alone_none v none = ap (λ v. numbers_in (v ∷ [])) none

alone_some : (v : ℕ) → v ≢ 0 → numbers_in (v ∷ []) ≡ v ∷ []
alone_some v some = ap (λ b. cond (not b) (v ∷ []) []) (ne_eqb v 0 some)

-- empty cells bring no number
none_between : (block : List ℕ) (place more : ℕ) → place + more ≤ length block
    → ((k : ℕ) → place ≤ k → k < place + more → get_or block k 0 ≡ 0)
    → numbers_in (take (place + more) block) ≡ numbers_in (take place block)
none_between block place zero within none = ap (λ n. numbers_in (take n block)) (let e : place + 0 ≡ place = omega arith in e)
none_between block place (suc more) within none =
    let k = place + more in
    ap (λ n. numbers_in (take n block)) (let e : place + suc more ≡ k + 1 = omega arith in e)
    ∙ numbers_with block k (omega (arith, within))
    ∙ ap (λ last. numbers_in (take k block) ++ last) (alone_none (get_or block k 0) (none k (omega arith) (omega arith)))
    ∙ append-nil (numbers_in (take k block))
    ∙ none_between block place more (omega (arith, within)) (λ j from lt. none j from (omega (arith, lt)))

-- none is listed yet
pub none_listed : (block before : List ℕ) (filled : ℕ) → ((k : ℕ) → bit_at filled k ≡ from_bool (not (eqb (get_or block k 0) 0)))
    → IsListedTo block before 0 filled before
none_listed block before filled marked = record {
  numbers = sym (append-nil before);
  within = omega arith;
  below = λ k lt. absurd (omega (arith, lt));
  marked = λ k _ _. marked k;
}

-- a mark is behind what is listed
onward : (block before : List ℕ) (place filled : ℕ) (listed : List ℕ) (at : ℕ) → IsListedTo block before place filled listed
    → bit_at filled at ≡ 1 → place ≤ at
onward block before place filled listed at h is =
    ⊎_elim
    (λ (early : at < place). absurd (omega (arith, h.below at early, is)))
    (λ (later : place ≤ at). later)
    (cases_lt at place)

pub has_number : (block before : List ℕ) (place filled : ℕ) (listed : List ℕ) (at : ℕ) → IsListedTo block before place filled listed
    → at < 64 → bit_at filled at ≡ 1 → get_or block at 0 ≢ 0
has_number block before place filled listed at h small is =
    marked_some block at (bit_at filled at) (h.marked at (onward block before place filled listed at h is) small) is

-- the first marked one is listed
pub one_listed : (block before : List ℕ) (place filled at rest : ℕ) (listed : List ℕ) → IsListedTo block before place filled listed
    → at < 64 → bit_at filled at ≡ 1 → ((k : ℕ) → k < at → bit_at filled k ≡ 0)
    → bit_at rest at ≡ 0 → ((k : ℕ) → k < 64 → k ≢ at → bit_at rest k ≡ bit_at filled k)
    → IsListedTo block before (at + 1) rest (listed ++ get_or block at 0 ∷ [])
one_listed block before place filled at rest listed h small is none gone same =
    let from = onward block before place filled listed at h is in
    let some = has_number block before place filled listed at h small is in
    let inside = place_within block at some in
    let between : numbers_in (take at block) ≡ numbers_in (take place block) =
    subst (λ n. numbers_in (take n block) ≡ numbers_in (take place block)) (let e : place + (at - place) ≡ at = omega (arith, from) in e)
    (none_between block place (at - place) (omega (arith, from, inside))
    (λ k later lt. unmarked_none block k (bit_at filled k) (h.marked k later (omega (arith, lt, from, small))) (none k (omega (arith, lt, from))))) in
    record {
      numbers =
          ap (λ listed. listed ++ get_or block at 0 ∷ []) h.numbers
          ∙ append_assoc before (numbers_in (take place block)) (get_or block at 0 ∷ [])
          ∙ ap (λ more. before ++ more)
          (ap (λ early. early ++ get_or block at 0 ∷ []) (sym between)
          ∙ ap (λ last. numbers_in (take at block) ++ last) (sym (alone_some (get_or block at 0) some))
          ∙ sym (numbers_with block at inside));
      within = omega (arith, inside);
      below = λ k lt.
          ⊎_elim
          (λ (here : k ≡ at). subst (λ k. bit_at rest k ≡ 0) (sym here) gone)
          (λ other. same k (omega (arith, lt, small)) other ∙ none k (omega (arith, lt, other)))
          (cases_eq k at);
      marked = λ k later lt. same k lt (λ here. omega (arith, later, here)) ∙ h.marked k (omega (arith, later, from)) lt;
    }

-- where none is marked any more all are listed
pub all_listed_now : (block before : List ℕ) (place filled : ℕ) (listed : List ℕ) → IsListedTo block before place filled listed
    → length block ≤ 64 → filled ≡ 0 → listed ≡ before ++ numbers_in block
all_listed_now block before place filled listed h few none =
    let count = length block in
    h.numbers
    ∙ ap (λ more. before ++ more)
    (sym (subst (λ n. numbers_in (take n block) ≡ numbers_in (take place block)) (let e : place + (count - place) ≡ count = omega (arith, h.within) in e)
    (none_between block place (count - place) (omega (arith, h.within))
    (λ k later lt. unmarked_none block k (bit_at filled k) (h.marked k later (omega (arith, lt, few, h.within))) (ap (λ filled. bit_at filled k) none ∙ bit_at-zero k))))
    ∙ ap numbers_in (take_all count block (omega arith)))

-- ---- block by block

pub numbers_on : (cells : List ℕ) (at end : ℕ) → at ≤ end
    → numbers_in (take end cells) ≡ numbers_in (take at cells) ++ numbers_in (take (end - at) (drop at cells))
numbers_on cells at end onward =
    let count = end - at in
    let front = take end cells in
    ap numbers_in (sym (take-append-drop at front))
    ∙ filter-append (λ (cell : ℕ). not (eqb cell 0)) (take at front) (drop at front)
    ∙ ap₂ (λ early later. numbers_in early ++ numbers_in later)
    (take-take at end cells onward)
    (ap (λ n. drop at (take n cells)) (let e : end ≡ at + count = omega (arith, onward) in e) ∙ drop-take at count cells)
