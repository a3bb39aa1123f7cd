-- One cell more: an empty one, or that of a ballot which may stand there.
use Rattle.std.proofs.Common.{◌≡◌, ◌≢◌, ◌==◌, not, ℕ, ◌+◌, ◌*◌, ◌<◌, ◌≤◌, ⊎_elim, List, [], ◌∷◌, ◌++◌, length, get_or, take, drop, replicate, Option, Some, None, refl, sym, ap, subst, ◌∙◌, arith}
use Rattle.store_spec.proofs.Common.{All-push, Ballot, Contains, Election, IsOrdered, IsValid, MayStand, append-nil, ballot_bytes, ballot_of, cases_lt, cell_at, cell_bytes, cell_size, cond-false, cond-true, eq-eqb, filter-append, flat_map, get_or_append_left, get_or_push, header_size, home_in, length-append, map_push, ne_eqb, numbers_in, numbers_of, option_map_or}
use Rattle.std.proofs.lemmas.List.Folds.{find-append}
use Rattle.std.specs.Option.{option_or}
use Rattle.body_store.proofs.Images.{cell_of_found, cell_of_zero, one_cell_more}
use Rattle.ballot_record.proofs.Lookups.{option_cases, found_in}
use Rattle.image_builder.proofs.Reading.{AreRead, IsKnown, piece_more, same_pieces}
use Rattle.ballot_record.proofs.BallotNumbers.{contains_number}
use Rattle.layout_def.proofs.Fronts.{holds_own}
use Rattle.layout_def.proofs.OrderedCells.{place_from_contains, contains_from_place, place_within}

-- ---- ordered cells

-- with a number, or with none, behind them
pub ordered_more : (home : ℕ → ℕ) (cells : List ℕ) (v : ℕ) → IsOrdered home cells → (v ≢ 0 → MayStand home cells v (length cells)) → IsOrdered home (cells ++ v ∷ [])
ordered_more home cells v h stands =
    let all = cells ++ v ∷ [] in
    let count = length-append cells (v ∷ []) in
    let old = λ (p : ℕ) (lt : p < length cells). get_or_append_left cells (v ∷ []) 0 p lt in
    let new = λ (p : ℕ) (e : length cells ≡ p). get_or_push cells v 0 p e in
    let within = λ (p : ℕ) (n : get_or all p 0 ≢ 0). place_within all p n in
    record {
      from_home = λ p n. ⊎_elim
          (λ (lt : p < length cells). subst (λ (w : ℕ). home w ≤ p) (sym (old p lt)) (h.from_home p (λ z. n (old p lt ∙ z))))
          (λ (past : length cells ≤ p).
          let there = within p n in
          let e : length cells ≡ p = omega arith in
          let may = stands (λ z. n (new p e ∙ z)) in
          subst (λ (w : ℕ). home w ≤ p) (sym (new p e)) (omega (arith, may.from_home)))
          (cases_lt p (length cells));
      greater_before = λ p q n from before. ⊎_elim
          (λ (lt : p < length cells).
          let more = h.greater_before p q (λ z. n (old p lt ∙ z)) (subst (λ (w : ℕ). home w ≤ q) (old p lt) from) before in
          omega (arith, old p lt, old q (omega arith)))
          (λ (past : length cells ≤ p).
          let there = within p n in
          let e : length cells ≡ p = omega arith in
          let may = stands (λ z. n (new p e ∙ z)) in
          let more = may.greater_before q (subst (λ (w : ℕ). home w ≤ q) (new p e) from) (omega arith) in
          omega (arith, new p e, old q (omega arith)))
          (cases_lt p (length cells));
    }

pub numbers_more : (cells : List ℕ) (v : ℕ) → v ≢ 0 → numbers_in (cells ++ v ∷ []) ≡ numbers_in cells ++ v ∷ []
numbers_more cells v n =
    filter-append (λ cell. not (cell == 0)) cells (v ∷ []) ∙ ap (λ ns. numbers_in cells ++ ns) (cond-true _ _ _ (ap not (ne_eqb v 0 n)))

pub numbers_as_before : (cells : List ℕ) → numbers_in (cells ++ 0 ∷ []) ≡ numbers_in cells
numbers_as_before cells = filter-append (λ cell. not (cell == 0)) cells (0 ∷ []) ∙ append-nil (numbers_in cells)

-- a number that may stand behind ordered cells stands in none of them
not_there : (home : ℕ → ℕ) (cells : List ℕ) (v i : ℕ) → v ≢ 0 → IsOrdered home cells → MayStand home cells v (length cells) → i < length cells → get_or cells i 0 ≢ v
not_there home cells v i n h may lt e =
    let from : home v ≤ i = subst (λ (w : ℕ). home w ≤ i) e (h.from_home i (λ z. n (sym e ∙ z))) in
    let more : v < get_or cells i 0 = may.greater_before i from lt in
    omega arith

-- ---- look-ups, with one ballot more

option_or-none : {A : Type 0} (o : Option A) → option_or o None ≡ o
option_or-none None = refl
option_or-none (Some x) = refl

others_as_before : (ballots : List Ballot) (b : Ballot) (v : ℕ) → b.number ≢ v → ballot_of (ballots ++ b ∷ []) v ≡ ballot_of ballots v
others_as_before ballots b v other =
    find-append (λ (b : Ballot). b.number == v) ballots (b ∷ [])
    ∙ ap (λ o. option_or (ballot_of ballots v) o) (cond-false _ _ _ (ne_eqb b.number v other))
    ∙ option_or-none (ballot_of ballots v)

new_found : (ballots : List Ballot) (b : Ballot) → ballot_of ballots b.number ≡ None → ballot_of (ballots ++ b ∷ []) b.number ≡ Some b
new_found ballots b none =
    find-append (λ (other : Ballot). other.number == b.number) ballots (b ∷ [])
    ∙ ap (λ o. option_or o (ballot_of (b ∷ []) b.number)) none
    ∙ cond-true _ _ _ (eq-eqb b.number b.number refl)

-- ---- the steps

pub known_read : (e : Election) (bank : List ℕ) (place : ℕ) (numbers : List ℕ) (ballots : List Ballot) → AreRead e bank place numbers ballots → (i : ℕ) → i < length numbers → IsKnown ballots (get_or numbers i 0)
known_read e bank place numbers ballots read i lt n =
    subst (λ (ns : List ℕ). Contains ns (get_or numbers i 0)) (sym read.same) ((holds_own numbers).only (get_or numbers i 0) n (contains_from_place numbers (get_or numbers i 0) i lt refl))

pub nothing_read : (e : Election) (bank : List ℕ) → AreRead e bank 0 [] []
nothing_read e bank = record {
  size = refl;
  ordered = record { from_home = λ p n. absurd (n refl); greater_before = λ p q n from before. absurd (n refl) };
  same = refl;
  valid = λ k d lt. absurd (omega arith);
  few = omega arith;
  bytes = ap (λ k. take k (drop header_size bank)) (let none : 0 * cell_size e ≡ 0 = omega arith in none);
}

pub empty_read : (e : Election) (bank : List ℕ) (place : ℕ) (numbers : List ℕ) (ballots : List Ballot) → AreRead e bank place numbers ballots → cell_at e place bank ≡ replicate (cell_size e) 0 → AreRead e bank (place + 1) (numbers ++ 0 ∷ []) ballots
empty_read e bank place numbers ballots read is = record {
  size = omega (arith, length-append numbers (0 ∷ []), read.size);
  ordered = ordered_more (home_in e) numbers 0 read.ordered (λ n. absurd (n refl));
  same = read.same ∙ sym (numbers_as_before numbers);
  valid = read.valid;
  few = read.few;
  bytes = one_cell_more e place bank
      ∙ ap (λ bytes. bytes ++ cell_at e place bank) read.bytes
      ∙ ap (λ bytes. flat_map (cell_bytes e ballots) numbers ++ bytes) (is ∙ sym (cell_of_zero e e ballots read.valid))
      ∙ sym (piece_more (cell_bytes e ballots) numbers 0);
}

pub ballot_read : (e : Election) (bank : List ℕ) (place : ℕ) (numbers : List ℕ) (ballots : List Ballot) (b : Ballot) → AreRead e bank place numbers ballots → IsValid e b → cell_at e place bank ≡ ballot_bytes e b
    → MayStand (home_in e) numbers b.number place → length ballots < e.limit → AreRead e bank (place + 1) (numbers ++ b.number ∷ []) (ballots ++ b ∷ [])
ballot_read e bank place numbers ballots b read valid is may room =
    let some : b.number ≢ 0 = (λ z. omega (arith, valid.some_number)) in
    let stands : MayStand (home_in e) numbers b.number (length numbers) = subst (λ (p : ℕ). MayStand (home_in e) numbers b.number p) (sym read.size) may in
    let absent = λ (i : ℕ) (lt : i < length numbers). not_there (home_in e) numbers b.number i some read.ordered stands lt in
    let none : ballot_of ballots b.number ≡ None = ⊎_elim
    (λ (none : ballot_of ballots b.number ≡ None). none)
    (λ found.
    let there = found_in ballots b.number found.0 found.1 in
    let has : Contains (numbers_of ballots) b.number = contains_number ballots found.0 b.number there.0 there.1 in
    let cell = place_from_contains numbers b.number ((holds_own numbers).each b.number (subst (λ (ns : List ℕ). Contains ns b.number) read.same has)) in
    absurd (absent cell.0 cell.1 cell.2))
    (option_cases (ballot_of ballots b.number)) in
    let more = ballots ++ b ∷ [] in
    record {
      size = omega (arith, length-append numbers (b.number ∷ []), read.size);
      ordered = ordered_more (home_in e) numbers b.number read.ordered (λ n. stands);
      same = map_push (λ (b : Ballot). b.number) ballots b ∙ ap (λ ns. ns ++ b.number ∷ []) read.same ∙ sym (numbers_more numbers b.number some);
      valid = All-push (IsValid e) ballots b read.valid valid;
      few = omega (arith, length-append ballots (b ∷ []));
      bytes = one_cell_more e place bank
          ∙ ap (λ bytes. bytes ++ cell_at e place bank) read.bytes
          ∙ ap (λ bytes. bytes ++ cell_at e place bank)
          (same_pieces (cell_bytes e ballots) (cell_bytes e more) numbers
          (λ i lt. ap (λ o. option_map_or (ballot_bytes e) o (replicate (cell_size e) 0)) (sym (others_as_before ballots b (get_or numbers i 0) (λ z. absent i lt (sym z))))))
          ∙ ap (λ bytes. flat_map (cell_bytes e more) numbers ++ bytes) (is ∙ sym (cell_of_found e more b.number b (new_found ballots b none)))
          ∙ sym (piece_more (cell_bytes e more) numbers b.number);
    }
