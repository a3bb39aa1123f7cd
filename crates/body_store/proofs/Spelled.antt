-- The ballots that the bytes of cells spell are those whose numbers stand there, and all cells of a layout hold the set.
use Rattle.std.proofs.Common.{◌≡◌, ◌≢◌, ◌==◌, if◌then◌else◌, not, ℕ, zero, suc, ◌+◌, ◌-◌, ◌<◌, ◌≤◌, inl, inr, ⊎_elim, List, [], ◌∷◌, ◌++◌, length, get_or, take, drop, Option, Some, None, refl, sym, ap, ap₂, subst, ◌∙◌, arith, append_assoc}
use Rattle.store_spec.proofs.Common.{All, All-contains, AllPairs, Ballot, Contains, Contains-append_cases, Contains-append_left, Contains-append_right, Contains-get_or, Contains-push_cases, Election, IsElection, IsListing, IsPermutation, IsPermutation-map, IsPermutation-sym, IsPermutation-trans, IsValid, append-nil, ballot_bytes, ballot_of, cases_eq, cell_bytes, cell_size, cells_of, cond-false, cond-true, drop_at, eq-eqb, flat_map, flat_map-cons, get_or-drop, header_size, home_in, image_of, length-drop, ne_eqb, numbers_in, numbers_of, take_at, take_more}
use Rattle.ballot_record.proofs.BallotNumbers.{ballot_with, contains_number, pairs_of_ballots}
use Rattle.ballot_record.proofs.BallotSets.{members-IsPermutation}
use Rattle.ballot_record.proofs.CellFormat.{spells_itself}
use Rattle.ballot_record.proofs.Lookups.{AreAmong, found_in, found_once, missing_from, option_cases}
use Rattle.ballot_record.specs.Format.{ballot_at}
use Rattle.body_store.proofs.BallotSets.{MayHold, held_layout}
use Rattle.body_store.proofs.ByNumber.{by_number-IsPermutation, by_number-ascends, by_number-is}
use Rattle.body_store.proofs.Images.{cell_of_found, cells_of_image, length-cell_bytes}
use Rattle.body_store.specs.ByNumber.{by_number}
use Rattle.body_store.specs.Held.{as_list, held_in, spelled_in}
use Rattle.layout_def.proofs.Fronts.{distinct_in, holds_own}
use Rattle.layout_def.proofs.OrderedCells.{contains_from_place, place_from_contains, place_within}

-- what stands in cells is 0 or the number of one of these
abbrev pub AreKnown : List Ballot → List ℕ → Type 0
AreKnown ballots cells = (place : ℕ) → get_or cells place 0 ≢ 0 → Contains (numbers_of ballots) (get_or cells place 0)

pub ballot_known : (ballots : List Ballot) (number : ℕ) → Contains (numbers_of ballots) number → (b : Ballot) × (ballot_of ballots number ≡ Some b) × Contains ballots b × (b.number ≡ number)
ballot_known ballots number known = ⊎_elim
    (λ (none : ballot_of ballots number ≡ None). let with = ballot_with ballots number known in absurd (missing_from ballots number none with.0 with.1 with.2))
    (λ some. let found = found_in ballots number some.0 some.1 in (some.0, some.1, found.0, found.1))
    (option_cases (ballot_of ballots number))

pub none_with_zero : (e : Election) (ballots : List Ballot) → All (IsValid e) ballots → ballot_of ballots 0 ≡ None
none_with_zero e ballots valid = ⊎_elim
    (λ (none : ballot_of ballots 0 ≡ None). none)
    (λ some.
    let found = found_in ballots 0 some.0 some.1 in
    let own = All-contains (IsValid e) ballots some.0 valid found.0 in
    absurd (omega (arith, own.some_number, found.1)))
    (option_cases (ballot_of ballots 0))

-- ---- what the bytes spell

one_spelled : (e : Election) (ballots : List Ballot) (number : ℕ) (rest : List ℕ) → IsElection e → All (IsValid e) ballots → (number ≢ 0 → Contains (numbers_of ballots) number)
    → (if number == 0 then [] else ballot_at e (take (cell_size e) (cell_bytes e ballots number ++ rest)) ∷ []) ≡ as_list (ballot_of ballots number)
one_spelled e ballots number rest election valid known =
    let front = take (cell_size e) (cell_bytes e ballots number ++ rest) in
    elim (cases_eq number 0) [
      | inl none ↦
          cond-true (number == 0) [] (ballot_at e front ∷ []) (eq-eqb number 0 none)
          ∙ sym (ap (λ n. as_list (ballot_of ballots n)) none ∙ ap as_list (none_with_zero e ballots valid))
      | inr some ↦
          let found = ballot_known ballots number (known some) in
          let own = All-contains (IsValid e) ballots found.0 valid found.2 in
          let bytes : front ≡ ballot_bytes e found.0 = take_at (cell_bytes e ballots number) rest (cell_size e) (length-cell_bytes e ballots number election valid) ∙ cell_of_found e ballots number found.0 found.1 in
          cond-false (number == 0) [] (ballot_at e front ∷ []) (ne_eqb number 0 some)
          ∙ ap (λ bytes. ballot_at e bytes ∷ []) bytes
          ∙ ap (λ b. b ∷ []) (spells_itself e found.0 election own)
          ∙ sym (ap as_list found.1)
    ]

pub spelled : (e : Election) (ballots : List Ballot) (numbers rest : List ℕ) → IsElection e → All (IsValid e) ballots → AreKnown ballots numbers
    → spelled_in e numbers (flat_map (cell_bytes e ballots) numbers ++ rest) ≡ held_in ballots numbers
spelled e ballots [] rest election valid known = refl
spelled e ballots (number ∷ numbers) rest election valid known =
    let f = cell_bytes e ballots in
    let more = flat_map f numbers ++ rest in
    let parted : flat_map f (number ∷ numbers) ++ rest ≡ f number ++ more = ap (λ bytes. bytes ++ rest) (flat_map-cons f number numbers) ∙ append_assoc (f number) (flat_map f numbers) rest in
    ap (spelled_in e (number ∷ numbers)) parted
    ∙ ap₂ (λ xs ys. xs ++ ys) (one_spelled e ballots number more election valid (known 0))
    (ap (spelled_in e numbers) (drop_at (f number) more (cell_size e) (length-cell_bytes e ballots number election valid))
    ∙ spelled e ballots numbers rest election valid (λ place. known (suc place)))

-- ---- the ballots in the cells of a layout

filled_in : (cell : ℕ) (cells : List ℕ) → cell ≢ 0 → numbers_in (cell ∷ cells) ≡ cell ∷ numbers_in cells
filled_in cell cells some = cond-true _ _ _ (ap not (ne_eqb cell 0 some))

empty_in : (cell : ℕ) (cells : List ℕ) → cell ≡ 0 → numbers_in (cell ∷ cells) ≡ numbers_in cells
empty_in cell cells none = cond-false _ _ _ (ap not (eq-eqb cell 0 none))

pub numbers_held : (e : Election) (ballots : List Ballot) (cells : List ℕ) → All (IsValid e) ballots → AreKnown ballots cells → numbers_of (held_in ballots cells) ≡ numbers_in cells
numbers_held e ballots [] valid known = refl
numbers_held e ballots (cell ∷ cells) valid known =
    let rest = numbers_held e ballots cells valid (λ place. known (suc place)) in
    elim (cases_eq cell 0) [
      | inl none ↦
          ap (λ o. numbers_of (as_list o ++ held_in ballots cells)) (ap (ballot_of ballots) none ∙ none_with_zero e ballots valid)
          ∙ rest ∙ sym (empty_in cell cells none)
      | inr some ↦
          let found = ballot_known ballots cell (known 0 some) in
          ap (λ o. numbers_of (as_list o ++ held_in ballots cells)) found.1
          ∙ ap₂ (λ n ns. n ∷ ns) found.3 rest ∙ sym (filled_in cell cells some)
    ]

one_among : (ballots : List Ballot) (number : ℕ) (b : Ballot) → Contains (as_list (ballot_of ballots number)) b → Contains ballots b
one_among ballots number b c = ⊎_elim
    (λ (none : ballot_of ballots number ≡ None).
    let nothing = subst (λ (o : Option Ballot). Contains (as_list o) b) none c in
    absurd (omega (arith, nothing.1)))
    (λ some.
    let one = subst (λ (o : Option Ballot). Contains (as_list o) b) some.1 c in
    ⊎_elim
    (λ nothing. absurd (omega (arith, nothing.1)))
    (λ same. subst (λ (x : Ballot). Contains ballots x) same (found_in ballots number some.0 some.1).0)
    (Contains-push_cases [] some.0 b one))
    (option_cases (ballot_of ballots number))

pub held_among : (ballots : List Ballot) (cells : List ℕ) (b : Ballot) → Contains (held_in ballots cells) b → Contains ballots b
held_among ballots [] b c = absurd (omega (arith, c.1))
held_among ballots (cell ∷ cells) b c = ⊎_elim
    (λ first. one_among ballots cell b first)
    (λ rest. held_among ballots cells b rest)
    (Contains-append_cases (as_list (ballot_of ballots cell)) (held_in ballots cells) b c)

-- what is held of valid ballots is valid
pub held_valid : (e : Election) (ballots : List Ballot) (cells : List ℕ) → All (IsValid e) ballots → All (IsValid e) (held_in ballots cells)
held_valid e ballots cells valid k d lt =
    let all = held_in ballots cells in
    All-contains (IsValid e) ballots (get_or all k d) valid (held_among ballots cells (get_or all k d) (Contains-get_or all k d lt))

held_each : (ballots : List Ballot) (cells : List ℕ) (b : Ballot) (place : ℕ) → place < length cells → get_or cells place 0 ≡ b.number → ballot_of ballots b.number ≡ Some b → Contains (held_in ballots cells) b
held_each ballots [] b place within stands found = absurd (omega arith)
held_each ballots (cell ∷ cells) b zero within stands found =
    let one : as_list (ballot_of ballots cell) ≡ b ∷ [] = ap (λ n. as_list (ballot_of ballots n)) stands ∙ ap as_list found in
    Contains-append_left (as_list (ballot_of ballots cell)) (held_in ballots cells) b
    (subst (λ (bs : List Ballot). Contains bs b) (sym one) (0, omega arith, refl))
held_each ballots (cell ∷ cells) b (suc place) within stands found =
    Contains-append_right (as_list (ballot_of ballots cell)) (held_in ballots cells) b (held_each ballots cells b place (omega arith) stands found)

pub known_in_layout : (e : Election) (ballots : List Ballot) → IsElection e → MayHold e ballots → AreKnown ballots (cells_of e ballots)
known_in_layout e ballots election held place some =
    let cells = cells_of e ballots in
    (held_layout e ballots election held).exactly.only (get_or cells place 0) some (contains_from_place cells (get_or cells place 0) place (place_within cells place some) refl)

held_listing : (e : Election) (ballots : List Ballot) → IsElection e → MayHold e ballots → IsListing e (held_in ballots (cells_of e ballots))
held_listing e ballots election held =
    let cells = cells_of e ballots in
    let all = held_in ballots cells in
    let numbers = numbers_held e ballots cells held.listing.valid (known_in_layout e ballots election held) in
    record {
      valid = held_valid e ballots cells held.listing.valid;
      distinct = pairs_of_ballots (λ a b. a ≢ b) all
          (subst (λ (ns : List ℕ). AllPairs (λ a b. a ≢ b) ns) (sym numbers) (distinct_in (home_in e) cells (held_layout e ballots election held).ordered));
    }

-- the cells of a layout hold the set
pub held_in_layout : (e : Election) (ballots : List Ballot) → IsElection e → MayHold e ballots → IsPermutation ballots (held_in ballots (cells_of e ballots))
held_in_layout e ballots election held =
    let cells = cells_of e ballots in
    members-IsPermutation e ballots (held_in ballots cells) held.listing (held_listing e ballots election held)
    (λ b c.
    let place = place_from_contains cells b.number ((held_layout e ballots election held).exactly.each b.number (contains_number ballots b b.number c refl)) in
    held_each ballots cells b place.0 place.1 place.2 (found_once ballots b.number b held.listing.distinct c refl))
    (held_among ballots cells)

pub numbers_in_layout : (e : Election) (ballots : List Ballot) → IsElection e → MayHold e ballots → IsPermutation (numbers_of ballots) (numbers_in (cells_of e ballots))
numbers_in_layout e ballots election held =
    subst (λ (ns : List ℕ). IsPermutation (numbers_of ballots) ns)
    (numbers_held e ballots (cells_of e ballots) held.listing.valid (known_in_layout e ballots election held))
    (IsPermutation-map (λ b. b.number) ballots (held_in ballots (cells_of e ballots)) (held_in_layout e ballots election held))

-- so the bytes of an image spell the set
pub spelled_by_number : (e : Election) (ballots : List Ballot) (image cells : List ℕ) → IsElection e → MayHold e ballots → image ≡ image_of e ballots → cells ≡ cells_of e ballots
    → by_number (spelled_in e cells (drop header_size image)) ≡ by_number ballots
spelled_by_number e ballots image cells election held is laid =
    let all = cells_of e ballots in
    let bytes = flat_map (cell_bytes e ballots) all in
    let there = held_in_layout e ballots election held in
    ap₂ (λ cells image. by_number (spelled_in e cells (drop header_size image))) laid is
    ∙ ap (λ bytes. by_number (spelled_in e all bytes)) (cells_of_image e ballots ∙ sym (append-nil bytes))
    ∙ ap by_number (spelled e ballots all [] election held.listing.valid (known_in_layout e ballots election held))
    ∙ by_number-is (held_in ballots all) (by_number ballots) (held_listing e ballots election held).distinct (by_number-ascends ballots held.listing.distinct)
    (IsPermutation-trans (held_in ballots all) ballots (by_number ballots) (IsPermutation-sym ballots (held_in ballots all) there) (by_number-IsPermutation ballots))

-- ---- cells, and more cells

-- cells and those behind them hold what the one and the other hold
pub held_append : (ballots : List Ballot) (cells more : List ℕ) → held_in ballots (cells ++ more) ≡ held_in ballots cells ++ held_in ballots more
held_append ballots [] more = refl
held_append ballots (first ∷ cells) more =
    ap (λ bs. as_list (ballot_of ballots first) ++ bs) (held_append ballots cells more)
    ∙ sym (append_assoc (as_list (ballot_of ballots first)) (held_in ballots cells) (held_in ballots more))

-- ---- one cell more

pub held_more : (ballots : List Ballot) (cells : List ℕ) (cell : ℕ) → held_in ballots (cells ++ cell ∷ []) ≡ held_in ballots cells ++ as_list (ballot_of ballots cell)
held_more ballots [] cell = append-nil (as_list (ballot_of ballots cell))
held_more ballots (first ∷ cells) cell =
    ap (λ bs. as_list (ballot_of ballots first) ++ bs) (held_more ballots cells cell)
    ∙ sym (append_assoc (as_list (ballot_of ballots first)) (held_in ballots cells) (as_list (ballot_of ballots cell)))

pub held_next : (ballots : List Ballot) (cells : List ℕ) (from cell : ℕ) → from ≤ cell → cell < length cells
    → held_in ballots (take (cell + 1 - from) (drop from cells)) ≡ held_in ballots (take (cell - from) (drop from cells)) ++ as_list (ballot_of ballots (get_or cells cell 0))
held_next ballots cells from cell onward within =
    let behind = drop from cells in
    let at : get_or behind (cell - from) 0 ≡ get_or cells cell 0 = get_or-drop from cells (cell - from) 0 ∙ ap (λ k. get_or cells k 0) (omega arith) in
    ap (λ n. held_in ballots (take n behind)) (let next : cell + 1 - from ≡ cell - from + 1 = omega arith in next)
    ∙ ap (held_in ballots) (take_more behind (cell - from) 0 (omega (arith, length-drop from cells)))
    ∙ held_more ballots (take (cell - from) behind) (get_or behind (cell - from) 0)
    ∙ ap (λ n. held_in ballots (take (cell - from) behind) ++ as_list (ballot_of ballots n)) at

-- so many empty cells more hold nothing
held_past : (ballots : List Ballot) (cells : List ℕ) (from cell count : ℕ) → ballot_of ballots 0 ≡ None → from ≤ cell → cell + count ≤ length cells → ((k : ℕ) → cell ≤ k → k < cell + count → get_or cells k 0 ≡ 0)
    → held_in ballots (take (cell + count - from) (drop from cells)) ≡ held_in ballots (take (cell - from) (drop from cells))
held_past ballots cells from cell zero none onward within empty =
    ap (λ n. held_in ballots (take n (drop from cells))) (let same : cell + 0 - from ≡ cell - from = omega arith in same)
held_past ballots cells from cell (suc count) none onward within empty =
    let last = cell + count in
    let held = held_in ballots (take (last - from) (drop from cells)) in
    ap (λ n. held_in ballots (take n (drop from cells))) (let next : cell + suc count - from ≡ last + 1 - from = omega arith in next)
    ∙ held_next ballots cells from last (omega arith) (omega arith)
    ∙ ap (λ n. held ++ as_list (ballot_of ballots n)) (empty last (omega arith) (omega arith))
    ∙ ap (λ o. held ++ as_list o) none
    ∙ append-nil held
    ∙ held_past ballots cells from cell count none onward (omega arith) (λ k after before. empty k after (omega arith))

pub held_past_empty : (ballots : List Ballot) (cells : List ℕ) (from cell next : ℕ) → ballot_of ballots 0 ≡ None → from ≤ cell → cell ≤ next → next ≤ length cells → ((k : ℕ) → cell ≤ k → k < next → get_or cells k 0 ≡ 0)
    → held_in ballots (take (next - from) (drop from cells)) ≡ held_in ballots (take (cell - from) (drop from cells))
held_past_empty ballots cells from cell next none onward past within empty =
    ap (λ n. held_in ballots (take (n - from) (drop from cells))) (let same : next ≡ cell + (next - cell) = omega arith in same)
    ∙ held_past ballots cells from cell (next - cell) none onward (omega arith) (λ k after before. empty k after (omega arith))

-- ---- ballots in the order of their cells

held_so : (all ballots : List Ballot) (cells : List ℕ) → ballot_of all 0 ≡ None → ((b : Ballot) → Contains ballots b → ballot_of all b.number ≡ Some b) → numbers_of ballots ≡ numbers_in cells → held_in all cells ≡ ballots
held_so all [] [] none found same = refl
held_so all (b ∷ ballots) [] none found same = absurd (omega (arith, ap length same))
held_so all [] (cell ∷ cells) none found same =
    elim (cases_eq cell 0) [
      | inl empty ↦
          ap (λ o. as_list o ++ held_in all cells) (ap (ballot_of all) empty ∙ none)
          ∙ held_so all [] cells none found (same ∙ empty_in cell cells empty)
      | inr some ↦ absurd (omega (arith, ap length (same ∙ filled_in cell cells some)))
    ]
held_so all (b ∷ ballots) (cell ∷ cells) none found same =
    elim (cases_eq cell 0) [
      | inl empty ↦
          ap (λ o. as_list o ++ held_in all cells) (ap (ballot_of all) empty ∙ none)
          ∙ held_so all (b ∷ ballots) cells none found (same ∙ empty_in cell cells empty)
      | inr some ↦
          let both : b.number ∷ numbers_of ballots ≡ cell ∷ numbers_in cells = same ∙ filled_in cell cells some in
          let first : b.number ≡ cell = ap (λ ns. get_or ns 0 0) both in
          ap (λ o. as_list o ++ held_in all cells) (ap (ballot_of all) (sym first) ∙ found b (0, omega arith, refl))
          ∙ ap (λ bs. b ∷ bs) (held_so all ballots cells none (λ x c. found x (suc c.0, omega (arith, c.1), c.2)) (ap (drop 1) both))
    ]

-- cells with the numbers of these ballots, in their order, hold these
pub held_own : (e : Election) (ballots : List Ballot) (cells : List ℕ) → IsListing e ballots → numbers_of ballots ≡ numbers_in cells → held_in ballots cells ≡ ballots
held_own e ballots cells listing same =
    held_so ballots ballots cells (none_with_zero e ballots listing.valid) (λ b c. found_once ballots b.number b listing.distinct c refl) same

pub known_own : (ballots : List Ballot) (cells : List ℕ) → numbers_of ballots ≡ numbers_in cells → AreKnown ballots cells
known_own ballots cells same place some =
    let v = get_or cells place 0 in
    subst (λ (ns : List ℕ). Contains ns v) (sym same) ((holds_own cells).only v some (contains_from_place cells v place (place_within cells place some) refl))

-- ---- ballots among others

held_same : (ballots others : List Ballot) (cells : List ℕ) → ((place : ℕ) → place < length cells → ballot_of ballots (get_or cells place 0) ≡ ballot_of others (get_or cells place 0)) → held_in ballots cells ≡ held_in others cells
held_same ballots others [] same = refl
held_same ballots others (cell ∷ cells) same =
    ap₂ (λ xs ys. xs ++ ys) (ap as_list (same 0 (omega arith))) (held_same ballots others cells (λ place lt. same (suc place) (omega arith)))

-- the ballots in the layout of some of them are these
pub held_of_some : (e : Election) (ballots some : List Ballot) → IsElection e → MayHold e ballots → MayHold e some → AreAmong some ballots → IsPermutation some (held_in ballots (cells_of e some))
held_of_some e ballots some election held some_held among =
    let cells = cells_of e some in
    subst (λ (bs : List Ballot). IsPermutation some bs)
    (held_same some ballots cells (λ place lt.
    let v = get_or cells place 0 in
    elim (cases_eq v 0) [
      | inl none ↦
          ap (ballot_of some) none ∙ none_with_zero e some some_held.listing.valid
          ∙ sym (ap (ballot_of ballots) none ∙ none_with_zero e ballots held.listing.valid)
      | inr other ↦
          let b = ballot_known some v (known_in_layout e some election some_held place other) in
          b.1 ∙ sym (found_once ballots v b.0 held.listing.distinct (among b.0 b.2) b.3)
    ]))
    (held_in_layout e some election some_held)
