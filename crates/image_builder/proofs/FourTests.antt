-- The first wrong cell is the first that fails one of four tests.
use Rattle.std.proofs.Common.{◌≡◌, ℕ, zero, suc, ◌+◌, ◌-◌, ◌*◌, ◌<◌, ◌≤◌, ◌⊎◌, inl, inr, ⊎_elim, List, [], ◌∷◌, ◌++◌, length, get_or, take, drop, sym, ap, subst, ◌∙◌, arith}
use Rattle.store_spec.proofs.Common.{Ballot, BeginsAnImage, Election, IsCellOf, IsElection, IsImageOf, MayStand, bank_size, cases_lt, cell_at, cell_bytes, cell_count, cell_size, drop-drop, drop-take, ext_get_or, get_or-map-range_with_len, header_of, header_size, home_in, length-map-range_with_len, number_at, numbers_in, take-take}
use Rattle.ballot_record.proofs.BallotNumbers.{length-numbers_of}
use Rattle.ballot_record.proofs.CellCases.{each_or_one, empty_or_not, held_or_not}
use Rattle.ballot_record.proofs.BallotSets.{in_order, in_order-IsPermutation, set_of_listing}
use Rattle.body_store.proofs.BallotSets.{limit-IsPermutation}
use Rattle.body_store.proofs.Images.{length-cell_bytes, piece_at}
use Rattle.body_store.proofs.Listings.{image_of-IsPermutation}
use Rattle.image_builder.proofs.Reading.{AreRead, begins_fewer, begins_read, listing_read, number_in_cell}
use Rattle.image_builder.proofs.Steps.{ballot_read, empty_read, known_read, nothing_read}
use Rattle.image_builder.proofs.Wrong.{bad_bytes, misplaced, too_many, whole_bank}
use Rattle.store_spec.specs.Damage.{Fails, IsFirstFailing, IsFirstWrong, IsWrongCell, Test, first_cells, first_numbers}
use Rattle.store_spec.specs.Damage.Test.{Bytes, Home, Order, Limit}

-- ---- what was read of a cell is its number

cell_of_front : (e : Election) (bank : List ℕ) (k count : ℕ) → k < count → take (cell_size e) (drop (k * cell_size e) (first_cells e count bank)) ≡ cell_at e k bank
cell_of_front e bank k count lt =
    let size = cell_size e in
    let more = count * size - k * size in
    let least : (k + 1) * size ≤ count * size = grind arith in
    let enough : k * size + more ≡ count * size = omega (arith, least) in
    let wide : size ≤ more = omega (arith, least) in
    ap (λ n. take size (drop (k * size) (take n (drop header_size bank)))) (sym enough)
    ∙ ap (take size) (drop-take (k * size) more (drop header_size bank))
    ∙ take-take size more (drop (k * size) (drop header_size bank)) wide
    ∙ ap (take size) (drop-drop (k * size) header_size bank)

number_read : (e : Election) (bank : List ℕ) (place : ℕ) (numbers : List ℕ) (ballots : List Ballot) → IsElection e → AreRead e bank place numbers ballots → (k : ℕ) → k < place → number_at (cell_at e k bank) ≡ get_or numbers k 0
number_read e bank place numbers ballots election read k lt =
    let size = cell_size e in
    let f = cell_bytes e ballots in
    let there : k < length numbers = omega (arith, read.size) in
    ap number_at (sym (cell_of_front e bank k place lt)
    ∙ ap (λ bytes. take size (drop (k * size) bytes)) read.bytes
    ∙ piece_at f size numbers k (λ x. length-cell_bytes e ballots x election read.valid) there)
    ∙ number_in_cell e ballots (get_or numbers k 0) read.valid (known_read e bank place numbers ballots read k there)

numbers_read : (e : Election) (bank : List ℕ) (place : ℕ) (numbers : List ℕ) (ballots : List Ballot) → IsElection e → AreRead e bank place numbers ballots → first_numbers e place bank ≡ numbers
numbers_read e bank place numbers ballots election read =
    let number = λ (cell : ℕ). number_at (cell_at e cell bank) in
    let long = length-map-range_with_len number 0 place in
    ext_get_or 0 (first_numbers e place bank) numbers (long ∙ sym read.size)
    (λ k lt.
    let within : k < place = omega (arith, long) in
    get_or-map-range_with_len number 0 place k k 0 within (omega arith) ∙ number_read e bank place numbers ballots election read k within)

count_read : (e : Election) (bank : List ℕ) (place : ℕ) (numbers : List ℕ) (ballots : List Ballot) → IsElection e → AreRead e bank place numbers ballots → length (numbers_in (first_numbers e place bank)) ≡ length ballots
count_read e bank place numbers ballots election read =
    ap (λ ns. length (numbers_in ns)) (numbers_read e bank place numbers ballots election read) ∙ ap length (sym read.same) ∙ length-numbers_of ballots

-- ---- a cell that fails a test begins no image

fails_wrong : (e : Election) (bank : List ℕ) (place : ℕ) (numbers : List ℕ) (ballots : List Ballot) (test : Test) → IsElection e → place < cell_count e → AreRead e bank place numbers ballots → Fails e bank place test → ¬ BeginsAnImage e (place + 1) bank
fails_wrong e bank place numbers ballots Bytes election lt read fails =
    bad_bytes e bank place numbers ballots election lt read fails.0 (λ b valid is. fails.1 b (valid, is))
fails_wrong e bank place numbers ballots Home election lt read fails =
    misplaced e bank place numbers ballots fails.0 election lt read fails.1.0 fails.1.1 (λ may. omega (arith, may.from_home, fails.2))
fails_wrong e bank place numbers ballots Order election lt read fails =
    let at = fails.2 in
    let same = number_read e bank place numbers ballots election read at.0 at.2 in
    misplaced e bank place numbers ballots fails.0 election lt read fails.1.0 fails.1.1 (λ may. omega (arith, may.greater_before at.0 at.1 at.2, at.3, same))
fails_wrong e bank place numbers ballots Limit election lt read fails =
    too_many e bank place numbers ballots fails.0 election lt read fails.1.0 fails.1.1 (omega (arith, fails.2, count_read e bank place numbers ballots election read))

-- ---- a cell that fails none is read

-- some numbers and ballots were read of so many first cells
record IsReadUpTo (e : Election) (bank : List ℕ) (place : ℕ) : Type 0 where
  numbers : List ℕ
  ballots : List Ballot
  read : AreRead e bank place numbers ballots

may_or_fails : (e : Election) (bank : List ℕ) (place : ℕ) (numbers : List ℕ) (ballots : List Ballot) (b : Ballot) → IsElection e → AreRead e bank place numbers ballots → IsCellOf e (cell_at e place bank) b → MayStand (home_in e) numbers b.number place ⊎ IsWrongCell e bank place
may_or_fails e bank place numbers ballots b election read is =
    let Passes : ℕ → Type 0 = λ k. home_in e b.number ≤ k → b.number < get_or numbers k 0 in
    elim (cases_lt place (home_in e b.number)) [
      | inl before ↦ inr (Home, (b, is, before))
      | inr from ↦
          elim (each_or_one Passes (λ k. elim (cases_lt k (home_in e b.number)) [
            | inl early ↦ inl (λ late. absurd (omega arith))
            | inr late ↦ elim (cases_lt b.number (get_or numbers k 0)) [
              | inl greater ↦ inl (λ _. greater)
              | inr least ↦ inr (λ passes. let more = passes late in omega arith)
            ]
          ]) place) [
            | inl each ↦ inl (record { from_home = from; greater_before = λ k late before. each k before late })
            | inr one ↦ elim (cases_lt one.0 (home_in e b.number)) [
              | inl early ↦ absurd (one.2 (λ late. absurd (omega arith)))
              | inr late ↦ elim (cases_lt b.number (get_or numbers one.0 0)) [
                | inl greater ↦ absurd (one.2 (λ _. greater))
                | inr least ↦
                    let same = number_read e bank place numbers ballots election read one.0 one.1 in
                    inr (Order, (b, is, (one.0, late, one.1, omega (arith, same, least))))
              ]
            ]
          ]
    ]

next_or_fails : (e : Election) (bank : List ℕ) (place : ℕ) (numbers : List ℕ) (ballots : List Ballot) → IsElection e → AreRead e bank place numbers ballots → IsReadUpTo e bank (place + 1) ⊎ IsWrongCell e bank place
next_or_fails e bank place numbers ballots election read =
    elim (held_or_not e (cell_at e place bank) election) [
      | inl held ↦
          let b = held.0 in
          elim (may_or_fails e bank place numbers ballots b election read held.1) [
            | inr wrong ↦ inr wrong
            | inl may ↦ elim (cases_lt (length ballots) e.limit) [
              | inl room ↦ inl (record { numbers = numbers ++ b.number ∷ []; ballots = ballots ++ b ∷ []; read = ballot_read e bank place numbers ballots b read held.1.0 held.1.1 may room })
              | inr full ↦ inr (Limit, (b, held.1, omega (arith, full, count_read e bank place numbers ballots election read)))
            ]
          ]
      | inr none ↦ elim (empty_or_not e (cell_at e place bank)) [
        | inl empty ↦ inl (record { numbers = numbers ++ 0 ∷ []; ballots = ballots; read = empty_read e bank place numbers ballots read empty })
        | inr filled ↦ inr (Bytes, (filled, none))
      ]
    ]

-- up to a cell before which none is wrong
all_read : (e : Election) (bank : List ℕ) (place : ℕ) → IsElection e → ((cell : ℕ) → cell < place → ¬ IsWrongCell e bank cell) → IsReadUpTo e bank place
all_read e bank zero election none = record { numbers = []; ballots = []; read = nothing_read e bank }
all_read e bank (suc place) election none =
    let before = all_read e bank place election (λ cell lt. none cell (omega arith)) in
    let same : place + 1 ≡ suc place = omega arith in
    elim (next_or_fails e bank place before.numbers before.ballots election before.read) [
      | inl read ↦ subst (IsReadUpTo e bank) same read
      | inr wrong ↦ absurd (none place (omega arith) wrong)
    ]

-- up to where the bank begins an image
begun_read : (e : Election) (bank : List ℕ) (place : ℕ) → IsElection e → place ≤ cell_count e → BeginsAnImage e place bank → (cell : ℕ) → cell < place → ¬ IsWrongCell e bank cell
begun_read e bank zero election within begins cell lt wrong = absurd (omega arith)
begun_read e bank (suc place) election within begins cell lt wrong =
    let fewer = begins_fewer e place (suc place) bank (omega arith) begins in
    let none = begun_read e bank place election (omega arith) fewer in
    ⊎_elim
    (λ (before : cell < place). none cell before wrong)
    (λ (last : place ≤ cell).
    let so_far = all_read e bank place election none in
    let same : cell ≡ place = omega arith in
    let here : IsWrongCell e bank place = subst (IsWrongCell e bank) same wrong in
    let next : suc place ≡ place + 1 = omega arith in
    fails_wrong e bank place so_far.numbers so_far.ballots here.0 election (omega arith) so_far.read here.1
    (subst (λ (n : ℕ). BeginsAnImage e n bank) next begins))
    (cases_lt cell place)

-- ---- the laws

pub failing_from_wrong : (e : Election) (bank : List ℕ) (cell : ℕ) → IsElection e → IsFirstWrong e bank cell → IsFirstFailing e bank cell
failing_from_wrong e bank cell election first =
    let none : (before : ℕ) → before < cell → ¬ IsWrongCell e bank before = λ before lt.
    begun_read e bank (before + 1) election (omega (arith, first.within)) (first.least before lt) before (omega arith) in
    let so_far = all_read e bank cell election none in
    record {
      within = first.within;
      wrong = elim (next_or_fails e bank cell so_far.numbers so_far.ballots election so_far.read) [
        | inl more ↦ absurd (first.wrong (begins_read e bank (cell + 1) more.numbers more.ballots election (omega (arith, first.within)) more.read))
        | inr wrong ↦ wrong
      ];
      least = none;
    }

pub wrong_from_failing : (e : Election) (bank : List ℕ) (cell : ℕ) → IsElection e → IsFirstFailing e bank cell → IsFirstWrong e bank cell
wrong_from_failing e bank cell election first =
    let so_far = all_read e bank cell election first.least in
    record {
      within = first.within;
      wrong = fails_wrong e bank cell so_far.numbers so_far.ballots first.wrong.0 election first.within so_far.read first.wrong.1;
      least = λ before lt.
          let read = all_read e bank (before + 1) election (λ k less. first.least k (omega arith)) in
          begins_read e bank (before + 1) read.numbers read.ballots election (omega (arith, first.within)) read.read;
    }

pub one_wrong : (e : Election) (bank : List ℕ) (a b : ℕ) → IsFirstWrong e bank a → IsFirstWrong e bank b → a ≡ b
one_wrong e bank a b first second = ⊎_elim
    (λ (less : a < b). absurd (first.wrong (second.least a less)))
    (λ (most : b ≤ a). ⊎_elim (λ (less : b < a). absurd (second.wrong (first.least b less))) (λ (also : a ≤ b). let same : a ≡ b = omega arith in same) (cases_lt b a))
    (cases_lt a b)

pub none_wrong : (e : Election) (bank : List ℕ) → IsElection e → ((ballots : List Ballot) × IsImageOf e bank ballots) → (cell : ℕ) → cell < cell_count e → ¬ IsWrongCell e bank cell
none_wrong e bank election is =
    let image = is.1 in
    begun_read e bank (cell_count e) election (omega arith) (is.0, image.set, image.within_limit, ap (first_cells e (cell_count e)) image.bytes)

pub image_of_right_cells : (e : Election) (bank : List ℕ) → IsElection e → length bank ≡ bank_size e → take header_size bank ≡ header_of e → ((cell : ℕ) → cell < cell_count e → ¬ IsWrongCell e bank cell) → (ballots : List Ballot) × IsImageOf e bank ballots
image_of_right_cells e bank election long header none =
    let all = all_read e bank (cell_count e) election none in
    let held = listing_read e bank (cell_count e) all.numbers all.ballots all.read in
    let ordered = in_order-IsPermutation all.ballots in (
      in_order all.ballots,
      record {
        set = set_of_listing e all.ballots held.listing;
        within_limit = limit-IsPermutation e all.ballots (in_order all.ballots) ordered held.within_limit;
        bytes = whole_bank e bank all.numbers all.ballots election long header all.read ∙ image_of-IsPermutation e all.ballots (in_order all.ballots) held.listing.distinct ordered;
      },
    )
