-- The first cells of a bank that were judged: one more, more bytes behind them, and a whole bank.
use Rattle.std.proofs.Common.{◌≡◌, ◌≢◌, ℕ, ◌+◌, ◌-◌, ◌*◌, ◌<◌, ◌≤◌, ⊎_elim, List, [], ◌++◌, length, take, drop, refl, sym, ap, ap₂, subst, ◌∙◌, arith, append_assoc, mul-le-mul_right}
use Rattle.store_spec.proofs.Common.{Ballot, Election, IsElection, IsImageOf, append-nil, bank_size, cases_lt, cell_count, cell_size, cells_of, drop_at, first_cells, header_of, header_size, length-append, length-drop, length-take-le, take-add, take-append-drop, take-append-le, take_all, take_at}
use Rattle.body_store.proofs.Spelled.{held_own, known_own, spelled}
use Rattle.image_builder.proofs.FirstCells.{AreNext, fewer_cells, header_in_front, read_in_front}
use Rattle.image_builder.proofs.Reading.{AreRead, begins_fewer, begins_read, front_read, layout_read, listing_ordered}
use Rattle.image_builder.proofs.Wrong.{whole_bank}
use Rattle.image_builder.specs.Cells.{AreCells, AreFirst, AreJudged, bytes_in, end_of, front_of, numbers_read, spelled_ballots}
use Rattle.image_builder.specs.Feeding.{Completes, IsFront, IsRefusedPiece}
use Rattle.image_builder.specs.Reading.{IsRefusedBank}
use Rattle.image_builder.specs.declared.cells.CellsRead.{CellsRead}
use Rattle.image_builder.specs.declared.read.ImageFault.{ImageFault}
use Rattle.image_builder.specs.declared.read.ImageFault.TheVariants.{OtherElection, Damaged, Memory}
use Rattle.body_store.specs.Held.{Shows, spelled_in}
use Rattle.ballot_record.proofs.CellFormat.{length-header_of, number_fits}

-- cells that were read so, with these ballots, are the first of the bank
pub first_as : (e : Election) (numbers reaches : List ℕ) (ballots : List Ballot) (bank : List ℕ) → IsElection e → AreCells e numbers reaches ballots → take (end_of e numbers) bank ≡ front_of e numbers ballots → end_of e numbers ≤ length bank
    → AreFirst e numbers reaches bank
first_as e numbers reaches ballots bank election cells front within =
    let rest = drop (end_of e numbers) bank in
    let held = listing_ordered e numbers ballots cells.ordered cells.same cells.valid cells.few in
    let behind : drop header_size bank ≡ bytes_in e numbers ballots ++ rest =
    ap (drop header_size) (sym (take-append-drop (end_of e numbers) bank) ∙ ap (λ bytes. bytes ++ rest) front ∙ append_assoc (header_of e) (bytes_in e numbers ballots) rest)
    ∙ drop_at (header_of e) (bytes_in e numbers ballots ++ rest) header_size (length-header_of e) in
    let same : ballots ≡ spelled_ballots e numbers bank =
    sym (ap (spelled_in e numbers) behind ∙ spelled e ballots numbers rest election cells.valid (known_own ballots numbers cells.same) ∙ held_own e ballots numbers held.listing cells.same) in
    record {
      cells = subst (λ (bs : List Ballot). AreCells e numbers reaches bs) same cells;
      bytes = front ∙ ap (front_of e numbers) same;
      within = within;
    }

-- the bank is these cells and what stands behind them
pub bank_is : (e : Election) (numbers reaches bank : List ℕ) → AreFirst e numbers reaches bank → front_of e numbers (spelled_ballots e numbers bank) ++ drop (end_of e numbers) bank ≡ bank
bank_is e numbers reaches bank first = ap (λ bytes. bytes ++ drop (end_of e numbers) bank) (sym first.bytes) ∙ take-append-drop (end_of e numbers) bank

pub first_header : (e : Election) (numbers reaches bank : List ℕ) → AreFirst e numbers reaches bank → take header_size bank ≡ header_of e
first_header e numbers reaches bank first =
    ap (take header_size) (sym (bank_is e numbers reaches bank first)) ∙ header_in_front e numbers (spelled_ballots e numbers bank) (drop (end_of e numbers) bank)

-- the next cells stand behind those that were read
pub record IsNext (e : Election) (numbers bank bytes : List ℕ) (count : ℕ) : Type 0 where
  pub long : length bytes ≡ count * cell_size e
  pub room : length numbers + count ≤ cell_count e
  pub front : front_of e numbers (spelled_ballots e numbers bank) ++ bytes ≡ take (end_of e numbers + count * cell_size e) bank

pub next_is : (e : Election) (numbers reaches bank bytes : List ℕ) (count at : ℕ) → AreFirst e numbers reaches bank → at ≡ end_of e numbers → at + count * cell_size e ≤ length bank → length bank ≤ bank_size e → bytes ≡ take (count * cell_size e) (drop at bank)
    → IsNext e numbers bank bytes count
next_is e numbers reaches bank bytes count at first begins whole within is =
    let size = cell_size e in
    let some : 0 < size = omega (arith, number_fits e) in
    let sum : (length numbers + count) * size ≡ length numbers * size + count * size = grind arith in
    let next : (cell_count e + 1) * size ≡ cell_count e * size + size = grind arith in
    let fewer : length numbers + count < cell_count e + 1 = fewer_cells (length numbers + count) (cell_count e + 1) size (omega (arith, sum, next, begins, whole, within, some)) in
    record {
      long = ap length is ∙ length-take-le (count * size) (drop at bank) (omega (arith, length-drop at bank, whole));
      room = omega (arith, fewer);
      front = ap₂ (λ front bytes. front ++ bytes) (sym first.bytes) (is ∙ ap (λ n. take (count * size) (drop n bank)) begins)
          ∙ sym (take-add (end_of e numbers) (count * size) bank);
    }

-- one cell, as it is cut from the bank
pub one_is : (e : Election) (numbers reaches bank : List ℕ) (at width : ℕ) → AreFirst e numbers reaches bank → at ≡ end_of e numbers → at + cell_size e ≤ length bank → length bank ≤ bank_size e → width ≡ cell_size e
    → IsNext e numbers bank (take (at + width - at) (drop at bank)) 1
one_is e numbers reaches bank at width first begins whole within wide =
    next_is e numbers reaches bank (take (at + width - at) (drop at bank)) 1 at first begins (omega (arith, whole)) within
    (ap (λ n. take n (drop at bank)) (let same : at + width - at ≡ 1 * cell_size e = omega (arith, wide) in same))

pub up_to : (e : Election) (numbers bank bytes : List ℕ) (at : ℕ) → at ≡ end_of e numbers → IsNext e numbers bank bytes 1 → front_of e numbers (spelled_ballots e numbers bank) ++ bytes ≡ take (at + cell_size e) bank
up_to e numbers bank bytes at begins is = is.front ∙ ap (λ n. take n bank) (let same : end_of e numbers + 1 * cell_size e ≡ at + cell_size e = omega (arith, begins) in same)

-- and once they are read they are first
pub first_next : (e : Election) (numbers reaches bank bytes more others : List ℕ) (ballots : List Ballot) (count : ℕ) → IsElection e → AreFirst e numbers reaches bank → IsNext e numbers bank bytes count → end_of e numbers + count * cell_size e ≤ length bank
    → length more ≡ length numbers + count → AreNext e (front_of e numbers (spelled_ballots e numbers bank)) bytes more others ballots → AreFirst e more others bank
first_next e numbers reaches bank bytes more others ballots count election first is whole long next =
    let size = cell_size e in
    let sum : (length numbers + count) * size ≡ length numbers * size + count * size = grind arith in
    let ends : end_of e more ≡ end_of e numbers + count * size = ap (λ n. header_size + n * size) long ∙ omega (arith, sum) in
    first_as e more others ballots bank election next.cells (ap (λ n. take n bank) ends ∙ sym is.front ∙ sym next.fed) (omega (arith, ends, whole))

-- more bytes behind the cells
pub first_more : (e : Election) (numbers reaches fed more : List ℕ) → IsElection e → AreFirst e numbers reaches fed → AreFirst e numbers reaches (fed ++ more)
first_more e numbers reaches fed more election first =
    first_as e numbers reaches (spelled_ballots e numbers fed) (fed ++ more) election first.cells
    (take-append-le (end_of e numbers) fed more first.within ∙ first.bytes) (omega (arith, first.within, length-append fed more))

-- a header, and no cells
pub first_none : (e : Election) (bank : List ℕ) → IsElection e → header_size ≤ length bank → take header_size bank ≡ header_of e → AreFirst e [] [] bank
first_none e bank election whole header =
    let none : end_of e [] ≡ header_size = omega arith in
    first_as e [] [] [] bank election
    (record {
      ordered = record { from_home = λ p n. absurd (n refl); greater_before = λ p q n from before. absurd (n refl) };
      same = refl;
      valid = λ k d lt. absurd (omega arith);
      few = omega arith;
      reached = record { count = refl; each = λ place lt. absurd (omega arith) };
    })
    (ap (λ n. take n bank) none ∙ header ∙ sym (append-nil (header_of e))) (omega (arith, none))

-- ---- what is whole

pub judged_front : (e : Election) (numbers reaches bank : List ℕ) → IsElection e → AreFirst e numbers reaches bank → length bank < end_of e numbers + cell_size e → length bank ≤ bank_size e → IsFront e bank
judged_front e numbers reaches bank election first short within =
    let place = length numbers in
    let size = cell_size e in
    let ballots = spelled_ballots e numbers bank in
    let next : (cell_count e + 1) * size ≡ cell_count e * size + size = grind arith in
    let some : 0 < size = omega (arith, number_fits e) in
    let few : place < cell_count e + 1 = fewer_cells place (cell_count e + 1) size (omega (arith, next, first.within, within, some)) in
    let read = subst (λ (bank : List ℕ). AreRead e bank place numbers ballots) (bank_is e numbers reaches bank first) (read_in_front e numbers reaches ballots (drop (end_of e numbers) bank) election first.cells) in
    record {
      within = within;
      header = λ _. first_header e numbers reaches bank first;
      cells = λ count le.
          let more : (place + 1) * size ≡ place * size + size = grind arith in
          let fewer : count < place + 1 = fewer_cells count (place + 1) size (omega (arith, more, le, short)) in
          begins_fewer e count place bank (omega (arith, fewer)) (begins_read e bank place numbers ballots election (omega (arith, few)) read);
    }

-- all cells of a bank that was judged whole were read
pub judged_whole : (e : Election) (numbers reaches bank : List ℕ) → IsElection e → AreFirst e numbers reaches bank → length bank < end_of e numbers + cell_size e → length bank ≡ bank_size e → Shows e (spelled_ballots e numbers bank) bank numbers
judged_whole e numbers reaches bank election first short whole =
    let size = cell_size e in
    let place = length numbers in
    let ballots = spelled_ballots e numbers bank in
    let next : (cell_count e + 1) * size ≡ cell_count e * size + size = grind arith in
    let more : (place + 1) * size ≡ place * size + size = grind arith in
    let some : 0 < size = omega (arith, number_fits e) in
    let few : place < cell_count e + 1 = fewer_cells place (cell_count e + 1) size (omega (arith, next, first.within, whole, some)) in
    let many : cell_count e < place + 1 = fewer_cells (cell_count e) (place + 1) size (omega (arith, more, whole, short)) in
    let all : place ≡ cell_count e = omega (arith, few, many) in
    let cells = first.cells in
    let held = listing_ordered e numbers ballots cells.ordered cells.same cells.valid cells.few in
    let read = subst (λ (p : ℕ). AreRead e bank p numbers ballots) all
    (subst (λ (bank : List ℕ). AreRead e bank place numbers ballots) (bank_is e numbers reaches bank first) (read_in_front e numbers reaches ballots (drop (end_of e numbers) bank) election cells)) in
    let layout = layout_read e ballots election held in
    record {
      election = election;
      listing = held.listing;
      within_limit = held.within_limit;
      image = whole_bank e bank numbers ballots election whole (first_header e numbers reaches bank first) read;
      cells = sym (front_read e bank (cell_count e) numbers ballots election (omega arith) read) ∙ take_all (cell_count e) (cells_of e ballots) (omega (arith, layout.size));
    }

-- ---- refusals

completes_on : (e : Election) (numbers fed bank : List ℕ) (fault : ImageFault) → (header_size ≤ length fed → length fed < end_of e numbers + cell_size e) → end_of e numbers ≤ length bank → Completes e (end_of e numbers) (length bank) fault → Completes e (length fed) (length bank) fault
completes_on e numbers fed bank (OtherElection header) short within completes = absurd (omega (arith, completes.0))
completes_on e numbers fed bank (Damaged cell) short within completes =
    let size = cell_size e in
    let more : (length numbers + 1) * size ≡ length numbers * size + size = grind arith in
    let later : length numbers < cell + 1 = fewer_cells (length numbers) (cell + 1) size (omega (arith, completes.0)) in
    let fits : (length numbers + 1) * size ≤ (cell + 1) * size = mul-le-mul_right size (let le : length numbers + 1 ≤ cell + 1 = omega (arith, later) in le) in (
      ⊎_elim (λ (less : length fed < header_size). omega (arith, less, completes.0)) (λ (most : header_size ≤ length fed). omega (arith, short most, more, fits)) (cases_lt (length fed) header_size),
      completes.1,
    )
completes_on e numbers fed bank Memory short within completes = completes

-- what is refused behind the cells that were read is refused behind the bytes so far
pub refused_on : (e : Election) (numbers reaches fed more bank : List ℕ) (fault : ImageFault) → AreFirst e numbers reaches bank → (header_size ≤ length fed → length fed < end_of e numbers + cell_size e) → bank ≡ fed ++ more
    → IsRefusedPiece e (take (end_of e numbers) bank) (drop (end_of e numbers) bank) fault → IsRefusedPiece e fed more fault
refused_on e numbers reaches fed more bank fault first short is refused =
    let front = take (end_of e numbers) bank in
    let rest = drop (end_of e numbers) bank in
    let whole = take-append-drop (end_of e numbers) bank in
    let begins : length front ≡ end_of e numbers = length-take-le (end_of e numbers) bank first.within in
    let completes : Completes e (end_of e numbers) (length bank) fault =
    subst (λ (n : ℕ). Completes e n (length bank) fault) begins (subst (λ (bytes : List ℕ). Completes e (length front) (length bytes) fault) whole refused.completes) in
    record {
      completes = subst (λ (bytes : List ℕ). Completes e (length fed) (length bytes) fault) is (completes_on e numbers fed bank fault short first.within completes);
      each_bank = λ behind.
          subst (λ (bytes : List ℕ). IsRefusedBank e bytes fault)
          (ap (λ bytes. bytes ++ behind) (whole ∙ is))
          (refused.each_bank behind);
    }

-- the header that is whole now is another election's
pub refused_header : (e : Election) (cells : CellsRead) (fed more bank : List ℕ) → AreJudged e cells fed → bank ≡ fed ++ more → header_size ≤ length bank → take header_size bank ≢ header_of e → IsRefusedPiece e fed more (OtherElection (take header_size bank))
refused_header e cells fed more bank judged is whole other = ⊎_elim
    (λ (less : length fed < header_size). record {
      completes = (less, omega (arith, whole, ap length is));
      each_bank = λ behind. (
        sym (ap (λ bytes. take header_size (bytes ++ behind)) (sym is) ∙ take-append-le header_size bank behind whole),
        other,
      );
    })
    (λ (most : header_size ≤ length fed).
    absurd (other (ap (take header_size) is ∙ take-append-le header_size fed more most ∙ first_header e (numbers_read cells) cells.reaches.items fed (judged.first most))))
    (cases_lt (length fed) header_size)

-- ---- an image

pub header_of_image : (e : Election) (bank : List ℕ) (ballots : List Ballot) → IsImageOf e bank ballots → take header_size bank ≡ header_of e
header_of_image e bank ballots is =
    ap (take header_size) is.bytes ∙ take_at (header_of e) (bytes_in e (cells_of e ballots) ballots) header_size (length-header_of e)

pub only_memory : (e : Election) (bank : List ℕ) (ballots : List Ballot) (fault : ImageFault) → IsImageOf e bank ballots → IsRefusedBank e bank fault → fault ≡ Memory
only_memory e bank ballots (OtherElection header) is refused =
    absurd (refused.1 (refused.0 ∙ header_of_image e bank ballots is))
only_memory e bank ballots (Damaged cell) is refused =
    absurd (refused.1.wrong (ballots, is.set, is.within_limit, ap (first_cells e (cell + 1)) is.bytes))
only_memory e bank ballots Memory is refused = refl
