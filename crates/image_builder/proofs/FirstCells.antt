-- One cell behind those that were read: the bytes so far, and the cell that is wrong.
use Rattle.std.proofs.Common.{◌≡◌, ℕ, zero, suc, ◌+◌, ◌-◌, ◌*◌, ◌<◌, ◌≤◌, ⊎_elim, List, [], ◌∷◌, ◌++◌, length, take, drop, replicate, refl, sym, ap, subst, ◌∙◌, arith, append_assoc}
use Rattle.store_spec.proofs.Common.{All, Ballot, BeginsAnImage, Election, IsElection, IsValid, MayStand, append-nil, ballot_bytes, cases_lt, cell_at, cell_bytes, cell_count, cell_size, drop_at, header_of, header_size, home_in, length-append, length-replicate, replicate-append-replicate, take_at}
use Rattle.body_store.proofs.Images.{length_pieces, length-cell_bytes, one_cell_more}
use Rattle.image_builder.proofs.Reaches.{reaches_empty, reaches_more}
use Rattle.image_builder.proofs.Reading.{AreRead}
use Rattle.image_builder.proofs.Steps.{ballot_read, empty_read}
use Rattle.image_builder.proofs.Wrong.{first_wrong}
use Rattle.image_builder.specs.Cells.{AreCells, IsRefusedAt, bytes_in, front_of}
use Rattle.image_builder.specs.Feeding.{Completes, IsRefusedPiece}
use Rattle.image_builder.specs.Reaches.{AreReaches, IsReach}
use Rattle.image_builder.specs.Reading.{IsRefusedBank}
use Rattle.image_builder.specs.declared.read.ImageFault.{ImageFault}
use Rattle.image_builder.specs.declared.read.ImageFault.TheVariants.{OtherElection, Damaged, Memory}
use Rattle.store_spec.specs.Image.{IsEmptyCell}
use Rattle.ballot_record.proofs.CellFormat.{length-header_of, number_fits}

-- ---- how many cells fit

more_bytes : (n m size : ℕ) → n ≤ m → n * size ≤ m * size
more_bytes n m size le = grind arith

pub fewer_cells : (n m size : ℕ) → n * size < m * size → n < m
fewer_cells n m size lt = ⊎_elim (λ (less : n < m). less) (λ (more : m ≤ n). absurd (omega (arith, more_bytes m n size more))) (cases_lt n m)

-- ---- the bytes up to the end of some cells

pub length-front_of : (e : Election) (numbers : List ℕ) (ballots : List Ballot) → IsElection e → All (IsValid e) ballots → length (front_of e numbers ballots) ≡ header_size + length numbers * cell_size e
length-front_of e numbers ballots election valid =
    length-append (header_of e) (bytes_in e numbers ballots)
    ∙ ap (λ n. n + length (bytes_in e numbers ballots)) (length-header_of e)
    ∙ ap (λ n. header_size + n) (length_pieces (cell_bytes e ballots) (cell_size e) numbers (λ x. length-cell_bytes e ballots x election valid))

pub header_in_front : (e : Election) (numbers : List ℕ) (ballots : List Ballot) (rest : List ℕ) → take header_size (front_of e numbers ballots ++ rest) ≡ header_of e
header_in_front e numbers ballots rest =
    ap (take header_size) (append_assoc (header_of e) (bytes_in e numbers ballots) rest) ∙ take_at (header_of e) (bytes_in e numbers ballots ++ rest) header_size (length-header_of e)

pub read_in_front : (e : Election) (numbers reaches : List ℕ) (ballots : List Ballot) (rest : List ℕ) → IsElection e → AreCells e numbers reaches ballots → AreRead e (front_of e numbers ballots ++ rest) (length numbers) numbers ballots
read_in_front e numbers reaches ballots rest election cells =
    let bytes = bytes_in e numbers ballots in
    let size = length numbers * cell_size e in
    record {
      size = refl;
      ordered = cells.ordered;
      same = cells.same;
      valid = cells.valid;
      few = cells.few;
      bytes = ap (λ bank. take size (drop header_size bank)) (append_assoc (header_of e) bytes rest)
          ∙ ap (take size) (drop_at (header_of e) (bytes ++ rest) header_size (length-header_of e))
          ∙ take_at bytes rest size (length_pieces (cell_bytes e ballots) (cell_size e) numbers (λ x. length-cell_bytes e ballots x election cells.valid));
    }

next_cell : (e : Election) (numbers : List ℕ) (ballots : List Ballot) (bytes rest : List ℕ) → IsElection e → All (IsValid e) ballots → length bytes ≡ cell_size e → cell_at e (length numbers) (front_of e numbers ballots ++ (bytes ++ rest)) ≡ bytes
next_cell e numbers ballots bytes rest election valid long =
    ap (take (cell_size e)) (drop_at (front_of e numbers ballots) (bytes ++ rest) (header_size + length numbers * cell_size e) (length-front_of e numbers ballots election valid))
    ∙ take_at bytes rest (cell_size e) long

-- ---- one cell more

-- these are the cells with the bytes of one more
pub record AreNext (e : Election) (front bytes numbers reaches : List ℕ) (ballots : List Ballot) : Type 0 where
  pub cells : AreCells e numbers reaches ballots
  pub fed : front_of e numbers ballots ≡ front ++ bytes

next_read : (e : Election) (bank : List ℕ) (place : ℕ) (numbers more reaches : List ℕ) (ballots others : List Ballot) (bytes : List ℕ) → AreRead e bank place numbers ballots → AreRead e bank (place + 1) more others
    → cell_at e place bank ≡ bytes → AreReaches more reaches → AreNext e (front_of e numbers ballots) bytes more reaches others
next_read e bank place numbers more reaches ballots others bytes before after cell reached = record {
  cells = record { ordered = after.ordered; same = after.same; valid = after.valid; few = after.few; reached = reached };
  fed = ap (λ xs. header_of e ++ xs)
      (sym after.bytes ∙ one_cell_more e place bank ∙ ap (λ xs. xs ++ cell_at e place bank) before.bytes ∙ ap (λ xs. bytes_in e numbers ballots ++ xs) cell)
      ∙ sym (append_assoc (header_of e) (bytes_in e numbers ballots) bytes);
}

pub empty_next : (e : Election) (numbers reaches : List ℕ) (ballots : List Ballot) (bytes : List ℕ) → IsElection e → AreCells e numbers reaches ballots → length bytes ≡ cell_size e → IsEmptyCell e bytes
    → AreNext e (front_of e numbers ballots) bytes (numbers ++ 0 ∷ []) reaches ballots
empty_next e numbers reaches ballots bytes election cells long empty =
    let bank = front_of e numbers ballots ++ (bytes ++ []) in
    let place = length numbers in
    let read = read_in_front e numbers reaches ballots (bytes ++ []) election cells in
    let cell = next_cell e numbers ballots bytes [] election cells.valid long in
    next_read e bank place numbers (numbers ++ 0 ∷ []) reaches ballots ballots bytes read
    (empty_read e bank place numbers ballots read (cell ∙ empty)) cell (reaches_empty numbers reaches cells.reached)

pub ballot_next : (e : Election) (numbers reaches : List ℕ) (ballots : List Ballot) (b : Ballot) (from : ℕ) (bytes : List ℕ) → IsElection e → AreCells e numbers reaches ballots → length bytes ≡ cell_size e
    → IsValid e b → bytes ≡ ballot_bytes e b → MayStand (home_in e) numbers b.number (length numbers) → length ballots < e.limit → IsReach numbers b.number (length numbers) from
    → AreNext e (front_of e numbers ballots) bytes (numbers ++ b.number ∷ []) (reaches ++ from ∷ []) (ballots ++ b ∷ [])
ballot_next e numbers reaches ballots b from bytes election cells long valid is may room reach =
    let bank = front_of e numbers ballots ++ (bytes ++ []) in
    let place = length numbers in
    let read = read_in_front e numbers reaches ballots (bytes ++ []) election cells in
    let cell = next_cell e numbers ballots bytes [] election cells.valid long in
    next_read e bank place numbers (numbers ++ b.number ∷ []) (reaches ++ from ∷ []) ballots (ballots ++ b ∷ []) bytes read
    (ballot_read e bank place numbers ballots b read valid (cell ∙ is) may room) cell (reaches_more numbers reaches b.number from cells.reached (λ none. omega (arith, valid.some_number, none)) reach)

-- ---- empty cells

pub empties_next : (e : Election) (numbers reaches : List ℕ) (ballots : List Ballot) (bytes : List ℕ) (count : ℕ) → IsElection e → AreCells e numbers reaches ballots → bytes ≡ replicate (count * cell_size e) 0
    → AreNext e (front_of e numbers ballots) bytes (numbers ++ replicate count 0) reaches ballots
empties_next e numbers reaches ballots bytes zero election cells zeros =
    let front = front_of e numbers ballots in
    let none : 0 * cell_size e ≡ 0 = omega arith in
    record {
      cells = subst (λ (ns : List ℕ). AreCells e ns reaches ballots) (sym (append-nil numbers)) cells;
      fed = ap (λ ns. front_of e ns ballots) (append-nil numbers) ∙ sym (append-nil front) ∙ ap (λ (bs : List ℕ). front ++ bs) (sym (zeros ∙ ap (λ n. replicate n 0) none));
    }
empties_next e numbers reaches ballots bytes (suc more) election cells zeros =
    let front = front_of e numbers ballots in
    let size = cell_size e in
    let long : suc more * size ≡ size + more * size = omega arith in
    let first = replicate size 0 in
    let rest = replicate (more * size) 0 in
    let one = empty_next e numbers reaches ballots first election cells (length-replicate size 0) refl in
    let next = empties_next e (numbers ++ 0 ∷ []) reaches ballots rest more election one.cells refl in
    let all : bytes ≡ first ++ rest = zeros ∙ ap (λ n. replicate n 0) long ∙ sym (replicate-append-replicate size (more * size) 0) in
    let same : (numbers ++ 0 ∷ []) ++ replicate more 0 ≡ numbers ++ replicate (suc more) 0 = append_assoc numbers (0 ∷ []) (replicate more 0) in
    record {
      cells = subst (λ (ns : List ℕ). AreCells e ns reaches ballots) same next.cells;
      fed = ap (λ ns. front_of e ns ballots) (sym same) ∙ next.fed ∙ ap (λ (xs : List ℕ). xs ++ rest) one.fed ∙ append_assoc front first rest ∙ ap (λ (xs : List ℕ). front ++ xs) (sym all);
    }

-- ---- a wrong cell

-- what every bank that goes on with these bytes is like
pub record Goes (e : Election) (numbers : List ℕ) (ballots : List Ballot) (bytes bank : List ℕ) : Type 0 where
  pub read : AreRead e bank (length numbers) numbers ballots
  pub cell : cell_at e (length numbers) bank ≡ bytes

pub wrong_next : (e : Election) (numbers reaches : List ℕ) (ballots : List Ballot) (bytes : List ℕ) → IsElection e → AreCells e numbers reaches ballots → length bytes ≡ cell_size e → length numbers < cell_count e
    → ((bank : List ℕ) → Goes e numbers ballots bytes bank → ¬ BeginsAnImage e (length numbers + 1) bank) → IsRefusedAt e (front_of e numbers ballots ++ bytes) (Damaged (length numbers))
wrong_next e numbers reaches ballots bytes election cells long lt wrong =
    let front = front_of e numbers ballots in
    let place = length numbers in
    let size = length-front_of e numbers ballots election cells.valid in
    record {
      completes = (omega (arith, number_fits e, size, length-append front bytes, long), omega (arith, size, length-append front bytes, long));
      each_bank = λ rest.
          let bank = front ++ (bytes ++ rest) in
          let read = read_in_front e numbers reaches ballots (bytes ++ rest) election cells in
          let goes : Goes e numbers ballots bytes bank = record { read = read; cell = next_cell e numbers ballots bytes rest election cells.valid long } in
          subst (λ (bank : List ℕ). IsRefusedBank e bank (Damaged place)) (sym (append_assoc front bytes rest))
          (header_in_front e numbers ballots (bytes ++ rest), first_wrong e bank place numbers ballots election lt read (wrong bank goes));
    }

-- ---- refused pieces

completes_more : (e : Election) (before after first last : ℕ) (fault : ImageFault) → first ≤ before → after ≤ last → Completes e before after fault → Completes e first last fault
completes_more e before after first last (OtherElection header) low high completes = (omega (arith, completes.0), omega (arith, completes.1))
completes_more e before after first last (Damaged cell) low high completes = (omega (arith, completes.0), omega (arith, completes.1))
completes_more e before after first last Memory low high completes = completes

-- the bytes at whose end it is refused
pub refused_behind : (e : Election) (told before whole after : List ℕ) (fault : ImageFault) → length before < length told → told ++ after ≡ before ++ whole → IsRefusedAt e told fault → IsRefusedPiece e before whole fault
refused_behind e told before whole after fault less same refused = record {
  completes = completes_more e (length told - 1) (length told) (length before) (length (before ++ whole)) fault (omega arith)
      (omega (arith, ap length same, length-append told after)) refused.completes;
  each_bank = λ rest.
      subst (λ (bank : List ℕ). IsRefusedBank e bank fault) (sym (append_assoc told after rest) ∙ ap (λ bytes. bytes ++ rest) same) (refused.each_bank (after ++ rest));
}
