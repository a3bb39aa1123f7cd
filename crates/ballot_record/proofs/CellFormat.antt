-- What others may count on of the bytes of a cell and of a header: how many they are, that a ballot's number stands in
-- front, and that no two ballots have the same bytes. That zeros are no ballot stands in `take_cell`. Each width that is
-- the same in every election is a constant of the program.
use Rattle.std.proofs.Common.{◌≡◌, ℕ, ◌*◌, ◌^◌, ◌<◌, ◌≤◌, List, [], ◌∷◌, ◌++◌, length, take, replicate, refl, sym, ap, ◌∙◌, append_assoc, arith, length-append, length-take, take_at}
use Rattle.store_spec.proofs.Common.{Ballot, Election, IsElection, IsValid, bytes_high_first, flat_map, flat_map-cons, mul-suc, number_at, set_width, take-replicate}
use Rattle.store_spec.specs.Election.{cell_size, header_size}
use Rattle.store_spec.specs.Image.{ballot_bytes, header_of}
use Rattle.std.proofs.lemmas.Nat.{from_be_bytes-to_be_bytes_8}
use Rattle.std.specs.Int.{from_be_bytes, to_be_bytes, w8, w64}
use Rattle.byteorder.specs.Numbers.{length-bytes_high_first}
use Rattle.ballot_record.proofs.FormatReading.{cell_again}
use Rattle.ballot_record.proofs.Versions.{contests_fit, set_bytes_fit}
use Rattle.ballot_record.specs.Format.{ballot_at, largest_bank, largest_cell, number_size}
use Rattle.ballot_record.specs.declared.format.TheConstants.{HEADER_BYTES, MAX_BANK_BYTES, MAX_CELL_BYTES}

pub header_width : header_size ≡ HEADER_BYTES
unfolding header_size
header_width = refl

pub largest_cell_width : largest_cell ≡ MAX_CELL_BYTES
unfolding largest_cell
largest_cell_width = refl

pub largest_bank_width : largest_bank ≡ MAX_BANK_BYTES
unfolding header_size largest_bank largest_cell
largest_bank_width = refl

-- a cell has room for a number
pub number_fits : (e : Election) → number_size ≤ cell_size e
unfolding cell_size
number_fits e = omega arith

-- no cell is longer than the longest
pub cell_fits : (e : Election) → IsElection e → cell_size e ≤ largest_cell
unfolding cell_size largest_cell
cell_fits e election = omega (arith, set_bytes_fit e election)

pub length-header_of : (e : Election) → length (header_of e) ≡ header_size
unfolding header_of header_size
length-header_of e = refl

length-sets : (width : ℕ) (sets : List ℕ) → length (flat_map (bytes_high_first width) sets) ≡ width * length sets
length-sets width [] = omega arith
length-sets width (set ∷ sets) =
    omega (arith, ap length (flat_map-cons (bytes_high_first width) set sets), length-append (bytes_high_first width set) (flat_map (bytes_high_first width) sets), length-bytes_high_first width set, length-sets width sets, mul-suc width (length sets))

pub length-ballot_bytes : (e : Election) (b : Ballot) → IsElection e → IsValid e b → length (ballot_bytes e b) ≡ cell_size e
unfolding ballot_bytes cell_size
length-ballot_bytes e b election valid =
    let sets = take (length e.contests) b.marks in
    let count : length sets ≡ length e.contests = omega (arith, length-take (length e.contests) b.marks, valid.every_set, contests_fit e election) in
    omega (arith, length-sets (set_width e) sets, ap (λ n. set_width e * n) count)

pub number_of_bytes : (e : Election) (b : Ballot) → b.number < 2 ^ 64 → number_at (ballot_bytes e b) ≡ b.number
unfolding ballot_bytes
number_of_bytes e b short =
    let number = to_be_bytes w64 b.number in
    let style = to_be_bytes w8 b.style in
    let sets = flat_map (bytes_high_first (set_width e)) (take (length e.contests) b.marks) in
    ap (λ bytes. from_be_bytes w64 (take 8 bytes)) (append_assoc number style sets)
    ∙ ap (from_be_bytes w64) (take_at number (style ++ sets) 8 refl)
    ∙ from_be_bytes-to_be_bytes_8 b.number short

pub number_of_zeros : (e : Election) → number_at (replicate (cell_size e) 0) ≡ 0
number_of_zeros e = ap (from_be_bytes w64) (take-replicate 8 (cell_size e) 0 (omega (arith, number_fits e)))

-- the bytes of a valid ballot spell it
pub spells_itself : (e : Election) (b : Ballot) → IsElection e → IsValid e b → ballot_at e (ballot_bytes e b) ≡ b
spells_itself = cell_again

-- no two ballots have the same bytes
pub same_ballot : (e : Election) (a b : Ballot) → IsElection e → IsValid e a → IsValid e b → ballot_bytes e a ≡ ballot_bytes e b → a ≡ b
same_ballot e a b election valid_a valid_b same =
    sym (cell_again e a election valid_a) ∙ ap (ballot_at e) same ∙ cell_again e b election valid_b
