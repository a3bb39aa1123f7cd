-- What the bytes of a cell say of the ballot that is read from them.
use Rattle.std.proofs.Common.{◌≡◌, ℕ, ◌+◌, ◌-◌, ◌*◌, ◌^◌, ◌<◌, ◌≤◌, ◌++◌, inl, inr, List, length, get_or, take, drop, replicate, All, refl, sym, ap, subst, ◌∙◌, arith, length-append, pow_pos}
use Rattle.store_spec.proofs.Common.{Ballot, Election, IsCellOf, IsElection, IsValid, MARK_SETS, ballot_bytes, cases_lt, choices_on, from_be_bytes, get_or_append_left, length-replicate, set_width, take-replicate, w64}
use Rattle.store_spec.specs.Election.{cell_size}
use Rattle.byteorder.specs.Endian.{big_number}
use Rattle.store_spec.specs.Ballot.{HasMarks}
use Rattle.ballot_record.specs.Format.{HaveChoices, ballot_at, sets_at}
use Rattle.ballot_record.specs.Record.{ballot}
use Rattle.ballot_record.specs.declared.record.Record.{Record}
use Rattle.ballot_record.proofs.FormatReading.{AreBytes, cell_spelled, cell_again, length-sets_at, nothing_behind, set_read, zeros_from_all, all_from_zeros}
use Rattle.ballot_record.proofs.Versions.{contests_fit}

-- the mark sets that a cell spells have choices of their contests where those that stand in it have
pub marked_from : (e : Election) (style : ℕ) (bytes : List ℕ) → HaveChoices e style (set_width e) (drop 9 bytes) → HasMarks e style (ballot_at e bytes).marks
marked_from e style bytes have k first last =
    let n = length e.contests in
    let width = set_width e in
    let sets = sets_at width n (drop 9 bytes) in
    let zeros : List ℕ = replicate (MARK_SETS - n) 0 in
    let most : ℕ → Type 0 = λ set. set < 2 ^ choices_on e style k in
    let back : k - 1 + 1 ≡ k = omega arith in
    elim (cases_lt (k - 1) n) [
      | inl within ↦
          let read : get_or (sets ++ zeros) (k - 1) 0 ≡ big_number width (drop (width * (k - 1)) (drop 9 bytes)) =
          get_or_append_left sets zeros 0 (k - 1) (omega (arith, length-sets_at width n (drop 9 bytes))) ∙ set_read width n (drop 9 bytes) (k - 1) within in
          subst most (sym read) (subst (λ (k' : ℕ). big_number width (drop (width * (k - 1)) (drop 9 bytes)) < 2 ^ choices_on e style k') back (have (k - 1) within))
      | inr past ↦ subst most (sym (nothing_behind width n (drop 9 bytes) (sets ++ zeros) refl (k - 1) past)) (pow_pos (choices_on e style k))
    ]

-- and only there
pub have_from : (e : Election) (style : ℕ) (bytes : List ℕ) → IsElection e → HasMarks e style (ballot_at e bytes).marks → HaveChoices e style (set_width e) (drop 9 bytes)
have_from e style bytes election marked k within =
    let n = length e.contests in
    let width = set_width e in
    let sets = sets_at width n (drop 9 bytes) in
    let zeros : List ℕ = replicate (MARK_SETS - n) 0 in
    let back : k + 1 - 1 ≡ k = omega arith in
    let read : get_or (sets ++ zeros) k 0 ≡ big_number width (drop (width * k) (drop 9 bytes)) =
    get_or_append_left sets zeros 0 k (omega (arith, length-sets_at width n (drop 9 bytes))) ∙ set_read width n (drop 9 bytes) k within in
    subst (λ set. set < 2 ^ choices_on e style (k + 1)) (ap (λ place. get_or (sets ++ zeros) place 0) back ∙ read)
    (marked (k + 1) (omega arith) (omega (arith, contests_fit e election)))

-- a cell whose number, style and sets are right holds the ballot that it spells
pub held : (e : Election) (bytes : List ℕ) → IsElection e → AreBytes bytes → length bytes ≡ cell_size e
    → 0 < (ballot_at e bytes).number → (ballot_at e bytes).number < 2 ^ 64 → 0 < get_or bytes 8 0 → get_or bytes 8 0 ≤ length e.styles
    → HaveChoices e (get_or bytes 8 0) (set_width e) (drop 9 bytes) → IsCellOf e bytes (ballot_at e bytes)
held e bytes election fits long some_number short_number some_style known_style have =
    let n = length e.contests in
    let sets = sets_at (set_width e) n (drop 9 bytes) in
    let zeros : List ℕ = replicate (MARK_SETS - n) 0 in (
      record {
        some_number = some_number;
        short_number = short_number;
        some_style = some_style;
        known_style = known_style;
        every_set = omega (arith, length-append sets zeros, length-sets_at (set_width e) n (drop 9 bytes), length-replicate {A = ℕ} (MARK_SETS - n) 0, contests_fit e election);
        marked = marked_from e (get_or bytes 8 0) bytes have;
      },
      cell_spelled e bytes fits long,
    )

-- a cell that holds a ballot spells it
pub valid_there : (e : Election) (bytes : List ℕ) (b : Ballot) → IsElection e → IsCellOf e bytes b → IsValid e (ballot_at e bytes)
valid_there e bytes b election is = subst (IsValid e) (sym (ap (ballot_at e) is.1 ∙ cell_again e b election is.0)) is.0

-- a cell whose ballot is valid, as it is spelled, holds it
pub valid_cell : (e : Election) (bytes : List ℕ) (b : Ballot) → AreBytes bytes → length bytes ≡ cell_size e → b ≡ ballot_at e bytes → IsValid e b → IsCellOf e bytes b
valid_cell e bytes b fits long read valid = subst (IsCellOf e bytes) (sym read) (subst (IsValid e) read valid, cell_spelled e bytes fits long)

record_like : Ballot → Record
record_like b = record { number = b.number; style = b.style; marks = b.marks }

-- the record that was read is the one whose cell it is
pub one_record : (e : Election) (bytes : List ℕ) (r other : Record) → IsElection e → ballot r ≡ ballot_at e bytes → IsCellOf e bytes (ballot other) → r ≡ other
unfolding record_like
one_record e bytes r other election read is =
    let same : ballot r ≡ ballot other = read ∙ ap (ballot_at e) is.1 ∙ cell_again e (ballot other) election is.0 in
    ap record_like same

pub zeros_of : (e : Election) (bytes : List ℕ) → length bytes ≡ cell_size e → All {X = ℕ} (λ byte. byte ≡ 0) bytes → bytes ≡ replicate (cell_size e) 0
zeros_of e bytes long all = zeros_from_all bytes all ∙ ap (λ n. replicate n 0) long

pub each_zero : (bytes : List ℕ) (n : ℕ) → bytes ≡ replicate n 0 → All {X = ℕ} (λ byte. byte ≡ 0) bytes
each_zero bytes n zeros = subst (All {X = ℕ} (λ byte. byte ≡ 0)) (sym zeros) (all_from_zeros n)

-- a cell of zeros is that of no ballot, since no number is 0
pub no_ballot : (e : Election) (bytes : List ℕ) → IsElection e → bytes ≡ replicate (cell_size e) 0 → (b : Ballot) → IsValid e b → bytes ≡ ballot_bytes e b → ⊥
unfolding cell_size
no_ballot e bytes election zeros b valid is =
    let none = replicate (cell_size e) 0 in
    let again : ballot_at e none ≡ b = ap (ballot_at e) (sym zeros ∙ is) ∙ cell_again e b election valid in
    let front : take 8 none ≡ replicate 8 0 = take-replicate 8 (cell_size e) 0 (omega arith) in
    let number : from_be_bytes w64 (replicate 8 0) ≡ b.number = sym (ap (from_be_bytes w64) front) ∙ ap (λ (b : Ballot). b.number) again in
    let zero : from_be_bytes w64 (replicate 8 0) ≡ 0 = refl in
    omega (arith, number, zero, valid.some_number)
