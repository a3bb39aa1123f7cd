-- What the parts of a line say of it, under an election.
use Rattle.std.proofs.Common.{◌≡◌, ◌≢◌, ℕ, List, length, Option, Some, None, refl, sym, ap, subst, ◌∙◌}
use Rattle.store_spec.proofs.Common.{Ballot, Election, IsLineOf, IsRecordLine, IsValid, ReadsAs, RecordLine, Spells, ballot_of_line, none-some, option_map, some_pair_parts}
use Rattle.ballot_record.specs.LineReading.{parsed_line}
use Rattle.ballot_record.proofs.LineLaws.{one_reading}
use Rattle.ballot_record.proofs.LineWhole.{line_takes, line_again}
use Rattle.ballot_record.specs.Line.{line_seen}

pub not_a_line : (e : Election) (bytes : List ℕ) → None ≡ option_map line_seen (parsed_line e bytes) → ¬ IsRecordLine e bytes
not_a_line e bytes none is = none-some (line_seen is.0) (none ∙ ap (option_map line_seen) (line_again e bytes is.0 is.1))

-- the line behind a record that was read
pub record IsLineRead (e : Election) (bytes : List ℕ) (b : Ballot) (count : ℕ) : Type 0 where
  pub line : RecordLine
  pub reads : ReadsAs e bytes line
  pub is : b ≡ ballot_of_line line
  pub counted : count ≡ length line.groups

read_from : (e : Election) (bytes : List ℕ) (b : Ballot) (count : ℕ) (o : Option RecordLine) → parsed_line e bytes ≡ o → Some (b, count) ≡ option_map line_seen o → IsLineRead e bytes b count
read_from e bytes b count None found same = absurd (none-some (b, count) (sym same))
read_from e bytes b count (Some line) found same =
    let parts = some_pair_parts b (ballot_of_line line) count (length line.groups) same in
    record { line = line; reads = line_takes e bytes line found; is = parts.0; counted = parts.1 }

pub line_read : (e : Election) (bytes : List ℕ) (b : Ballot) (count : ℕ) → Some (b, count) ≡ option_map line_seen (parsed_line e bytes) → IsLineRead e bytes b count
line_read e bytes b count same = read_from e bytes b count (parsed_line e bytes) refl same

pub spells : (e : Election) (bytes : List ℕ) (b : Ballot) (count : ℕ) → IsLineRead e bytes b count → count ≡ length e.contests → IsValid e b → Spells e bytes b
spells e bytes b count read all valid = record { line = read.line; reads = read.reads; a_group_each = sym read.counted ∙ all; is = read.is; valid = valid }

pub other_groups : (e : Election) (bytes : List ℕ) (b : Ballot) (count : ℕ) → IsLineRead e bytes b count → count ≢ length e.contests → ¬ IsLineOf e bytes
other_groups e bytes b count read differs is =
    let spelled = is.1 in
    differs (read.counted ∙ ap (λ (line : RecordLine). length line.groups) (one_reading e bytes read.line spelled.line read.reads spelled.reads) ∙ spelled.a_group_each)

pub not_valid : (e : Election) (bytes : List ℕ) (b : Ballot) (count : ℕ) → IsLineRead e bytes b count → ¬ IsValid e b → ¬ IsLineOf e bytes
not_valid e bytes b count read invalid is =
    let x = is.0 in
    let spelled = is.1 in
    let same : x ≡ b = spelled.is ∙ ap ballot_of_line (one_reading e bytes spelled.line read.line spelled.reads read.reads) ∙ sym read.is in
    invalid (subst (IsValid e) same spelled.valid)
