-- Records in ascending order of number, and the numbers of their ballots.
use Rattle.std.proofs.Common.{◌≡◌, ℕ, ◌<◌, ◌≤◌, ⊎_elim, List, [], length, get_or, ap, ◌∙◌, arith}
use Rattle.store_spec.proofs.Common.{Ballot, IsNonDecreasingBy, cases_lt, get_or-map, length-map, numbers_of}
use Rattle.ballot_record.proofs.BallotNumbers.{length-numbers_of}
use Rattle.ballot_record.proofs.BallotSets.{Ascend}
use Rattle.ballot_record.specs.Record.{ballot}
use Rattle.ballot_record.specs.declared.record.Record.{Record}
use Rattle.body_store.specs.Contents.{ballots_of}

-- the record of no ballot
abbrev pub no_record : Record
no_record = record { number = 0; style = 0; marks = [] }

pub as_many : (records : List Record) → length (numbers_of (ballots_of records)) ≡ length records
as_many records = length-numbers_of (ballots_of records) ∙ length-map records ballot

pub ballot_there : (records : List Record) (i : ℕ) (d : Ballot) → i < length records → get_or (ballots_of records) i d ≡ ballot (get_or records i no_record)
ballot_there records i d within = get_or-map ballot records i no_record d within

pub number_there : (records : List Record) (i : ℕ) → i < length records → get_or (numbers_of (ballots_of records)) i 0 ≡ (get_or records i no_record).number
number_there records i within =
    get_or-map (λ (b : Ballot). b.number) (ballots_of records) i (ballot no_record) 0 (omega (arith, within, length-map records ballot))
    ∙ ap (λ (b : Ballot). b.number) (ballot_there records i (ballot no_record) within)

pub rising : (records : List Record) → Ascend (ballots_of records) → IsNonDecreasingBy (λ one. one.number) records
rising records up i j d le within = ⊎_elim
    (λ (less : i < j).
    let more = up i j (ballot d) less (omega (arith, within, length-map records ballot)) in
    let at_i : (get_or (ballots_of records) i (ballot d)).number ≡ (get_or records i d).number = ap (λ (b : Ballot). b.number) (get_or-map ballot records i d (ballot d) (omega arith)) in
    let at_j : (get_or (ballots_of records) j (ballot d)).number ≡ (get_or records j d).number = ap (λ (b : Ballot). b.number) (get_or-map ballot records j d (ballot d) within) in
    omega (arith, more, at_i, at_j))
    (λ (not_less : j ≤ i).
    let same : i ≡ j = omega arith in
    let equal : (get_or records i d).number ≡ (get_or records j d).number = ap (λ n. (get_or records n d).number) same in
    omega (arith, equal))
    (cases_lt i j)
