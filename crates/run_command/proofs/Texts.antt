-- How far the text of an election has been read.
use Rattle.std.proofs.Common.{◌≡◌, ℕ, ◌+◌, ◌-◌, ◌<◌, ◌≤◌, List, [], ◌++◌, length, take, Option, refl, ap, sym, subst, ◌∙◌, arith, append_assoc, Result, Ok, Err}
use Rattle.store_spec.proofs.Common.{Election, IfErr, IfSome, IsErrAnd, append-nil, length-append, length-take, slice_range}
use Rattle.run_command.specs.ElectionText.{election_limit, IsElectionRead, IsNoElectionRead, IsWhole}
use Rattle.run_outcome.specs.declared.status.Status.{Status}
use Rattle.election_def.specs.Text.{Describes, IsElectionText}
use Rattle.outside_io.proofs.Told.{told_as, told_given, told_holds, told_on, told_still}
use Rattle.outside_io.specs.Stream.{Gives, GivesAtMost, GivesExactly}
use Rattle.outside_io.specs.Told.{IfTold}

-- this text of the source was read, and the rest is left
abbrev pub HasTaken : List ℕ → List ℕ → List ℕ → Type 0
HasTaken text whole left = whole ≡ text ++ left

pub told_start : {a : Option (List ℕ)} (text : List ℕ) → text ≡ [] → IfTold a a (HasTaken text)
told_start text none = told_still refl (λ x. ap (λ front. front ++ x) (sym none))

pub told_piece : {a b c : Option (List ℕ)} (text piece more : List ℕ) → IfTold a b (HasTaken text) → Gives b piece c → more ≡ text ++ piece → IfTold a c (HasTaken more)
told_piece text piece more told gives same = told_on told (told_given {R = λ y z. y ≡ piece ++ z} piece gives (λ y z is. is))
    (λ x y z was is. was ∙ ap (λ rest. text ++ rest) is ∙ sym (append_assoc text piece z) ∙ ap (λ front. front ++ z) (sym same))

-- the piece that was read stands at the front of the buffer
pub front_piece : (buffer : List ℕ) (count : ℕ) → slice_range buffer 0 (0 + count) ≡ take count buffer
front_piece buffer count = ap (λ n. take n buffer) (let same : 0 + count - 0 ≡ count = omega arith in same)

pub front_length : (buffer : List ℕ) (count : ℕ) → length (slice_range buffer 0 (0 + count)) ≤ count
front_length buffer count = omega (arith, ap length (front_piece buffer count), length-take count buffer)

-- the source has ended, and all of its text was read
pub told_end : {a b c : Option (List ℕ)} (text piece : List ℕ) → length text ≤ election_limit → IfTold a b (HasTaken text) → Gives b piece c → piece ≡ [] → IfSome b (λ rest. rest ≡ []) → IfTold a c (λ whole left. IsWhole whole left × (text ≡ whole))
told_end {b} text piece few told gives nothing ended =
    let end : IfTold b b (λ y z. (y ≡ []) × (z ≡ y)) = record { told = refl; related = λ y z was is. (told_holds (λ rest. rest ≡ []) y was ended, let same : z ≡ y = cc in same) } in
    told_on (told_on {Q = λ x y. HasTaken text x y × (y ≡ [])} told end (λ x y z taken none. (taken ∙ ap (λ rest. text ++ rest) (sym none.1), none.1 ∙ none.0))) (told_given {R = λ y z. y ≡ piece ++ z} piece gives (λ y z is. is)) (λ x y z taken is.
    let rest : z ≡ [] = sym (ap (λ front. front ++ z) nothing) ∙ sym is ∙ taken.1 in
    let all : x ≡ text = taken.0 ∙ ap (λ rest. text ++ rest) taken.1 ∙ append-nil text in
    ((subst (λ whole. length whole ≤ election_limit) (sym all) few, rest), sym all))

-- one byte more than the limit was read
pub told_long : {a b : Option (List ℕ)} (text : List ℕ) → election_limit < length text → length text ≤ election_limit + 1 → IfTold a b (HasTaken text) → IfTold a b (GivesExactly (election_limit + 1))
told_long text long few told = told_as told (λ x y is. omega (arith, ap length is, length-append text y))

-- no more was read than so much
pub told_few : {a b : Option (List ℕ)} (text : List ℕ) (most : ℕ) → length text ≤ most → IfTold a b (HasTaken text) → IfTold a b (GivesAtMost most)
told_few text most few told = told_as told (λ x y is. omega (arith, ap length is, length-append text y))

-- also with the piece behind it
pub told_few_more : {a b c : Option (List ℕ)} (text buffer : List ℕ) (count most : ℕ) → length text + count ≤ most → IfTold a b (HasTaken text) → Gives b (slice_range buffer 0 (0 + count)) c → IfTold a c (GivesAtMost most)
told_few_more text buffer count most few told gives =
    let piece = slice_range buffer 0 (0 + count) in
    told_few (text ++ piece) most (omega (arith, length-append text piece, front_length buffer count)) (told_piece text piece (text ++ piece) told gives refl)

-- nothing was read
pub told_none_given : {a : Option (List ℕ)} → IfTold a a (GivesAtMost (election_limit + 1))
told_none_given = told_still refl (λ x. omega arith)

-- the text that was read describes the election
pub told_election : {a b : Option (List ℕ)} (text : List ℕ) (e : Election) → IfTold a b (λ whole left. IsWhole whole left × (text ≡ whole)) → Describes text e → IfTold a b (IsElectionRead e)
told_election text e told describes = told_as told (λ x y read. (read.0, subst (λ t. Describes t e) read.1 describes))

-- it describes none
pub told_no_election : {a b : Option (List ℕ)} (text : List ℕ) → IfTold a b (λ whole left. IsWhole whole left × (text ≡ whole)) → ¬ IsElectionText text → IfTold a b IsNoElectionRead
told_no_election text told none = told_as told (λ x y read. (read.0, subst (λ t. ¬ IsElectionText t) read.1 none))

-- there was no memory once it was read
pub told_whole_few : {a b : Option (List ℕ)} (text : List ℕ) → IfTold a b (λ whole left. IsWhole whole left × (text ≡ whole)) → IfTold a b (GivesAtMost (election_limit + 1))
told_whole_few text told = told_as told (λ x y read. omega (arith, read.0.0))

-- what holds of the status of a cause holds of the one that is told
pub if_err : {A : Type 0} (r : Result A Status) (x : Status) (P : Status → Type 0) → IsErrAnd r (λ status. status ≡ x) → P x → IfErr r P
if_err (Ok a) x P is holds = tt
if_err (Err y) x P is holds = subst P (sym is) holds
