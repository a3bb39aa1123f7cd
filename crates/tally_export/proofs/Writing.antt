-- The lines of an export, of which a sink takes one part after another.
use Rattle.std.proofs.Common.{◌≡◌, ℕ, ◌+◌, ◌≤◌, ◌<◌, List, [], ◌∷◌, ◌++◌, drop, get_or, length, Option, refl, ap, subst, ◌∙◌, drop-cons, add-one}
use Rattle.store_spec.proofs.Common.{Ballot, Election, drop_all, flat_map-append, lines_text, map-append, record_line}
use Rattle.std.specs.Prelude.{map}
use Rattle.outside_io.proofs.Written.{IsWritten, more_gathered}
use Rattle.tally_export.specs.Exported.{records_text}

-- the lines of one list of ballots and then another
pub records_append : (e : Election) (xs ys : List Ballot) → records_text e (xs ++ ys) ≡ records_text e xs ++ records_text e ys
records_append e xs ys = ap lines_text (map-append (record_line e) xs ys)
    ∙ flat_map-append (λ line. line ++ 10 ∷ []) (map (record_line e) xs) (map (record_line e) ys)

next_line : (e : Election) (ballots : List Ballot) (i : ℕ) (b : Ballot) → i < length ballots → get_or ballots i b ≡ b
    → records_text e (drop i ballots) ≡ (record_line e b ++ 10 ∷ []) ++ records_text e (drop (i + 1) ballots)
next_line e ballots i b within is =
    let next : drop i ballots ≡ get_or ballots i b ∷ drop (i + 1) ballots = rw (add-one, drop-cons ballots i b) refl in
    ap (records_text e) next ∙ ap (λ b. records_text e (b ∷ drop (i + 1) ballots)) is

-- the line of the next ballot was gathered
pub ballot_gathered : (e : Election) (ballots : List Ballot) (i : ℕ) (b : Ballot) (before now : Option (List ℕ))
    (gathered more whole : List ℕ) → i < length ballots → get_or ballots i b ≡ b
    → IsWritten before now gathered (records_text e (drop i ballots)) whole
    → more ≡ gathered ++ (record_line e b ++ 10 ∷ [])
    → IsWritten before now more (records_text e (drop (i + 1) ballots)) whole
ballot_gathered e ballots i b before now gathered more whole within at written is =
    more_gathered before now gathered more (record_line e b ++ 10 ∷ []) (records_text e (drop (i + 1) ballots)) whole
    (subst (λ left. IsWritten before now gathered left whole) (next_line e ballots i b within at) written) is

-- past the last ballot no line is left
pub no_line_left : (e : Election) (ballots : List Ballot) (i : ℕ) → length ballots ≤ i
    → records_text e (drop i ballots) ≡ []
no_line_left e ballots i end = ap (records_text e) (drop_all i ballots end)
