-- The numbers of a list of ballots.
use Rattle.std.proofs.Common.{◌≡◌, ℕ, ◌<◌, List, [], length, get_or, sym, ap, subst, ◌∙◌, arith}
use Rattle.store_spec.proofs.Common.{AllPairs, Ballot, Contains, Contains-get_or, get_or-map, get_or_default, length-map, numbers_of}

-- what stands past the end of a list
abbrev pub no_ballot : Ballot
no_ballot = record { number = 0; style = 0; marks = [] }

pub number_at : (ballots : List Ballot) (k d : ℕ) → k < length ballots → get_or (numbers_of ballots) k d ≡ (get_or ballots k no_ballot).number
number_at ballots k d lt = get_or-map (λ b. b.number) ballots k no_ballot d lt

pub length-numbers_of : (ballots : List Ballot) → length (numbers_of ballots) ≡ length ballots
length-numbers_of ballots = length-map ballots (λ b. b.number)

-- a relation of the numbers is one of the ballots
pub pairs_of_numbers : (R : ℕ → ℕ → Type 0) (ballots : List Ballot) → AllPairs (λ a b. R a.number b.number) ballots → AllPairs R (numbers_of ballots)
pairs_of_numbers R ballots h i j d lt in_range =
    let size = length-numbers_of ballots in
    let within : j < length ballots = omega arith in
    subst (λ (n : ℕ). R n (get_or (numbers_of ballots) j d)) (sym (number_at ballots i d (omega arith)))
    (subst (λ (n : ℕ). R (get_or ballots i no_ballot).number n) (sym (number_at ballots j d within)) (h i j no_ballot lt within))

pub pairs_of_ballots : (R : ℕ → ℕ → Type 0) (ballots : List Ballot) → AllPairs R (numbers_of ballots) → AllPairs (λ a b. R a.number b.number) ballots
pairs_of_ballots R ballots h i j d lt in_range =
    let size = length-numbers_of ballots in
    let left : get_or (numbers_of ballots) i 0 ≡ (get_or ballots i d).number = get_or-map (λ b. b.number) ballots i d 0 (omega arith) in
    let right : get_or (numbers_of ballots) j 0 ≡ (get_or ballots j d).number = get_or-map (λ b. b.number) ballots j d 0 in_range in
    subst (λ (n : ℕ). R n (get_or ballots j d).number) left
    (subst (λ (n : ℕ). R (get_or (numbers_of ballots) i 0) n) right (h i j 0 lt (omega arith)))

-- the ballot with a number, and the number of a ballot
pub ballot_with : (ballots : List Ballot) (v : ℕ) → Contains (numbers_of ballots) v → (b : Ballot) × Contains ballots b × (b.number ≡ v)
ballot_with ballots v c =
    let within : c.0 < length ballots = omega (arith, c.1, length-numbers_of ballots) in
    (get_or ballots c.0 no_ballot, Contains-get_or ballots c.0 no_ballot within, sym (number_at ballots c.0 v within) ∙ c.2)

pub contains_number : (ballots : List Ballot) (b : Ballot) (v : ℕ) → Contains ballots b → b.number ≡ v → Contains (numbers_of ballots) v
contains_number ballots b v c is =
    let size = length-numbers_of ballots in
    let there : (get_or ballots c.0 no_ballot).number ≡ v = ap (λ (x : Ballot). x.number) (get_or_default ballots c.0 no_ballot b c.1 ∙ c.2) ∙ is in
    (c.0, omega (arith, c.1), number_at ballots c.0 v c.1 ∙ there)
