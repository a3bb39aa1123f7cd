-- The ballot with a number, whichever way the ballots are listed.
use Rattle.std.proofs.Common.{◌≡◌, ◌≢◌, ℕ, zero, suc, ◌⊎◌, inl, inr, ⊎_elim, List, [], ◌∷◌, get_or, Option, Some, None, refl, sym, ap, ◌∙◌, arith}
use Rattle.store_spec.proofs.Common.{AllPairs, Ballot, Contains, ballot_of, cases_eq, cond-false, cond-true, eq-eqb, ne_eqb}

pub option_cases : {A : Type 0} (o : Option A) → (o ≡ None) ⊎ ((x : A) × (o ≡ Some x))
option_cases None = inl refl
option_cases (Some x) = inr (x, refl)

abbrev pub AreDistinct : List Ballot → Type 0
AreDistinct ballots = AllPairs (λ a b. a.number ≢ b.number) ballots

here : (b : Ballot) (ballots : List Ballot) (number : ℕ) → b.number ≡ number → ballot_of (b ∷ ballots) number ≡ Some b
here b ballots number e = cond-true _ _ _ (eq-eqb b.number number e)

further : (b : Ballot) (ballots : List Ballot) (number : ℕ) → b.number ≢ number → ballot_of (b ∷ ballots) number ≡ ballot_of ballots number
further b ballots number n = cond-false _ _ _ (ne_eqb b.number number n)

same_some : (x y : Ballot) → Some x ≡ Some y → x ≡ y
same_some x y e = cc

some_none : {G : Type 0} (x : Ballot) → Some x ≡ None → G
some_none x e = absurd cc

contains_more : (b x : Ballot) (ballots : List Ballot) → Contains ballots x → Contains (b ∷ ballots) x
contains_more b x ballots c = (suc c.0, omega (arith, c.1), c.2)

-- what is found is one of the ballots and has the number
pub found_in : (ballots : List Ballot) (number : ℕ) (b : Ballot) → ballot_of ballots number ≡ Some b → Contains ballots b × (b.number ≡ number)
found_in [] number b e = some_none b (sym e)
found_in (x ∷ ballots) number b e = ⊎_elim
    (λ (same : x.number ≡ number).
    let is : x ≡ b = same_some x b (sym (here x ballots number same) ∙ e) in
    ((0, omega arith, is), sym (ap (λ (b : Ballot). b.number) is) ∙ same))
    (λ (other : x.number ≢ number).
    let rest = found_in ballots number b (sym (further x ballots number other) ∙ e) in
    (contains_more x b ballots rest.0, rest.1))
    (cases_eq x.number number)

-- where none is found, no ballot has the number
pub missing_from : (ballots : List Ballot) (number : ℕ) → ballot_of ballots number ≡ None → (b : Ballot) → Contains ballots b → b.number ≢ number
missing_from [] number e b c = absurd (omega (arith, c.1))
missing_from (x ∷ ballots) number e b (zero, lt, is) = λ same. some_none x (sym (here x ballots number (ap (λ (b : Ballot). b.number) is ∙ same)) ∙ e)
missing_from (x ∷ ballots) number e b (suc i, lt, is) = ⊎_elim
    (λ (same : x.number ≡ number). some_none x (sym (here x ballots number same) ∙ e))
    (λ (other : x.number ≢ number). missing_from ballots number (sym (further x ballots number other) ∙ e) b (i, omega arith, is))
    (cases_eq x.number number)

-- of distinct ballots the one with the number is found
pub found_once : (ballots : List Ballot) (number : ℕ) (b : Ballot) → AreDistinct ballots → Contains ballots b → b.number ≡ number → ballot_of ballots number ≡ Some b
found_once [] number b distinct c e = absurd (omega (arith, c.1))
found_once (x ∷ ballots) number b distinct (zero, lt, is) e = here x ballots number (ap (λ (b : Ballot). b.number) is ∙ e) ∙ ap Some is
found_once (x ∷ ballots) number b distinct (suc i, lt, is) e =
    let apart = distinct 0 (suc i) b (omega arith) lt in
    let numbers : (get_or ballots i b).number ≡ number = ap (λ (b : Ballot). b.number) is ∙ e in
    further x ballots number (λ same. apart (same ∙ sym numbers))
    ∙ found_once ballots number b (λ j k d less within. distinct (suc j) (suc k) d (omega arith) (omega arith)) (i, omega arith, is) e

-- each ballot of one list is in the other
abbrev pub AreAmong : List Ballot → List Ballot → Type 0
AreAmong xs ys = (b : Ballot) → Contains xs b → Contains ys b

-- the order does not matter
pub ballot_of-same : (xs ys : List Ballot) (number : ℕ) → AreDistinct xs → AreAmong xs ys → AreAmong ys xs → ballot_of xs number ≡ ballot_of ys number
ballot_of-same xs ys number distinct there back = ⊎_elim
    (λ (none : ballot_of ys number ≡ None). ⊎_elim
    (λ (also : ballot_of xs number ≡ None). also ∙ sym none)
    (λ some.
    let found = found_in xs number some.0 some.1 in
    absurd (missing_from ys number none some.0 (there some.0 found.0) found.1))
    (option_cases (ballot_of xs number)))
    (λ some.
    let found = found_in ys number some.0 some.1 in
    found_once xs number some.0 distinct (back some.0 found.0) found.1 ∙ sym some.1)
    (option_cases (ballot_of ys number))
