-- A casting phase that answers its ballots one after another: what is right so far stays right.
use Rattle.std.proofs.Common.{◌≡◌, ◌≢◌, ℕ, ◌≤◌, ◌⊎◌, inl, inr, List, [], ◌++◌, length, sym, ap, subst, ◌∙◌, append-nil, arith, length-append, None}
use Rattle.store_spec.proofs.Common.{Accepted, Ballot, CastReply, Conflict, Contains, Contains-append_left, Contains-permutation, Duplicate, Election, Full, HasNumber, IsPermutation, IsPermutation-sym, IsRightReply, ballot_of, cases_eq, length_permutation, nil_from_length}
use Rattle.std.specs.List.{Any}
use Rattle.ballot_record.proofs.CellCases.{same_or_not}
use Rattle.ballot_record.proofs.Lookups.{found_in, missing_from, option_cases}

-- ---- of what stands in a list

-- where some ballot has a property, there is one that has it
pub any_contained : (P : Ballot → Type 0) (xs : List Ballot) → Any P xs → (b : Ballot) × Contains xs b × P b
any_contained P xs (k, b, within, is, holds) = (b, (k, within, is), holds)

-- and back
pub contained_any : (P : Ballot → Type 0) (xs : List Ballot) (b : Ballot) → Contains xs b → P b → Any P xs
contained_any P xs b at holds = (at.0, b, at.1, at.2, holds)

-- what one list contains and another does too, keeps what is said of one of them
pub any_among : (P : Ballot → Type 0) (xs ys : List Ballot) → ((b : Ballot) → Contains xs b → Contains ys b) → Any P xs → Any P ys
any_among P xs ys among any = let one = any_contained P xs any in contained_any P ys one.0 (among one.0 one.1) one.2

-- no ballot is found, so none has the number
pub no_number_in : (ballots : List Ballot) (number : ℕ) → ballot_of ballots number ≡ None → ¬ HasNumber ballots number
no_number_in ballots number none any = let one = any_contained (λ (b : Ballot). b.number ≡ number) ballots any in missing_from ballots number none one.0 one.1 one.2

-- a number stands in a list of ballots, or in none of them
pub number_or_not : (ballots : List Ballot) (number : ℕ) → ((b : Ballot) × Contains ballots b × (b.number ≡ number)) ⊎ (HasNumber ballots number → ⊥)
number_or_not ballots number =
    elim (option_cases (ballot_of ballots number)) [
      | inl none ↦ inr (no_number_in ballots number none)
      | inr some ↦ let found = found_in ballots number some.0 some.1 in inl (some.0, found.0, found.1)
    ]

-- ballots with the same parts are the same
same_ballot : (a b : Ballot) → a.number ≡ b.number → a.style ≡ b.style → a.marks ≡ b.marks → a ≡ b
same_ballot a b number style marks =
    ap (λ number. record { number = number; style = a.style; marks = a.marks }) number
    ∙ ap (λ style. record { number = b.number; style = style; marks = a.marks }) style
    ∙ ap (λ marks. record { number = b.number; style = b.style; marks = marks }) marks

-- ballots of one number are the same, or differ
pub same_ballot_or_not : (a b : Ballot) → a.number ≡ b.number → (a ≡ b) ⊎ (a ≢ b)
same_ballot_or_not a b number =
    elim (cases_eq a.style b.style) [
      | inr other ↦ inr (λ same. other (ap (λ (b : Ballot). b.style) same))
      | inl style ↦ elim (same_or_not a.marks b.marks) [
        | inr other ↦ inr (λ same. other (ap (λ (b : Ballot). b.marks) same))
        | inl marks ↦ inl (same_ballot a b number style marks)
      ]
    ]

-- ---- what is right so far

-- where the set grows within the limit, a reply stays right
pub stays_right : (e : Election) (base now more : List Ballot) (b : Ballot) (reply : CastReply) → length (now ++ more) ≤ e.limit → IsRightReply e base now b reply → IsRightReply e base (now ++ more) b reply
stays_right e base now more b Accepted few right = (right.0, Contains-append_left now more b right.1)
stays_right e base now more b Duplicate few right = Contains-append_left now more b right
stays_right e base now more b Conflict few right = any_among _ now (now ++ more) (λ b. Contains-append_left now more b) right
stays_right e base now more b Full few right =
    let nothing : more ≡ [] = nil_from_length more (omega (arith, length-append now more, right.1)) in
    subst (λ (set : List Ballot). IsRightReply e base set b Full) (sym (ap (λ more. now ++ more) nothing ∙ append-nil now)) right

-- so it does where the set is put in another order
pub right_in_order : (e : Election) (base now after : List Ballot) (b : Ballot) (reply : CastReply) → IsPermutation now after → IsRightReply e base now b reply → IsRightReply e base after b reply
right_in_order e base now after b Accepted same right = (right.0, Contains-permutation now after b same right.1)
right_in_order e base now after b Duplicate same right = Contains-permutation now after b same right
right_in_order e base now after b Conflict same right = any_among _ now after (λ b. Contains-permutation now after b same) right
right_in_order e base now after b Full same right = (
  λ has. right.0 (any_among _ after now (λ b. Contains-permutation after now b (IsPermutation-sym now after same)) has),
  length_permutation now after same ∙ right.1,
)
