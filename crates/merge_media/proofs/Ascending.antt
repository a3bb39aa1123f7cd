-- A ballot is put in its place among others in ascending order.
use Rattle.std.proofs.Common.{ℕ, suc, ◌<◌, List, [], ◌∷◌, ◌++◌, arith}
use Rattle.store_spec.proofs.Common.{All, All-append, All-contains, All-contains_itself, All-head, All-push, All-tail, All-weaker, AllPairs-cons, Ballot, Contains, Contains-append_left, Contains-append_right}
use Rattle.ballot_record.proofs.BallotSets.{Ascend}

-- all numbers are below this one, or above it
abbrev pub AreBelow : ℕ → List Ballot → Type 0
AreBelow number ballots = All (λ b. b.number < number) ballots

abbrev pub AreAbove : ℕ → List Ballot → Type 0
AreAbove number ballots = All (λ b. number < b.number) ballots

pub first_below : (x : Ballot) (xs : List Ballot) → Ascend (x ∷ xs) → AreAbove x.number xs
first_below x xs up k d lt = up 0 (suc k) d (omega arith) (omega arith)

pub ascend_rest : (x : Ballot) (xs : List Ballot) → Ascend (x ∷ xs) → Ascend xs
ascend_rest x xs up i j d less within = up (suc i) (suc j) d (omega arith) (omega arith)

pub ascend_cons : (x : Ballot) (xs : List Ballot) → AreAbove x.number xs → Ascend xs → Ascend (x ∷ xs)
ascend_cons x xs above up = AllPairs-cons (λ (a b : Ballot). a.number < b.number) x xs above up

-- what stands behind is ascending, and so is what stands before
pub ascend_right : (xs ys : List Ballot) → Ascend (xs ++ ys) → Ascend ys
ascend_right [] ys up = up
ascend_right (x ∷ xs) ys up = ascend_right xs ys (ascend_rest x (xs ++ ys) up)

-- what holds of all of a list holds of its parts
all_left : (P : Ballot → Type 0) (xs ys : List Ballot) → All P (xs ++ ys) → All P xs
all_left P xs ys all = All-weaker (Contains xs) P (λ b c. All-contains P (xs ++ ys) b all (Contains-append_left xs ys b c)) xs (All-contains_itself xs)

all_right : (P : Ballot → Type 0) (xs ys : List Ballot) → All P (xs ++ ys) → All P ys
all_right P xs ys all = All-weaker (Contains ys) P (λ b c. All-contains P (xs ++ ys) b all (Contains-append_right xs ys b c)) ys (All-contains_itself ys)

pub ascend_insert : (s : Ballot) (xs ys : List Ballot) → Ascend (xs ++ ys) → AreBelow s.number xs → AreAbove s.number ys
    → Ascend ((xs ++ s ∷ []) ++ ys)
ascend_insert s [] ys up below above = ascend_cons s ys above up
ascend_insert s (x ∷ xs) ys up below above =
    let P : Ballot → Type 0 = λ b. x.number < b.number in
    let higher = first_below x (xs ++ ys) up in
    ascend_cons x ((xs ++ s ∷ []) ++ ys)
    (All-append P (xs ++ s ∷ []) ys
    (All-push P xs s (all_left P xs ys higher) (All-head (λ b. b.number < s.number) x xs below)) (all_right P xs ys higher))
    (ascend_insert s xs ys (ascend_rest x (xs ++ ys) up) (All-tail (λ b. b.number < s.number) x xs below) above)
