-- Listings and sets: each listing is that of one set.
use Rattle.std.proofs.Common.{◌≡◌, ◌≢◌, ℕ, zero, suc, ◌<◌, ◌≤◌, ◌⊎◌, inl, inr, ⊎_elim, if◌then◌else◌, List, [], ◌∷◌, get_or, refl, sym, ap, ◌∙◌, subst, arith}
use Rattle.store_spec.proofs.Common.{All, All-cons, All-permutation, All-weaker, AllPairs, AllPairs-cons, AllPairs-from_IsDistinct, Ballot, Contains, Contains-permutation, Decides-eqb, Election, IsBallotSet, IsDistinct-IsPermutation, IsDistinct-from_AllPairs, IsListing, IsPermutation, IsPermutation-cons, IsPermutation-map, IsPermutation-middle, IsPermutation-refl, IsPermutation-sym, IsPermutation-trans, IsValid, cases_lt, cond-false, cond-true, le-leb, lt-leb, nat_eq, nat_le, nat_tests, numbers_of}
use Rattle.ballot_record.proofs.BallotNumbers.{pairs_of_numbers, pairs_of_ballots}
use Rattle.ballot_record.proofs.Lookups.{AreAmong}

-- in ascending order of number
abbrev pub Ascend : List Ballot → Type 0
Ascend ballots = AllPairs (λ a b. a.number < b.number) ballots

-- a set lists itself
pub listing_from_set : (e : Election) (ballots : List Ballot) → IsBallotSet e ballots → IsListing e ballots
listing_from_set e ballots set = record {
  valid = set.valid;
  distinct = λ i j d lt within. let less = set.ascending i j d lt within in λ same. omega arith;
}

-- ---- in another order

distinct-IsPermutation : (xs ys : List ℕ) → IsPermutation xs ys → AllPairs (λ a b. a ≢ b) xs → AllPairs (λ a b. a ≢ b) ys
distinct-IsPermutation xs ys p apart =
    AllPairs-from_IsDistinct Decides-eqb ys (IsDistinct-IsPermutation nat_eq (λ x y. grind (arith, nat_tests)) xs ys p (IsDistinct-from_AllPairs Decides-eqb xs apart))

pub listing-IsPermutation : (e : Election) (xs ys : List Ballot) → IsPermutation xs ys → IsListing e xs → IsListing e ys
listing-IsPermutation e xs ys p listing = record {
  valid = All-permutation (IsValid e) xs ys p listing.valid;
  distinct = pairs_of_ballots (λ a b. a ≢ b) ys
      (distinct-IsPermutation (numbers_of xs) (numbers_of ys) (IsPermutation-map (λ b. b.number) xs ys p) (pairs_of_numbers (λ a b. a ≢ b) xs listing.distinct));
}

-- what lists a set is a listing
pub listing_of_set : (e : Election) (listing set : List Ballot) → IsPermutation listing set → IsBallotSet e set → IsListing e listing
listing_of_set e listing set p is = listing-IsPermutation e set listing (IsPermutation-sym listing set p) (listing_from_set e set is)

-- ---- lists in order with the same members

-- what is in a list after its first ballot is greater
greater_behind : (x b : Ballot) (xs : List Ballot) → Ascend (x ∷ xs) → Contains xs b → x.number < b.number
greater_behind x b xs up c =
    let less = up 0 (suc c.0) b (omega arith) (omega (arith, c.1)) in
    let at : (get_or xs c.0 b).number ≡ b.number = ap (λ (b : Ballot). b.number) c.2 in
    omega arith

first_or_behind : (x b : Ballot) (xs : List Ballot) → Contains (x ∷ xs) b → (x ≡ b) ⊎ Contains xs b
first_or_behind x b xs (zero, lt, e) = inl e
first_or_behind x b xs (suc i, lt, e) = inr (i, omega arith, e)

behind_more : (x b : Ballot) (xs : List Ballot) → Contains xs b → Contains (x ∷ xs) b
behind_more x b xs c = (suc c.0, omega (arith, c.1), c.2)

first_in : (x : Ballot) (xs : List Ballot) → Contains (x ∷ xs) x
first_in x xs = (0, omega arith, refl)

ascend_behind : (x : Ballot) (xs : List Ballot) → Ascend (x ∷ xs) → Ascend xs
ascend_behind x xs up = λ i j d less within. up (suc i) (suc j) d (omega arith) (omega arith)

same_first : (x y : Ballot) (xs ys : List Ballot) → Ascend (x ∷ xs) → Ascend (y ∷ ys) → Contains (y ∷ ys) x → Contains (x ∷ xs) y → x ≡ y
same_first x y xs ys up_x up_y x_in y_in = ⊎_elim
    (λ (e : y ≡ x). sym e)
    (λ behind_y. ⊎_elim
    (λ (e : x ≡ y). e)
    (λ behind_x.
    let one = greater_behind y x ys up_y behind_y in
    let other = greater_behind x y xs up_x behind_x in
    absurd (omega arith))
    (first_or_behind x y xs y_in))
    (first_or_behind y x ys x_in)

rest_in : (x y : Ballot) (xs ys : List Ballot) → x ≡ y → Ascend (x ∷ xs) → ((b : Ballot) → Contains (x ∷ xs) b → Contains (y ∷ ys) b) → (b : Ballot) → Contains xs b → Contains ys b
rest_in x y xs ys same up all b c = ⊎_elim
    (λ (e : y ≡ b).
    let less = greater_behind x b xs up c in
    let equal : x.number ≡ b.number = ap (λ (b : Ballot). b.number) (same ∙ e) in
    absurd (omega arith))
    (λ behind. behind)
    (first_or_behind y b ys (all b (behind_more x b xs c)))

pub same_members : (xs ys : List Ballot) → Ascend xs → Ascend ys → AreAmong xs ys → AreAmong ys xs → xs ≡ ys
same_members [] [] up_x up_y there back = refl
same_members [] (y ∷ ys) up_x up_y there back = let c = back y (first_in y ys) in absurd (omega (arith, c.1))
same_members (x ∷ xs) [] up_x up_y there back = let c = there x (first_in x xs) in absurd (omega (arith, c.1))
same_members (x ∷ xs) (y ∷ ys) up_x up_y there back =
    let first = same_first x y xs ys up_x up_y (there x (first_in x xs)) (back y (first_in y ys)) in
    let rest = same_members xs ys (ascend_behind x xs up_x) (ascend_behind y ys up_y) (rest_in x y xs ys first up_x there) (rest_in y x ys xs (sym first) up_y back) in
    ap (λ b. b ∷ xs) first ∙ ap (λ bs. y ∷ bs) rest

-- in ascending order a list is determined by what it is an order of
pub same_in_order : (xs ys : List Ballot) → Ascend xs → Ascend ys → IsPermutation xs ys → xs ≡ ys
same_in_order xs ys up_x up_y p =
    same_members xs ys up_x up_y (λ b. Contains-permutation xs ys b p) (λ b. Contains-permutation ys xs b (IsPermutation-sym xs ys p))

-- ---- the set of a listing

put_in : Ballot → List Ballot → List Ballot
put_in b [] = b ∷ []
put_in b (x ∷ xs) = if nat_le b.number x.number then b ∷ x ∷ xs else x ∷ put_in b xs

pub in_order : List Ballot → List Ballot
in_order [] = []
in_order (b ∷ ballots) = put_in b (in_order ballots)

put_first : (b x : Ballot) (xs : List Ballot) → b.number ≤ x.number → put_in b (x ∷ xs) ≡ b ∷ x ∷ xs
unfolding put_in
put_first b x xs le = cond-true _ _ _ (le-leb b.number x.number le)

put_later : (b x : Ballot) (xs : List Ballot) → x.number < b.number → put_in b (x ∷ xs) ≡ x ∷ put_in b xs
unfolding put_in
put_later b x xs lt = cond-false _ _ _ (lt-leb b.number x.number lt)

put_in-IsPermutation : (b : Ballot) (xs : List Ballot) → IsPermutation (b ∷ xs) (put_in b xs)
unfolding put_in
put_in-IsPermutation b [] = IsPermutation-refl (b ∷ [])
put_in-IsPermutation b (x ∷ xs) =
    let whole = b ∷ x ∷ xs in
    elim (cases_lt x.number b.number) [
      | inl later ↦
          subst (λ (ys : List Ballot). IsPermutation whole ys) (sym (put_later b x xs later))
          (IsPermutation-trans whole (x ∷ b ∷ xs) (x ∷ put_in b xs) (IsPermutation-middle (b ∷ []) x xs) (IsPermutation-cons x (b ∷ xs) (put_in b xs) (put_in-IsPermutation b xs)))
      | inr first ↦ subst (λ (ys : List Ballot). IsPermutation whole ys) (sym (put_first b x xs first)) (IsPermutation-refl whole)
    ]

pub in_order-IsPermutation : (ballots : List Ballot) → IsPermutation ballots (in_order ballots)
unfolding in_order
in_order-IsPermutation [] = IsPermutation-refl []
in_order-IsPermutation (b ∷ ballots) =
    IsPermutation-trans (b ∷ ballots) (b ∷ in_order ballots) (put_in b (in_order ballots))
    (IsPermutation-cons b ballots (in_order ballots) (in_order-IsPermutation ballots)) (put_in-IsPermutation b (in_order ballots))

-- each ballot of a list has another number than this one
abbrev IsNew : Ballot → List Ballot → Type 0
IsNew b xs = All (λ x. b.number ≢ x.number) xs

all_above : (x : Ballot) (xs : List Ballot) → Ascend (x ∷ xs) → All (λ y. x.number < y.number) xs
all_above x xs up = λ k d within. up 0 (suc k) d (omega arith) (omega arith)

put_in-ascends : (b : Ballot) (xs : List Ballot) → Ascend xs → IsNew b xs → Ascend (put_in b xs)
unfolding put_in
put_in-ascends b [] up new = λ i j d less within. absurd (omega arith)
put_in-ascends b (x ∷ xs) up new =
    let apart = new 0 b (omega arith) in
    elim (cases_lt x.number b.number) [
      | inl later ↦
          let rest = put_in-ascends b xs (ascend_behind x xs up) (λ k d within. new (suc k) d (omega arith)) in
          let above : All (λ y. x.number < y.number) (put_in b xs) =
          All-permutation (λ y. x.number < y.number) (b ∷ xs) (put_in b xs) (put_in-IsPermutation b xs) (All-cons (λ y. x.number < y.number) b xs later (all_above x xs up)) in
          subst Ascend (sym (put_later b x xs later)) (AllPairs-cons (λ a b. a.number < b.number) x (put_in b xs) above rest)
      | inr first ↦
          subst Ascend (sym (put_first b x xs first))
          (AllPairs-cons (λ a b. a.number < b.number) b (x ∷ xs) (All-cons (λ y. b.number < y.number) x xs (omega arith) (All-weaker (λ y. x.number < y.number) (λ y. b.number < y.number) (λ y more. omega arith) xs (all_above x xs up))) up)
    ]

in_order-ascends : (ballots : List Ballot) → AllPairs (λ a b. a.number ≢ b.number) ballots → Ascend (in_order ballots)
unfolding in_order
in_order-ascends [] apart = λ i j d less within. absurd (omega arith)
in_order-ascends (b ∷ ballots) apart =
    let new : IsNew b ballots = λ k d within. apart 0 (suc k) d (omega arith) (omega arith) in
    put_in-ascends b (in_order ballots)
    (in_order-ascends ballots (λ i j d less within. apart (suc i) (suc j) d (omega arith) (omega arith)))
    (All-permutation (λ x. b.number ≢ x.number) ballots (in_order ballots) (in_order-IsPermutation ballots) new)

pub set_of_listing : (e : Election) (ballots : List Ballot) → IsListing e ballots → IsBallotSet e (in_order ballots)
set_of_listing e ballots listing = record {
  valid = All-permutation (IsValid e) ballots (in_order ballots) (in_order-IsPermutation ballots) listing.valid;
  ascending = in_order-ascends ballots listing.distinct;
}

-- listings with the same members are orders of one another
pub members-IsPermutation : (e : Election) (xs ys : List Ballot) → IsListing e xs → IsListing e ys → AreAmong xs ys → AreAmong ys xs → IsPermutation xs ys
members-IsPermutation e xs ys first second there back =
    let p = in_order-IsPermutation xs in
    let q = in_order-IsPermutation ys in
    let across : (us vs : List Ballot) → AreAmong us vs → AreAmong (in_order us) (in_order vs) = λ us vs among b c.
    Contains-permutation vs (in_order vs) b (in_order-IsPermutation vs)
    (among b (Contains-permutation (in_order us) us b (IsPermutation-sym us (in_order us) (in_order-IsPermutation us)) c)) in
    let same : in_order xs ≡ in_order ys =
    same_members (in_order xs) (in_order ys) (set_of_listing e xs first).ascending (set_of_listing e ys second).ascending (across xs ys there) (across ys xs back) in
    IsPermutation-trans xs (in_order xs) ys p
    (subst (λ (set : List Ballot). IsPermutation set ys) (sym same) (IsPermutation-sym ys (in_order ys) q))
