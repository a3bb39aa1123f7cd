-- The shares of a set, and the sets of parts joined.
use Rattle.std.proofs.Common.{◌≡◌, ◌≢◌, ◌+◌, ◌/◌, ◌^◌, ◌<◌, ◌≤◌, ℕ, zero, suc, List, [], ◌∷◌, ◌++◌, length, get_or, refl, sym, ap, subst, ◌∙◌, ⊎_elim, arith}
use Rattle.store_spec.proofs.Common.{All, All-append, All-head, All-nil, All-tail, AllPairs, Ballot, Election, IsBallotSet, IsValid, append-nil, cases_lt, cond-false, cond-true, eq-eqb, filter-append, flat_map, flat_map-map, ne_eqb, of_part, part_of, range_with_len, share}
use Rattle.std.specs.Prelude.{◌==◌}
use Rattle.partition_store.specs.Parted.{AreBits, AreParts, BelongsTo, joined, shares}

-- ---- numbers

-- each number has a part
pub each_in_part : (bits number : ℕ) → AreBits bits → number < 2 ^ 64 → part_of bits number < 2 ^ bits
each_in_part zero number are lt = absurd (omega (arith, are.some))
each_in_part (suc zero) number are lt = let short : number < 18446744073709551616 = lt in let here : number / 9223372036854775808 < 2 = omega (arith, short) in here
each_in_part (suc (suc zero)) number are lt = let short : number < 18446744073709551616 = lt in let here : number / 4611686018427387904 < 4 = omega (arith, short) in here
each_in_part (suc (suc (suc zero))) number are lt = let short : number < 18446744073709551616 = lt in let here : number / 2305843009213693952 < 8 = omega (arith, short) in here
each_in_part (suc (suc (suc (suc n)))) number are lt = absurd (omega (arith, are.few))

-- greater numbers have no lower parts
pub parts_rise : (bits x y : ℕ) → AreBits bits → x ≤ y → part_of bits x ≤ part_of bits y
parts_rise zero x y are le = absurd (omega (arith, are.some))
parts_rise (suc zero) x y are le = let here : x / 9223372036854775808 ≤ y / 9223372036854775808 = omega (arith, le) in here
parts_rise (suc (suc zero)) x y are le = let here : x / 4611686018427387904 ≤ y / 4611686018427387904 = omega (arith, le) in here
parts_rise (suc (suc (suc zero))) x y are le = let here : x / 2305843009213693952 ≤ y / 2305843009213693952 = omega (arith, le) in here
parts_rise (suc (suc (suc (suc n)))) x y are le = absurd (omega (arith, are.few))

-- ---- what belongs to a part

module _ {X : Type 0} (number : X → ℕ) (bits part : ℕ) where
  hit : (x : X) (xs : List X) → part_of bits (number x) ≡ part → of_part number bits part (x ∷ xs) ≡ x ∷ of_part number bits part xs
  hit x xs is = cond-true (part_of bits (number x) == part) (x ∷ of_part number bits part xs) (of_part number bits part xs) (eq-eqb (part_of bits (number x)) part is)

  miss : (x : X) (xs : List X) → part_of bits (number x) ≢ part → of_part number bits part (x ∷ xs) ≡ of_part number bits part xs
  miss x xs not = cond-false (part_of bits (number x) == part) (x ∷ of_part number bits part xs) (of_part number bits part xs) (ne_eqb (part_of bits (number x)) part not)

  pub all_own : (xs : List X) → All (λ x. part_of bits (number x) ≡ part) xs → of_part number bits part xs ≡ xs
  all_own [] own = refl
  all_own (x ∷ xs) own = hit x xs (All-head (λ x. part_of bits (number x) ≡ part) x xs own) ∙ ap (λ ys. x ∷ ys) (all_own xs (All-tail (λ x. part_of bits (number x) ≡ part) x xs own))

  pub none_own : (xs : List X) → All (λ x. part_of bits (number x) ≢ part) xs → of_part number bits part xs ≡ []
  none_own [] other = refl
  none_own (x ∷ xs) other = miss x xs (All-head (λ x. part_of bits (number x) ≢ part) x xs other) ∙ none_own xs (All-tail (λ x. part_of bits (number x) ≢ part) x xs other)

-- ---- the shares of a set joined

module _ (bits : ℕ) where
  abbrev place : Ballot → ℕ
  place b = part_of bits b.number

  abbrev from : ℕ → ℕ → List Ballot → List Ballot
  from a n xs = flat_map (λ part. share bits part xs) (range_with_len a n)

  behind : (a n : ℕ) (x : Ballot) (xs : List Ballot) → place x < a → from a n (x ∷ xs) ≡ from a n xs
  behind a zero x xs lt = refl
  behind a (suc n) x xs lt =
      ap (λ ys. ys ++ from (a + 1) n (x ∷ xs)) (miss (λ (b : Ballot). b.number) bits a x xs (λ is. omega (arith, is, lt)))
      ∙ ap (λ ys. share bits a xs ++ ys) (behind (a + 1) n x xs (omega (arith, lt)))

  with_first : (a n : ℕ) (x : Ballot) (xs : List Ballot) → a ≤ place x → place x < a + n → All (λ y. place x ≤ place y) xs → from a n (x ∷ xs) ≡ x ∷ from a n xs
  with_first a zero x xs le lt up = absurd (omega (arith, le, lt))
  with_first a (suc n) x xs le lt up = ⊎_elim
      (λ (before : a < place x).
      let none : share bits a xs ≡ [] = none_own (λ (b : Ballot). b.number) bits a xs (λ k d more is. let above = up k d more in omega (arith, above, is, before)) in
      ap (λ ys. ys ++ from (a + 1) n (x ∷ xs)) (miss (λ (b : Ballot). b.number) bits a x xs (λ is. omega (arith, is, before)) ∙ none)
      ∙ with_first (a + 1) n x xs (omega (arith, before)) (omega (arith, lt)) up
      ∙ ap (λ ys. x ∷ (ys ++ from (a + 1) n xs)) (sym none))
      (λ (not : place x ≤ a).
      ap (λ ys. ys ++ from (a + 1) n (x ∷ xs)) (hit (λ (b : Ballot). b.number) bits a x xs (let is : place x ≡ a = omega (arith, not, le) in is))
      ∙ ap (λ ys. (x ∷ share bits a xs) ++ ys) (behind (a + 1) n x xs (omega (arith, not))))
      (cases_lt a (place x))

  nothing : (a n : ℕ) → from a n [] ≡ []
  nothing a zero = refl
  nothing a (suc n) = nothing (a + 1) n

  all_from : (a n : ℕ) (xs : List Ballot) → AllPairs (λ x y. place x ≤ place y) xs → All (λ x. (a ≤ place x) × (place x < a + n)) xs → from a n xs ≡ xs
  all_from a n [] up within = nothing a n
  all_from a n (x ∷ xs) up within =
      let here = All-head (λ x. (a ≤ place x) × (place x < a + n)) x xs within in
      with_first a n x xs here.0 here.1 (λ k d lt. up 0 (suc k) d (omega arith) (omega (arith, lt)))
      ∙ ap (λ ys. x ∷ ys) (all_from a n xs (λ i j d lt in_range. up (suc i) (suc j) d (omega (arith, lt)) (omega (arith, in_range))) (All-tail (λ x. (a ≤ place x) × (place x < a + n)) x xs within))

pub joined_shares : (e : Election) (bits : ℕ) (set : List Ballot) → AreBits bits → IsBallotSet e set → joined (shares bits set) ≡ set
joined_shares e bits set are is =
    flat_map-map (λ (xs : List Ballot). xs) (λ part. share bits part set) (range_with_len 0 (2 ^ bits))
    ∙ all_from bits 0 (2 ^ bits) set
    (λ i j d lt in_range. let less = is.ascending i j d lt in_range in parts_rise bits (get_or set i d).number (get_or set j d).number are (omega (arith, less)))
    (λ k d lt. (omega arith, omega (arith, each_in_part bits (get_or set k d).number are (is.valid k d lt).short_number)))

-- ---- the sets of parts joined

module _ (bits : ℕ) where
  abbrev AreFrom : ℕ → List (List Ballot) → Type 0
  AreFrom a sets = (k : ℕ) → k < length sets → BelongsTo bits (a + k) (get_or sets k [])

  rest_from : (a : ℕ) (s : List Ballot) (ss : List (List Ballot)) → AreFrom a (s ∷ ss) → AreFrom (a + 1) ss
  rest_from a s ss own k lt = let is : a + suc k ≡ a + 1 + k = omega arith in subst (λ n. BelongsTo bits n (get_or ss k [])) is (own (suc k) (omega (arith, lt)))

  first_from : (a : ℕ) (s : List Ballot) (ss : List (List Ballot)) → AreFrom a (s ∷ ss) → BelongsTo bits a s
  first_from a s ss own = let is : a + 0 ≡ a = omega arith in subst (λ n. BelongsTo bits n s) is (own 0 (omega arith))

  -- all of them are in this part or a later one
  later_from : (a : ℕ) (sets : List (List Ballot)) → AreFrom a sets → All (λ b. a ≤ part_of bits b.number) (joined sets)
  later_from a [] own = All-nil (λ (b : Ballot). a ≤ part_of bits b.number)
  later_from a (s ∷ ss) own = All-append (λ (b : Ballot). a ≤ part_of bits b.number) s (joined ss)
      (λ k d lt. let is = first_from a s ss own k d lt in omega (arith, is))
      (λ k d lt. let le = later_from (a + 1) ss (rest_from a s ss own) k d lt in omega (arith, le))

  share_from : (a p : ℕ) (sets : List (List Ballot)) → AreFrom a sets → share bits (a + p) (joined sets) ≡ get_or sets p []
  share_from a p [] own = refl
  share_from a zero (s ∷ ss) own =
      let is : a ≡ a + 0 = omega arith in
      filter-append (λ (b : Ballot). part_of bits b.number == (a + 0)) s (joined ss)
      ∙ ap (λ ys. ys ++ share bits (a + 0) (joined ss)) (all_own (λ (b : Ballot). b.number) bits (a + 0) s (subst (λ n. BelongsTo bits n s) is (first_from a s ss own)))
      ∙ ap (λ ys. s ++ ys) (none_own (λ (b : Ballot). b.number) bits (a + 0) (joined ss) (λ k d lt same. let le = later_from (a + 1) ss (rest_from a s ss own) k d lt in omega (arith, le, same)))
      ∙ append-nil s
  share_from a (suc p) (s ∷ ss) own =
      let is : a + 1 + p ≡ a + suc p = omega arith in
      filter-append (λ (b : Ballot). part_of bits b.number == (a + suc p)) s (joined ss)
      ∙ ap (λ ys. ys ++ share bits (a + suc p) (joined ss)) (none_own (λ (b : Ballot). b.number) bits (a + suc p) s (λ k d lt same. let here = first_from a s ss own k d lt in omega (arith, here, same)))
      ∙ subst (λ n. share bits n (joined ss) ≡ get_or ss p []) is (share_from (a + 1) p ss (rest_from a s ss own))

all_from_first : (bits : ℕ) (sets : List (List Ballot)) → AreParts bits sets → AreFrom bits 0 sets
all_from_first bits sets are k lt = let is : k ≡ 0 + k = omega arith in subst (λ n. BelongsTo bits n (get_or sets k [])) is (are.own k lt)

pub share_joined : (bits part : ℕ) (sets : List (List Ballot)) → AreParts bits sets → share bits part (joined sets) ≡ get_or sets part []
share_joined bits part sets are =
    let is : 0 + part ≡ part = omega arith in
    subst (λ n. share bits n (joined sets) ≡ get_or sets part []) is (share_from bits 0 part sets (all_from_first bits sets are))

pairs_cons : {X : Type 0} (R : X → X → Type 0) (x : X) (xs : List X) → All (R x) xs → AllPairs R xs → AllPairs R (x ∷ xs)
pairs_cons R x xs all up zero zero d lt in_range = absurd (omega (arith, lt))
pairs_cons R x xs all up zero (suc j) d lt in_range = all j d (omega (arith, in_range))
pairs_cons R x xs all up (suc i) zero d lt in_range = absurd (omega (arith, lt))
pairs_cons R x xs all up (suc i) (suc j) d lt in_range = up i j d (omega (arith, lt)) (omega (arith, in_range))

pairs_append : {X : Type 0} (R : X → X → Type 0) (xs ys : List X) → AllPairs R xs → AllPairs R ys → All (λ x. All (R x) ys) xs → AllPairs R (xs ++ ys)
pairs_append R [] ys up down cross = down
pairs_append R (x ∷ xs) ys up down cross =
    pairs_cons R x (xs ++ ys)
    (All-append (R x) xs ys (λ k d lt. up 0 (suc k) d (omega arith) (omega (arith, lt))) (All-head (λ x. All (R x) ys) x xs cross))
    (pairs_append R xs ys (λ i j d lt in_range. up (suc i) (suc j) d (omega (arith, lt)) (omega (arith, in_range))) down (All-tail (λ x. All (R x) ys) x xs cross))

set_from : (e : Election) (bits a : ℕ) (sets : List (List Ballot)) → AreBits bits → AreFrom bits a sets → All (IsBallotSet e) sets → IsBallotSet e (joined sets)
set_from e bits a [] are own each = record { valid = All-nil (IsValid e); ascending = λ i j d lt in_range. absurd (omega (arith, in_range)) }
set_from e bits a (s ∷ ss) are own each =
    let here = All-head (IsBallotSet e) s ss each in
    let rest = set_from e bits (a + 1) ss are (rest_from bits a s ss own) (All-tail (IsBallotSet e) s ss each) in
    record {
      valid = All-append (IsValid e) s (joined ss) here.valid rest.valid;
      ascending = pairs_append (λ (x y : Ballot). x.number < y.number) s (joined ss) here.ascending rest.ascending
          (λ k d lt i f in_range. ⊎_elim
          (λ (less : (get_or s k d).number < (get_or (joined ss) i f).number). less)
          (λ (not : (get_or (joined ss) i f).number ≤ (get_or s k d).number).
          let le = parts_rise bits (get_or (joined ss) i f).number (get_or s k d).number are not in
          let own_part = first_from bits a s ss own k d lt in
          let later = later_from bits (a + 1) ss (rest_from bits a s ss own) i f in_range in
          absurd (omega (arith, le, own_part, later)))
          (cases_lt (get_or s k d).number (get_or (joined ss) i f).number));
    }

pub joined_set : (e : Election) (bits : ℕ) (sets : List (List Ballot)) → AreBits bits → AreParts bits sets → All (IsBallotSet e) sets → IsBallotSet e (joined sets)
joined_set e bits sets are parts each = set_from e bits 0 sets are (all_from_first bits sets parts) each
