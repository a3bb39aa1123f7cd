-- How many ballots a sample has.
use Rattle.std.proofs.Common.{◌≡◌, ◌≢◌, ℕ, zero, suc, ◌+◌, ◌<◌, ◌≤◌, inl, inr, List, [], ◌∷◌, ◌++◌, Bool, true, false, cond, length, get_or, map, refl, sym, ap, subst, ◌∙◌, arith}
use Rattle.store_spec.proofs.Common.{All, All-cons, All-contains, All-nil, All-permutation, Ballot, Contains, Contains-append_right, Contains-get_or, Contains-permutation, Election, IsBallotSet, IsPermutation, IsPermutation-cons, IsPermutation-map, IsPermutation-middle, IsPermutation-refl, IsPermutation-sym, IsPermutation-trans, cases_lt, cond-false, count_by, get_or-map, length-filter, length-map, length_permutation, nat_lt, numbers_of, sum_by-IsPermutation, sum_by-append, sum_by-cons}
use Rattle.std.specs.Prelude.{min}
use Rattle.ballot_record.proofs.BallotNumbers.{contains_number, length-numbers_of, pairs_of_numbers}
use Rattle.ballot_record.proofs.BallotSets.{listing_from_set}
use Rattle.ticket_sample.proofs.Bounding.{before, lots_order, no_tie, numbers_apart}
use Rattle.ticket_sample.proofs.Holding.{filter_all, never_last}
use Rattle.ticket_sample.proofs.Lots.{count_lots, numbers_back}
use Rattle.ticket_sample.proofs.Splitting.{bool_cases, count_all, count_none, irreflexive, split_counts}
use Rattle.ticket_sample.specs.Drawing.{AreApart, lots_of}
use Rattle.ticket_sample.specs.Sample.{is_drawn, sample_of}
use Rattle.ticket_sample.specs.Ticket.{Lot, lot_of}

abbrev numbers : List Lot → List ℕ
numbers lots = map (λ lot. lot.1) lots

-- one of the lots before which none is drawn, and the others
record First (lots : List Lot) : Type 0 where
  lot : Lot
  rest : List Lot
  same : IsPermutation lots (lot ∷ rest)
  none : All (λ other. before other lot ≡ false) rest

first_of_all : (x : Lot) (xs : List Lot) → First (x ∷ xs)
first_of_all x [] = record { lot = x; rest = []; same = IsPermutation-refl (x ∷ []); none = All-nil (λ other. before other x ≡ false) }
first_of_all x (y ∷ ys) =
    let next = first_of_all y ys in
    elim (bool_cases (before x next.lot)) [
      | inl less ↦
          let others : All (λ other. before other next.lot ≡ false) (next.lot ∷ next.rest) = All-cons (λ other. before other next.lot ≡ false) next.lot next.rest (irreflexive before lots_order next.lot) next.none in
          let back = All-permutation (λ other. before other next.lot ≡ false) (next.lot ∷ next.rest) (y ∷ ys) (IsPermutation-sym (y ∷ ys) (next.lot ∷ next.rest) next.same) others in
          record {
            lot = x;
            rest = y ∷ ys;
            same = IsPermutation-refl (x ∷ y ∷ ys);
            none = λ k d within. lots_order.chain (get_or (y ∷ ys) k d) next.lot x (back k d within) (lots_order.one_way x next.lot less);
          }
      | inr not_less ↦ record {
        lot = next.lot;
        rest = x ∷ next.rest;
        same = IsPermutation-trans (x ∷ y ∷ ys) (x ∷ next.lot ∷ next.rest) (next.lot ∷ x ∷ next.rest)
            (IsPermutation-cons x (y ∷ ys) (next.lot ∷ next.rest) next.same) (IsPermutation-middle (x ∷ []) next.lot next.rest);
        none = All-cons (λ other. before other next.lot ≡ false) x next.rest not_less next.none;
      }
    ]

-- the lots are split around the one before which so many are drawn
record SplitAt (lots : List Lot) (count : ℕ) : Type 0 where
  front : List Lot
  lot : Lot
  back : List Lot
  same : IsPermutation lots (front ++ lot ∷ back)
  earlier : All (λ other. before other lot ≡ true) front
  later : All (λ other. before other lot ≡ false) back
  counted : length front ≡ count

among_split : (xs front back : List Lot) (t : Lot) → IsPermutation xs (front ++ t ∷ back) → Contains xs t
among_split xs front back t same =
    Contains-permutation (front ++ t ∷ back) xs t (IsPermutation-sym xs (front ++ t ∷ back) same) (Contains-append_right front (t ∷ back) t (0, omega arith, refl))

-- one before which none of the others is drawn is before each of them
first_earlier : (first t : Lot) (rest : List Lot) → All (λ other. before other first ≡ false) rest → Contains rest t → AreApart (numbers (first ∷ rest)) → before first t ≡ true
first_earlier first t rest none there apart =
    let not_before : before t first ≡ false = All-contains (λ other. before other first ≡ false) rest t none there in
    no_tie first t
    (λ is. apart 0 (suc there.0) 0 (omega arith) (omega (arith, there.1, length-map rest (λ (lot : Lot). lot.1)))
    (is ∙ sym (get_or-map (λ (lot : Lot). lot.1) rest there.0 t 0 there.1 ∙ ap (λ (lot : Lot). lot.1) there.2)))
    not_before

split_at : (count : ℕ) (lots : List Lot) → count < length lots → AreApart (numbers lots) → SplitAt lots count
split_at count [] within apart = absurd (omega (arith, within))
split_at zero (x ∷ xs) within apart =
    let first = first_of_all x xs in
    record { front = []; lot = first.lot; back = first.rest; same = first.same; earlier = All-nil (λ other. before other first.lot ≡ true); later = first.none; counted = refl }
split_at (suc count) (x ∷ xs) within apart =
    let first = first_of_all x xs in
    let long = length_permutation (x ∷ xs) (first.lot ∷ first.rest) first.same in
    let all_apart = numbers_apart (numbers (x ∷ xs)) (numbers (first.lot ∷ first.rest)) (IsPermutation-map (λ (lot : Lot). lot.1) (x ∷ xs) (first.lot ∷ first.rest) first.same) apart in
    let next = split_at count first.rest (omega (arith, within, long)) (λ i j d less inside. all_apart (suc i) (suc j) d (omega arith) (omega (arith, inside))) in
    let there : Contains first.rest next.lot = among_split first.rest next.front next.back next.lot next.same in
    record {
      front = first.lot ∷ next.front;
      lot = next.lot;
      back = next.back;
      same = IsPermutation-trans (x ∷ xs) (first.lot ∷ first.rest) (first.lot ∷ (next.front ++ next.lot ∷ next.back)) first.same
          (IsPermutation-cons first.lot first.rest (next.front ++ next.lot ∷ next.back) next.same);
      earlier = All-cons (λ other. before other next.lot ≡ true) first.lot next.front (first_earlier first.lot next.lot first.rest first.none there all_apart) next.earlier;
      later = next.later;
      counted = omega (arith, next.counted);
    }

-- as many lots are drawn before it
split_counted : (lots : List Lot) (count : ℕ) (split : SplitAt lots count) → count_by (λ other. before other split.lot) lots ≡ count
split_counted lots count split =
    let test = λ (other : Lot). before other split.lot in
    let whole = sum_by-IsPermutation (λ other. cond (test other) 1 0) lots (split.front ++ split.lot ∷ split.back) split.same in
    let parts = sum_by-append (λ other. cond (test other) 1 0) split.front (split.lot ∷ split.back) in
    let behind = sum_by-cons (λ other. cond (test other) 1 0) split.lot split.back in
    let alone = cond-false {A = ℕ} (test split.lot) 1 0 (irreflexive before lots_order split.lot) in
    omega (arith, whole, parts, behind, alone, count_all test split.front split.earlier, count_none test split.back split.later, split.counted)

-- tests that agree on all ballots count the same
count_agree : {X : Type 0} (p q : X → Bool) (xs : List X) → All (λ x. p x ≡ q x) xs → count_by p xs ≡ count_by q xs
count_agree p q [] all = refl
count_agree p q (x ∷ xs) all =
    let here : p x ≡ q x = all 0 x (omega arith) in
    let rest = count_agree p q xs (λ k d within. all (suc k) d (omega (arith, within))) in
    sum_by-cons (λ x. cond (p x) 1 0) x xs ∙ ap (λ n. cond (p x) 1 0 + n) rest ∙ ap (λ b. cond b 1 0 + count_by q xs) here ∙ sym (sum_by-cons (λ x. cond (q x) 1 0) x xs)

-- a test of the lots is one of the ballots
count_ballots : (dice : List ℕ) (p : Lot → Bool) (ballots : List Ballot) → count_by (λ b. p (lot_of dice b.number)) ballots ≡ count_by p (lots_of dice (numbers_of ballots))
count_ballots dice p [] = refl
count_ballots dice p (b ∷ ballots) =
    sum_by-cons (λ (b : Ballot). cond (p (lot_of dice b.number)) 1 0) b ballots ∙ ap (λ n. cond (p (lot_of dice b.number)) 1 0 + n) (count_ballots dice p ballots)
    ∙ sym (sum_by-cons (λ lot. cond (p lot) 1 0) (lot_of dice b.number) (lots_of dice (numbers_of ballots)))

module _ (set : List Ballot) (dice : List ℕ) (k : ℕ) (apart : AreApart (numbers_of set)) where
  abbrev all : List Lot
  all = lots_of dice (numbers_of set)

  all_apart : AreApart (numbers all)
  all_apart = subst AreApart (sym (numbers_back dice (numbers_of set))) apart

  -- a ballot is drawn exactly where its lot is drawn before that one
  drawn_before : (split : SplitAt all k) → All (λ b. is_drawn dice k (numbers_of set) b.number ≡ before (lot_of dice b.number) split.lot) set
  drawn_before split i d within =
      let b = get_or set i d in
      let there : Contains all (lot_of dice b.number) =
      let inside : i < length (numbers_of set) = omega (arith, within, length-numbers_of set) in
      (i, omega (arith, inside, length-map (numbers_of set) (lot_of dice)), get_or-map (lot_of dice) (numbers_of set) i 0 (lot_of dice b.number) inside ∙ ap (lot_of dice) (get_or-map (λ (b : Ballot). b.number) set i d 0 within)) in
      ap (λ n. nat_lt n k) (sym (count_lots dice (numbers_of set) b.number))
      ∙ ap (λ n. nat_lt (count_by (λ other. before other (lot_of dice b.number)) all) n) (sym split.counted)
      ∙ sym (split_counts before lots_order all split.front split.back split.lot (lot_of dice b.number) split.same split.earlier split.later there)

  pub size_below : k < length set → length (sample_of set dice k) ≡ k
  unfolding sample_of
  size_below less =
      let split = split_at k all (omega (arith, less, length-map (numbers_of set) (lot_of dice), length-numbers_of set)) all_apart in
      length-filter (λ b. is_drawn dice k (numbers_of set) b.number) set
      ∙ count_agree (λ (b : Ballot). is_drawn dice k (numbers_of set) b.number) (λ b. before (lot_of dice b.number) split.lot) set (drawn_before split)
      ∙ count_ballots dice (λ lot. before lot split.lot) set
      ∙ split_counted all k split

  pub size_whole : length set ≤ k → length (sample_of set dice k) ≡ length set
  unfolding sample_of
  size_whole few =
      ap length (filter_all (λ (b : Ballot). is_drawn dice k (numbers_of set) b.number) set (λ i d within.
      never_last dice (numbers_of set) k (get_or set i d).number (omega (arith, few, length-numbers_of set)) (contains_number set (get_or set i d) (get_or set i d).number (Contains-get_or set i d within) refl)))

pub sample_size : (e : Election) (set : List Ballot) (dice : List ℕ) (k : ℕ) → IsBallotSet e set → length (sample_of set dice k) ≡ min k (length set)
sample_size e set dice k is =
    let apart = pairs_of_numbers (λ a b. a ≢ b) set (listing_from_set e set is).distinct in
    elim (cases_lt k (length set)) [
      | inl less ↦ size_below set dice k apart less ∙ (let least : k ≡ min k (length set) = omega (arith, less) in least)
      | inr few ↦ size_whole set dice k apart few ∙ (let least : length set ≡ min k (length set) = omega (arith, few) in least)
    ]
