-- Ballots that stand in one of several sets, and the numbers in dispute.
use Rattle.std.proofs.Common.{◌≡◌, ◌⊎◌, ℕ, zero, suc, inl, inr, ⊎_elim, List, [], ◌∷◌, ◌++◌, Option, Some, None, refl, sym, subst, arith}
use Rattle.store_spec.proofs.Common.{Ballot, Contains, Contains-append_cases, Contains-append_left, Contains-append_right, Contains-push, Contains-push_cases, MatchOption}
use Rattle.merge_media.specs.Union.{Agree, IsDisputed, IsJoinedOf, IsLeastDisputed, StandsInOne}

-- what stands in one list of sets stands in another
abbrev pub StandsWithin : List (List Ballot) → List (List Ballot) → Type 0
StandsWithin xs ys = (b : Ballot) → StandsInOne xs b → StandsInOne ys b

pub none_stands : (b : Ballot) → ¬ StandsInOne [] b
none_stands b stands = absurd (omega (arith, stands.1.1))

pub stands_first : (set : List Ballot) (sets : List (List Ballot)) (b : Ballot) → Contains set b → StandsInOne (set ∷ sets) b
stands_first set sets b c = (set, (0, omega arith, refl), c)

pub stands_behind : (set : List Ballot) (sets : List (List Ballot)) → StandsWithin sets (set ∷ sets)
stands_behind set sets b stands = (stands.0, (suc stands.1.0, omega (arith, stands.1.1), stands.1.2), stands.2)

in_first : (set other : List Ballot) (sets : List (List Ballot)) (b : Ballot) → Contains (set ∷ sets) other → Contains other b
    → Contains set b ⊎ StandsInOne sets b
in_first set other sets b (zero, lt, is) c = inl (subst (λ (xs : List Ballot). Contains xs b) (sym is) c)
in_first set other sets b (suc k, lt, is) c = inr (other, (k, omega arith, is), c)

pub stands_cases : (set : List Ballot) (sets : List (List Ballot)) (b : Ballot) → StandsInOne (set ∷ sets) b
    → Contains set b ⊎ StandsInOne sets b
stands_cases set sets b stands = in_first set stands.0 sets b stands.1 stands.2

-- ---- a set with one ballot more

module _ (set : List Ballot) (s : Ballot) (sets : List (List Ballot)) where
  pub stands_still : StandsWithin (set ∷ sets) ((set ++ s ∷ []) ∷ sets)
  stands_still b stands = ⊎_elim
      (λ c. stands_first (set ++ s ∷ []) sets b (Contains-append_left set (s ∷ []) b c))
      (λ other. stands_behind (set ++ s ∷ []) sets b other)
      (stands_cases set sets b stands)

  pub stands_new : StandsInOne ((set ++ s ∷ []) ∷ sets) s
  stands_new = stands_first (set ++ s ∷ []) sets s (Contains-push set s)

  pub stands_before : (b : Ballot) → StandsInOne ((set ++ s ∷ []) ∷ sets) b → StandsInOne (set ∷ sets) b ⊎ (s ≡ b)
  stands_before b stands = ⊎_elim
      (λ c. ⊎_elim (λ before. inl (stands_first set sets b before)) (λ new. inr new) (Contains-push_cases set s b c))
      (λ other. inl (stands_behind set sets b other))
      (stands_cases (set ++ s ∷ []) sets b stands)

-- ---- numbers in dispute

pub disputed_within : (xs ys : List (List Ballot)) → StandsWithin xs ys → (n : ℕ) → IsDisputed xs n → IsDisputed ys n
disputed_within xs ys there n d = record {
  one = d.one;
  other = d.other;
  one_stands = there d.one d.one_stands;
  other_stands = there d.other d.other_stands;
  one_number = d.one_number;
  other_number = d.other_number;
  differ = d.differ;
}

module _ (xs ys : List (List Ballot)) (there : StandsWithin xs ys) (back : StandsWithin ys xs) where
  pub least_same : (n : ℕ) → IsLeastDisputed xs n → IsLeastDisputed ys n
  least_same n l = record {
    disputed = disputed_within xs ys there n l.disputed;
    least = λ other d. l.least other (disputed_within ys xs back other d);
  }

  dispute_same : (dispute : Option ℕ) → MatchOption dispute (Agree xs) (IsLeastDisputed xs) → MatchOption dispute (Agree ys) (IsLeastDisputed ys)
  dispute_same None agree = λ n d. agree n (disputed_within ys xs back n d)
  dispute_same (Some n) l = least_same n l

  -- what is kept does not change where the same ballots stand in the sets
  pub joined_same : (ballots : List Ballot) (dispute : Option ℕ) → IsJoinedOf xs ballots dispute → IsJoinedOf ys ballots dispute
  joined_same ballots dispute j = record {
    ascending = j.ascending;
    only = λ b c. there b (j.only b c);
    numbers = λ b stands. j.numbers b (back b stands);
    agreed = λ b stands. ⊎_elim (λ kept. inl kept) (λ d. inr (disputed_within xs ys there b.number d)) (j.agreed b (back b stands));
    least = dispute_same dispute j.least;
  }

-- ---- lists of sets, one behind another

pub stands_left : (xs ys : List (List Ballot)) → StandsWithin xs (xs ++ ys)
stands_left xs ys b stands = (stands.0, Contains-append_left xs ys stands.0 stands.1, stands.2)

pub stands_right : (xs ys : List (List Ballot)) → StandsWithin ys (xs ++ ys)
stands_right xs ys b stands = (stands.0, Contains-append_right xs ys stands.0 stands.1, stands.2)

pub stands_either : (xs ys : List (List Ballot)) (b : Ballot) → StandsInOne (xs ++ ys) b → StandsInOne xs b ⊎ StandsInOne ys b
stands_either xs ys b stands = ⊎_elim
    (λ left. inl (stands.0, left, stands.2))
    (λ right. inr (stands.0, right, stands.2))
    (Contains-append_cases xs ys stands.0 stands.1)
