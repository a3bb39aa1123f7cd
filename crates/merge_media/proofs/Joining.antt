-- One ballot more of a set is joined with those that are kept.
use Rattle.std.proofs.Common.{◌≡◌, ◌≢◌, ◌⊎◌, ℕ, ◌<◌, ◌≤◌, min, inl, inr, ⊎_elim, List, [], ◌∷◌, ◌++◌, Option, Some, None, refl, sym, ◌∙◌, subst, ap, arith}
use Rattle.store_spec.proofs.Common.{All-contains, Ballot, Contains, Contains-append_cases, Contains-append_left, Contains-append_right, Contains-push, Contains-push_cases, MatchOption, cases_lt}
use Rattle.ballot_record.proofs.BallotNumbers.{ballot_with, contains_number}
use Rattle.merge_media.proofs.Ascending.{AreAbove, AreBelow, ascend_insert}
use Rattle.merge_media.proofs.Standing.{disputed_within, joined_same, stands_before, stands_behind, stands_cases, stands_new, stands_still}
use Rattle.merge_media.specs.Union.{Agree, IsDisputed, IsJoinedOf, IsLeastDisputed, IsUnion, StandsInOne, least_with}

-- a set of which no ballot came yet
pub joined_begins : (sets : List (List Ballot)) (ballots : List Ballot) (dispute : Option ℕ) → IsJoinedOf sets ballots dispute
    → IsJoinedOf ([] ∷ sets) ballots dispute
joined_begins sets ballots dispute j =
    joined_same sets ([] ∷ sets) (stands_behind [] sets)
    (λ b stands. ⊎_elim (λ c. absurd (omega (arith, c.1))) (λ other. other) (stands_cases [] sets b stands))
    ballots dispute j

-- where no number is in dispute, what is kept is the union
pub joined_union : (sets : List (List Ballot)) (ballots : List Ballot) → IsJoinedOf sets ballots None → IsUnion sets ballots
joined_union sets ballots j = record {
  each = λ b stands. ⊎_elim (λ kept. kept) (λ d. absurd (j.least b.number d)) (j.agreed b stands);
  only = j.only;
  ascending = j.ascending;
}

module _ (set : List Ballot) (s : Ballot) (sets : List (List Ballot)) where
  -- it is kept already
  pub joined_kept : (kept : List Ballot) (dispute : Option ℕ) → IsJoinedOf (set ∷ sets) kept dispute → Contains kept s
      → IsJoinedOf ((set ++ s ∷ []) ∷ sets) kept dispute
  joined_kept kept dispute j c =
      joined_same (set ∷ sets) ((set ++ s ∷ []) ∷ sets) (stands_still set s sets)
      (λ b stands. ⊎_elim (λ before. before) (λ is. subst (StandsInOne (set ∷ sets)) is (j.only s c)) (stands_before set s sets b stands))
      kept dispute j

  -- ---- another ballot of its number is kept

  still_disputed : (n : ℕ) → IsDisputed (set ∷ sets) n → IsDisputed ((set ++ s ∷ []) ∷ sets) n
  still_disputed = disputed_within (set ∷ sets) ((set ++ s ∷ []) ∷ sets) (stands_still set s sets)

  -- a number in dispute is its own, or was so before
  disputed_before : (n : ℕ) → IsDisputed ((set ++ s ∷ []) ∷ sets) n → (s.number ≡ n) ⊎ IsDisputed (set ∷ sets) n
  disputed_before n d = ⊎_elim
      (λ one. ⊎_elim
      (λ other. inr (record {
        one = d.one;
        other = d.other;
        one_stands = one;
        other_stands = other;
        one_number = d.one_number;
        other_number = d.other_number;
        differ = d.differ;
      }))
      (λ is. inl (ap (λ (b : Ballot). b.number) is ∙ d.other_number))
      (stands_before set s sets d.other d.other_stands))
      (λ is. inl (ap (λ (b : Ballot). b.number) is ∙ d.one_number))
      (stands_before set s sets d.one d.one_stands)

  module _ (kept : List Ballot) (a : Ballot) (c : Contains kept a) (same : a.number ≡ s.number) (differ : a ≢ s) where
    own_dispute : (dispute : Option ℕ) → IsJoinedOf (set ∷ sets) kept dispute → IsDisputed ((set ++ s ∷ []) ∷ sets) s.number
    own_dispute dispute j = record {
      one = a;
      other = s;
      one_stands = stands_still set s sets a (j.only a c);
      other_stands = stands_new set s sets;
      one_number = same;
      other_number = refl;
      differ = differ;
    }

    least_new : (dispute : Option ℕ) → IsDisputed ((set ++ s ∷ []) ∷ sets) s.number
        → MatchOption dispute (Agree (set ∷ sets)) (IsLeastDisputed (set ∷ sets))
        → IsLeastDisputed ((set ++ s ∷ []) ∷ sets) (least_with dispute s.number)
    least_new None own agree = record {
      disputed = own;
      least = λ n d. ⊎_elim (λ is. omega (arith, is)) (λ before. absurd (agree n before)) (disputed_before n d);
    }
    least_new (Some m) own l = record {
      disputed = ⊎_elim
          (λ (lt : s.number < m). subst (IsDisputed ((set ++ s ∷ []) ∷ sets)) (let e : s.number ≡ min m s.number = omega arith in e) own)
          (λ (le : m ≤ s.number). subst (IsDisputed ((set ++ s ∷ []) ∷ sets)) (let e : m ≡ min m s.number = omega arith in e) (still_disputed m l.disputed))
          (cases_lt s.number m);
      least = λ n d. ⊎_elim (λ is. omega (arith, is)) (λ before. let le = l.least n before in omega arith) (disputed_before n d);
    }

    pub joined_disputed : (dispute : Option ℕ) → IsJoinedOf (set ∷ sets) kept dispute
        → IsJoinedOf ((set ++ s ∷ []) ∷ sets) kept (Some (least_with dispute s.number))
    joined_disputed dispute j =
        let own = own_dispute dispute j in
        record {
          ascending = j.ascending;
          only = λ b k. stands_still set s sets b (j.only b k);
          numbers = λ b stands. ⊎_elim
              (λ before. j.numbers b before)
              (λ is. contains_number kept a b.number c (same ∙ ap (λ (b : Ballot). b.number) is))
              (stands_before set s sets b stands);
          agreed = λ b stands. ⊎_elim
              (λ before. ⊎_elim (λ k. inl k) (λ d. inr (still_disputed b.number d)) (j.agreed b before))
              (λ is. inr (subst (λ (b : Ballot). IsDisputed ((set ++ s ∷ []) ∷ sets) b.number) is own))
              (stands_before set s sets b stands);
          least = least_new dispute own j.least;
        }

  -- ---- no ballot of its number is kept: it comes between those below it and those above

  module _ (xs ys : List Ballot) (below : AreBelow s.number xs) (above : AreAbove s.number ys) where
    absent : (b : Ballot) → Contains (xs ++ ys) b → b.number ≢ s.number
    absent b c = ⊎_elim
        (λ left. let lt = All-contains (λ (b : Ballot). b.number < s.number) xs b below left in λ is. omega arith)
        (λ right. let lt = All-contains (λ (b : Ballot). s.number < b.number) ys b above right in λ is. omega arith)
        (Contains-append_cases xs ys b c)

    kept_still : (b : Ballot) → Contains (xs ++ ys) b → Contains ((xs ++ s ∷ []) ++ ys) b
    kept_still b c = ⊎_elim
        (λ left. Contains-append_left (xs ++ s ∷ []) ys b (Contains-append_left xs (s ∷ []) b left))
        (λ right. Contains-append_right (xs ++ s ∷ []) ys b right)
        (Contains-append_cases xs ys b c)

    kept_now : Contains ((xs ++ s ∷ []) ++ ys) s
    kept_now = Contains-append_left (xs ++ s ∷ []) ys s (Contains-push xs s)

    kept_before : (b : Ballot) → Contains ((xs ++ s ∷ []) ++ ys) b → Contains (xs ++ ys) b ⊎ (s ≡ b)
    kept_before b c = ⊎_elim
        (λ left. ⊎_elim (λ before. inl (Contains-append_left xs ys b before)) (λ is. inr is) (Contains-push_cases xs s b left))
        (λ right. inl (Contains-append_right xs ys b right))
        (Contains-append_cases (xs ++ s ∷ []) ys b c)

    module _ (dispute : Option ℕ) (j : IsJoinedOf (set ∷ sets) (xs ++ ys) dispute) where
      no_other : (b : Ballot) → StandsInOne (set ∷ sets) b → b.number ≢ s.number
      no_other b stands is =
          let with' = ballot_with (xs ++ ys) b.number (j.numbers b stands) in
          absent with'.0 with'.1 (with'.2 ∙ is)

      disputes_before : (n : ℕ) → IsDisputed ((set ++ s ∷ []) ∷ sets) n → IsDisputed (set ∷ sets) n
      disputes_before n d = ⊎_elim
          (λ one. ⊎_elim
          (λ other. record {
            one = d.one;
            other = d.other;
            one_stands = one;
            other_stands = other;
            one_number = d.one_number;
            other_number = d.other_number;
            differ = d.differ;
          })
          (λ is. absurd (no_other d.one one (d.one_number ∙ sym d.other_number ∙ sym (ap (λ (b : Ballot). b.number) is))))
          (stands_before set s sets d.other d.other_stands))
          (λ is. ⊎_elim
          (λ other. absurd (no_other d.other other (d.other_number ∙ sym d.one_number ∙ sym (ap (λ (b : Ballot). b.number) is))))
          (λ also. absurd (d.differ (sym is ∙ also)))
          (stands_before set s sets d.other d.other_stands))
          (stands_before set s sets d.one d.one_stands)

      least_still : (dispute : Option ℕ) → MatchOption dispute (Agree (set ∷ sets)) (IsLeastDisputed (set ∷ sets))
          → MatchOption dispute (Agree ((set ++ s ∷ []) ∷ sets)) (IsLeastDisputed ((set ++ s ∷ []) ∷ sets))
      least_still None agree = λ n d. agree n (disputes_before n d)
      least_still (Some n) l = record {
        disputed = still_disputed n l.disputed;
        least = λ other d. l.least other (disputes_before other d);
      }

      pub joined_new : IsJoinedOf ((set ++ s ∷ []) ∷ sets) ((xs ++ s ∷ []) ++ ys) dispute
      joined_new = record {
        ascending = ascend_insert s xs ys j.ascending below above;
        only = λ b c. ⊎_elim
            (λ before. stands_still set s sets b (j.only b before))
            (λ is. subst (StandsInOne ((set ++ s ∷ []) ∷ sets)) is (stands_new set s sets))
            (kept_before b c);
        numbers = λ b stands. ⊎_elim
            (λ before.
            let with' = ballot_with (xs ++ ys) b.number (j.numbers b before) in
            contains_number ((xs ++ s ∷ []) ++ ys) with'.0 b.number (kept_still with'.0 with'.1) with'.2)
            (λ is. contains_number ((xs ++ s ∷ []) ++ ys) s b.number kept_now (ap (λ (b : Ballot). b.number) is))
            (stands_before set s sets b stands);
        agreed = λ b stands. ⊎_elim
            (λ before. ⊎_elim (λ k. inl (kept_still b k)) (λ d. inr (still_disputed b.number d)) (j.agreed b before))
            (λ is. inl (subst (Contains ((xs ++ s ∷ []) ++ ys)) is kept_now))
            (stands_before set s sets b stands);
        least = least_still dispute j.least;
      }
