-- Ballots in ascending order: the same ballots, and the list itself where it ascends.
use Rattle.std.proofs.Common.{◌≡◌, ◌≢◌, ℕ, ◌<◌, ◌≤◌, inl, inr, List, [], ◌∷◌, refl, sym, ap, ◌∙◌, subst}
use Rattle.store_spec.proofs.Common.{AllPairs, Ballot, IsPermutation, IsPermutation-cons, IsPermutation-middle, IsPermutation-refl, IsPermutation-sym, IsPermutation-trans, ascending, cases_lt, cond-false, cond-true, le-leb, lt-leb, numbers_of, put_in_order}
use Rattle.ballot_record.proofs.BallotNumbers.{pairs_of_numbers, pairs_of_ballots}
use Rattle.ballot_record.proofs.BallotSets.{Ascend, same_in_order}
use Rattle.ballot_record.proofs.Lookups.{AreDistinct}
use Rattle.body_store.specs.ByNumber.{put_by_number, by_number}
use Rattle.layout_def.proofs.Ascending as Numbers
use Rattle.layout_def.proofs.LaidOut.{ascending_from_rising}

put_first : (b x : Ballot) (xs : List Ballot) → b.number ≤ x.number → put_by_number b (x ∷ xs) ≡ b ∷ x ∷ xs
put_first b x xs le = cond-true _ _ _ (le-leb b.number x.number le)

put_later : (b x : Ballot) (xs : List Ballot) → x.number < b.number → put_by_number b (x ∷ xs) ≡ x ∷ put_by_number b xs
put_later b x xs lt = cond-false _ _ _ (lt-leb b.number x.number lt)

put-IsPermutation : (b : Ballot) (xs : List Ballot) → IsPermutation (b ∷ xs) (put_by_number b xs)
put-IsPermutation b [] = IsPermutation-refl (b ∷ [])
put-IsPermutation b (x ∷ xs) =
    let whole = b ∷ x ∷ xs in
    elim (cases_lt x.number b.number) [
      | inl later ↦
          subst (λ (ys : List Ballot). IsPermutation whole ys) (sym (put_later b x xs later))
          (IsPermutation-trans whole (x ∷ b ∷ xs) (x ∷ put_by_number b xs) (IsPermutation-middle (b ∷ []) x xs)
          (IsPermutation-cons x (b ∷ xs) (put_by_number b xs) (put-IsPermutation b xs)))
      | inr first ↦ subst (λ (ys : List Ballot). IsPermutation whole ys) (sym (put_first b x xs first))
          (IsPermutation-refl whole)
    ]

pub by_number-IsPermutation : (ballots : List Ballot) → IsPermutation ballots (by_number ballots)
by_number-IsPermutation [] = IsPermutation-refl []
by_number-IsPermutation (b ∷ ballots) =
    IsPermutation-trans (b ∷ ballots) (b ∷ by_number ballots) (put_by_number b (by_number ballots))
    (IsPermutation-cons b ballots (by_number ballots) (by_number-IsPermutation ballots))
    (put-IsPermutation b (by_number ballots))

numbers_put : (b : Ballot) (xs : List Ballot) → numbers_of (put_by_number b xs) ≡ put_in_order b.number (numbers_of xs)
numbers_put b [] = refl
numbers_put b (x ∷ xs) =
    elim (cases_lt x.number b.number) [
      | inl later ↦
          ap numbers_of (put_later b x xs later)
          ∙ ap (λ ns. x.number ∷ ns) (numbers_put b xs)
          ∙ sym (Numbers.put_later b.number x.number (numbers_of xs) later)
      | inr first ↦ ap numbers_of (put_first b x xs first) ∙ sym
          (Numbers.put_first b.number x.number (numbers_of xs) first)
    ]

numbers_by_number : (ballots : List Ballot) → numbers_of (by_number ballots) ≡ ascending (numbers_of ballots)
numbers_by_number [] = refl
numbers_by_number (b ∷ ballots) = numbers_put b (by_number ballots) ∙ ap (put_in_order b.number)
    (numbers_by_number ballots)

pub by_number-ascends : (ballots : List Ballot) → AreDistinct ballots → Ascend (by_number ballots)
by_number-ascends ballots apart =
    pairs_of_ballots (λ a b. a < b) (by_number ballots)
    (subst (λ (ns : List ℕ). AllPairs (λ a b. a < b) ns) (sym (numbers_by_number ballots))
    (ascending_from_rising _ (Numbers.ascending_distinct _ (pairs_of_numbers (λ a b. a ≢ b) ballots apart))))

-- the one list of these ballots that ascends
pub by_number-is : (xs ys : List Ballot) → AreDistinct xs → Ascend ys → IsPermutation xs ys → by_number xs ≡ ys
by_number-is xs ys apart up p =
    same_in_order (by_number xs) ys (by_number-ascends xs apart) up
    (IsPermutation-trans (by_number xs) xs ys (IsPermutation-sym xs (by_number xs) (by_number-IsPermutation xs)) p)

-- ---- what a sort by the number of a ballot gives
