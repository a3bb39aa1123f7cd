-- The tally of ballots in another order, and records in any order.
use Rattle.std.proofs.Common.{◌≡◌, ℕ, ◌+◌, ◌-◌, Bool, true, false, cond, List, [], ◌∷◌, refl, sym, ap, ◌∙◌, arith}
use Rattle.store_spec.proofs.Common.{Ballot, Election, IsPermutation, allowed_of, bit_at, count_ones, filter, is_on_style, is_overvote, marked_in, sum_by, sum_by-IsPermutation, sum_by-cons}
use Rattle.tally_export.specs.Counted.{IsTallyOf}
use Rattle.tally_export.specs.declared.counts.Tally.{Tally}

-- a sum over those that pass a test is one over all, in which the others count nothing
sum_kept : (f : Ballot → ℕ) (p : Ballot → Bool) (bs : List Ballot)
    → sum_by f (filter p bs) ≡ sum_by (λ b. cond (p b) (f b) 0) bs
sum_kept f p [] = refl
sum_kept f p (b ∷ bs) = one (p b) ∙ ap (λ n. cond (p b) (f b) 0 + n) (sum_kept f p bs) ∙ sym
    (sum_by-cons (λ b. cond (p b) (f b) 0) b bs)
  where
    one : (t : Bool) → sum_by f (cond t (b ∷ filter p bs) (filter p bs)) ≡ cond t (f b) 0 + sum_by f (filter p bs)
    one true = sum_by-cons f b (filter p bs)
    one false = omega arith

sum_any_order : (f : Ballot → ℕ) (p : Ballot → Bool) (xs ys : List Ballot) → IsPermutation xs ys
    → sum_by f (filter p xs) ≡ sum_by f (filter p ys)
sum_any_order f p xs ys moved =
    sum_kept f p xs ∙ sym (sum_by-IsPermutation (λ b. cond (p b) (f b) 0) xs ys moved) ∙ sym (sum_kept f p ys)

pub tally_any_order : (e : Election) (xs ys : List Ballot) (tally : Tally) → IsPermutation xs ys → IsTallyOf e xs tally
    → IsTallyOf e ys tally
tally_any_order e xs ys tally moved is =
    let on : ℕ → Ballot → Bool = λ k b. is_on_style e b.style (k + 1) in
    record {
      choices = λ k c known within. is.choices k c known within
          ∙ sum_any_order (λ b. cond (is_overvote e (k + 1) b) 0 (bit_at (marked_in (k + 1) b) (c + 1 - 1)))
          (on k) xs ys moved;
      under = λ k known. is.under k known
          ∙ sum_any_order (λ b. allowed_of e (k + 1) - count_ones (marked_in (k + 1) b)) (on k) xs ys moved;
      over = λ k known. is.over k known ∙ sum_any_order (λ b. cond (is_overvote e (k + 1) b) 1 0) (on k) xs ys moved;
    }
