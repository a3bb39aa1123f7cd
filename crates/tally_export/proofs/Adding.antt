-- The tally of two lists of ballots, one after the other.
use Rattle.std.proofs.Common.{◌≡◌, ℕ, ◌+◌, ◌-◌, ◌*◌, ◌^◌, ◌<◌, ◌≤◌, Bool, false, true, cond, List, [], ◌∷◌, ◌++◌, length, ap, ◌∙◌, arith}
use Rattle.store_spec.proofs.Common.{Ballot, Election, IsElection, allowed_of, bit_at, count_ones, filter, filter-append, is_on_style, is_overvote, marked_in, overvotes, sum_by, sum_by-append, sum_by-cons, undervotes, votes}
use Rattle.tally_export.proofs.Counting.{allowed_few, bit_few, one_few}
use Rattle.tally_export.specs.Counted.{AddsBallots, AddsUp, IsTallyOf, IsUpTo, SumsFit}
use Rattle.tally_export.specs.declared.counts.Tally.{Tally}

-- what counts no more than 64 of a ballot counts no more than 64 of each
few_each : (f : Ballot → ℕ) (p : Ballot → Bool) (bs : List Ballot) → ((b : Ballot) → f b ≤ 64)
    → sum_by f (filter p bs) ≤ 64 * length bs
few_each f p [] each = omega arith
few_each f p (b ∷ bs) each = one (p b) (few_each f p bs each)
  where
    one : (t : Bool) → sum_by f (filter p bs) ≤ 64 * length bs
        → sum_by f (cond t (b ∷ filter p bs) (filter p bs)) ≤ 64 * length (b ∷ bs)
    one true few = omega (arith, each b, few, sum_by-cons f b (filter p bs))
    one false few = omega (arith, few)

pub votes_few : (e : Election) (bs : List Ballot) (k c : ℕ) → votes e bs k (c + 1) ≤ 64 * length bs
votes_few e bs k c =
    few_each (λ b. cond (is_overvote e k b) 0 (bit_at (marked_in k b) (c + 1 - 1))) (λ b. is_on_style e b.style k) bs
    (λ b. omega (arith, bit_few (is_overvote e k b) (marked_in k b) (c + 1 - 1)))

pub undervotes_few : (e : Election) (bs : List Ballot) (k : ℕ) → IsElection e → undervotes e bs k ≤ 64 * length bs
undervotes_few e bs k election =
    few_each (λ b. allowed_of e k - count_ones (marked_in k b)) (λ b. is_on_style e b.style k) bs
    (λ b. omega (arith, allowed_few e k election))

pub overvotes_few : (e : Election) (bs : List Ballot) (k : ℕ) → overvotes e bs k ≤ 64 * length bs
overvotes_few e bs k =
    few_each (λ b. cond (is_overvote e k b) 1 0) (λ b. is_on_style e b.style k) bs
    (λ b. omega (arith, one_few (is_overvote e k b)))

-- no count of so few ballots is near the end of its type
pub few_counts : (e : Election) (bs : List Ballot) (t : Tally) → IsElection e → length bs ≤ 32768 → IsTallyOf e bs t
    → IsUpTo (2 ^ 62) t
few_counts e bs t election few is = record {
  choices = λ k c known within. omega (arith, is.choices k c known within, votes_few e bs (k + 1) c);
  under = λ k known. omega (arith, is.under k known, undervotes_few e bs (k + 1) election);
  over = λ k known. omega (arith, is.over k known, overvotes_few e bs (k + 1));
}

-- counts that are no more than 64 a ballot of so few ballots have a sum that fits
pub sums_of_few : (e : Election) (xs ys : List Ballot) (left right : Tally) → IsElection e
    → length xs + length ys < 2 ^ 58 → IsTallyOf e xs left → IsTallyOf e ys right → SumsFit left right
sums_of_few e xs ys left right election few one other = record {
  choices = λ k c known within. omega (
    arith,
    few,
    one.choices k c known within,
    other.choices k c known within,
    votes_few e xs (k + 1) c,
    votes_few e ys (k + 1) c,
  );
  under = λ k known. omega (
    arith,
    few,
    one.under k known,
    other.under k known,
    undervotes_few e xs (k + 1) election,
    undervotes_few e ys (k + 1) election,
  );
  over = λ k known. omega (
    arith,
    few,
    one.over k known,
    other.over k known,
    overvotes_few e xs (k + 1),
    overvotes_few e ys (k + 1),
  );
}

-- what is counted of two lists is counted of the one and of the other
sum_both : (f : Ballot → ℕ) (p : Ballot → Bool) (xs ys : List Ballot)
    → sum_by f (filter p (xs ++ ys)) ≡ sum_by f (filter p xs) + sum_by f (filter p ys)
sum_both f p xs ys = ap (sum_by f) (filter-append p xs ys) ∙ sum_by-append f (filter p xs) (filter p ys)

-- what ballots add up to was added to the tally of others
pub ballots_added : (e : Election) (xs ys : List Ballot) (before now : Tally) → IsTallyOf e xs before
    → AddsBallots e ys before now → IsTallyOf e (xs ++ ys) now
ballots_added e xs ys before now is adds =
    let on : ℕ → Ballot → Bool = λ k b. is_on_style e b.style (k + 1) in
    record {
      choices = λ k c known within. omega (
        arith,
        adds.choices k c known within,
        is.choices k c known within,
        sum_both (λ b. cond (is_overvote e (k + 1) b) 0 (bit_at (marked_in (k + 1) b) (c + 1 - 1))) (on k) xs ys,
      );
      under = λ k known. omega (
        arith,
        adds.under k known,
        is.under k known,
        sum_both (λ b. allowed_of e (k + 1) - count_ones (marked_in (k + 1) b)) (on k) xs ys,
      );
      over = λ k known. omega (
        arith,
        adds.over k known,
        is.over k known,
        sum_both (λ b. cond (is_overvote e (k + 1) b) 1 0) (on k) xs ys,
      );
    }

-- a tally that was added adds its ballots
tally_added : (e : Election) (ys : List Ballot) (one other both : Tally) → IsTallyOf e ys other → AddsUp one other both
    → AddsBallots e ys one both
tally_added e ys one other both is adds = record {
  choices = λ k c known within. omega (arith, adds.choices k c known within, is.choices k c known within);
  under = λ k known. omega (arith, adds.under k known, is.under k known);
  over = λ k known. omega (arith, adds.over k known, is.over k known);
}

-- the tally of two lists of ballots, where their tallies were added
pub tally_of_both : (e : Election) (xs ys : List Ballot) (one other both : Tally) → IsTallyOf e xs one
    → IsTallyOf e ys other → AddsUp one other both → IsTallyOf e (xs ++ ys) both
tally_of_both e xs ys one other both first second adds =
    ballots_added e xs ys one both first (tally_added e ys one other both second adds)
