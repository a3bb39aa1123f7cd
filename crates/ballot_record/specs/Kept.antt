-- How an election is kept: its contests and styles at the front of two arrays, which are empty behind them.
use Rattle.std.proofs.Common.{◌≡◌, ℕ, ◌-◌, ◌≤◌, List, [], ◌∷◌, ◌++◌, length, take, drop, map, replicate, refl, ap, sym, ◌∙◌, arith, take-append-drop}
use Rattle.std.proofs.lemmas.List.{length-take-le, length-map}
use Rattle.ballot_record.specs.declared.contest.Contest.{Contest}
use Rattle.ballot_record.specs.Contest.{contest_of, contests_of, contest_like, no_contest}
use Rattle.ballot_record.specs.declared.election.Election.TheInside.{Inside}
use Rattle.store_spec.specs.Ballot.{MARK_SETS}
use Rattle.store_spec.specs.Election.{Election, IsElection}

abbrev pub election_of : Inside → Election
election_of a = record {
  version = a.version;
  contests = contests_of (take a.contest_count a.contests);
  styles = take a.style_count a.styles;
  limit = a.limit;
  bits = a.bits;
  salt = a.salt;
}

abbrev pub kept_of : Election → Inside
kept_of e = record {
  contests = map contest_like e.contests ++ replicate (MARK_SETS - length e.contests) no_contest;
  contest_count = length e.contests;
  styles = e.styles ++ replicate (255 - length e.styles) 0;
  style_count = length e.styles;
  limit = e.limit;
  bits = e.bits;
  salt = e.salt;
  version = e.version;
}

pub record IsKept (a : Inside) : Type 0 where
  pub election : IsElection (election_of a)
  pub contest_count : a.contest_count ≤ MARK_SETS
  pub style_count : a.style_count ≤ 255
  pub contest_places : length a.contests ≡ MARK_SETS
  pub style_places : length a.styles ≡ 255
  pub no_more_contests : drop a.contest_count a.contests
      ≡ replicate (MARK_SETS - a.contest_count) no_contest
  pub no_more_styles : drop a.style_count a.styles ≡ replicate (255 - a.style_count) 0

contests_back : (contests : List Contest) → map contest_like (contests_of contests) ≡ contests
contests_back [] = refl
contests_back (contest ∷ contests) = ap (λ rest. contest ∷ rest) (contests_back contests)

-- the front and what stands behind it are the whole
whole : {X : Type 0} (xs : List X) (n total : ℕ) (none : X) → length xs ≡ total → n ≤ total
    → drop n xs ≡ replicate (total - n) none
    → (length (take n xs) ≡ n) × (take n xs ++ replicate (total - n) none ≡ xs)
whole xs n total none all within behind =
    (length-take-le n xs (omega arith), ap (λ rest. take n xs ++ rest) (sym behind) ∙ take-append-drop n xs)

-- nothing of what is kept is lost in what a contract sees
pub kept_of-election_of : (a : Inside) → IsKept a → kept_of (election_of a) ≡ a
kept_of-election_of a kept =
    let contests = whole a.contests a.contest_count MARK_SETS no_contest kept.contest_places kept.contest_count kept.no_more_contests in
    let styles = whole a.styles a.style_count 255 0 kept.style_places kept.style_count kept.no_more_styles in
    let contest_count : length (contests_of (take a.contest_count a.contests)) ≡ a.contest_count =
    length-map (take a.contest_count a.contests) contest_of ∙ contests.0 in
    rw (contest_count, styles.0, contests_back (take a.contest_count a.contests), contests.1, styles.1) refl
