use Rattle.std.proofs.Common.{◌≢◌, ℕ, ◌^◌, ◌<◌, List, [], ◌∷◌, get_or, All, length, map, sym, subst, ap, ◌∙◌, arith}
use Rattle.store_spec.proofs.Common.{All-cons, All-nil, AllPairs-cons, Ballot, IsListing, IsValid, example, get_or_default, length-map, take_all}
use Rattle.body_store.proofs.Blank.{blank, blank_listing}
use Rattle.medium_tests.proofs.stores.blanks.Goals as goal
use Rattle.ballot_record.specs.BallotList.{ListedBallots}

pub returns-clause-blank : goal.returns-clause-blank
returns-clause-blank c =
    ap (λ (list : ListedBallots). list.ballots) c.loop-number.invariant ∙ ap (map blank) (take_all _ c.args.numbers.now (omega arith))

pub returns-clause-within_limit : goal.returns-clause-within_limit
returns-clause-within_limit c =
    let size = length-map c.args.numbers.now blank in
    omega (arith, ap length (returns-clause-blank c))

pub returns-clause-listing : goal.returns-clause-listing
returns-clause-listing c =
    let numbers = c.args.numbers.now in
    let short : All (λ n. n < 2 ^ 64) numbers = λ k d lt.
    let fits = c.type_inv.numbers k in let same = get_or_default numbers k 0 d lt in omega arith in
    subst (λ (bs : List Ballot). IsListing example bs) (sym (returns-clause-blank c))
    (blank_listing numbers c.requires.some short c.requires.distinct)

-- a ballot alone is a listing
one_blank : (number : ℕ) → number ≢ 0 → number < 2 ^ 64 → IsValid example (blank number)
one_blank number some short =
    let listing = blank_listing (number ∷ []) (All-cons (λ n. n ≢ 0) number [] some (All-nil (λ n. n ≢ 0)))
    (All-cons (λ n. n < 2 ^ 64) number [] short (All-nil (λ n. n < 2 ^ 64)))
    (AllPairs-cons (λ a b. a ≢ b) number [] (All-nil (λ b. number ≢ b)) (λ i j d lt within. absurd (omega arith))) in
    listing.valid 0 (blank number) (omega arith)

pub push-requires-clause-valid : goal.push-requires-clause-valid
push-requires-clause-valid c =
    let place = c.loop-number.number-index in
    let fits = c.type_inv.numbers place in
    let valid = one_blank (get_or c.args.numbers.now place 0) (c.requires.some place 0 (omega arith)) (omega arith) in
    rw (c.example-election.ensures, c.blank.ensures) valid
