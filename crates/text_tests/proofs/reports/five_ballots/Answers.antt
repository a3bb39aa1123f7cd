use Rattle.std.proofs.Common.{◌≡◌, ◌≢◌, ◌<◌, List, [], ◌∷◌, ◌∙◌, ap, arith, subst, sym}
use Rattle.store_spec.proofs.Common.{All-from_recursion, AllPairs, AllPairs-cons, Ballot, IsListing, IsValid}
use Rattle.ballot_record.specs.Record.{ballot}
use Rattle.ballot_record.specs.BallotList.{ListedBallots, with_more}
use Rattle.text_tests.proofs.reports.five_ballots.Goals as goal

abbrev Apart : Ballot → Ballot → Type 0
Apart a b = a.number ≢ b.number

-- ballots in ascending order have distinct numbers
ascending : (a b c d e : Ballot) → a.number < b.number → b.number < c.number → c.number < d.number → d.number < e.number
    → AllPairs Apart (a ∷ b ∷ c ∷ d ∷ e ∷ [])
ascending a b c d e ab bc cd de =
    let less : (x y : Ballot) → x.number < y.number → Apart x y = λ x y before same. omega (arith, before, same) in
    let none : AllPairs Apart [] = λ i j x before within. absurd (omega (arith, within)) in
    AllPairs-cons Apart a (b ∷ c ∷ d ∷ e ∷ []) (All-from_recursion (Apart a) (b ∷ c ∷ d ∷ e ∷ []) (
      less a b ab,
      (
        less a c (omega (arith, ab, bc)),
        (
          less a d (omega (arith, ab, bc, cd)),
          (less a e (omega (arith, ab, bc, cd, de)), tt),
        ),
      ),
    ))
    (AllPairs-cons Apart b (c ∷ d ∷ e ∷ []) (All-from_recursion (Apart b) (c ∷ d ∷ e ∷ [])
    (less b c bc, (less b d (omega (arith, bc, cd)), (less b e (omega (arith, bc, cd, de)), tt))))
    (AllPairs-cons Apart c (d ∷ e ∷ []) (All-from_recursion (Apart c) (d ∷ e ∷ [])
    (less c d cd, (less c e (omega (arith, cd, de)), tt)))
    (AllPairs-cons Apart d (e ∷ []) (All-from_recursion (Apart d) (e ∷ []) (less d e de, tt))
    (AllPairs-cons Apart e [] (All-from_recursion (Apart e) [] tt) none))))

pub returns-clause-listing : goal.returns-clause-listing
returns-clause-listing g c =
    let e = c.args.election.now in
    let one = c.ballot.ensures in
    let two = c.ballot-2.ensures in
    let three = c.ballot-3.ensures in
    let four = c.ballot-4.ensures in
    let five = c.ballot-5.ensures in
    let a = ballot c.ballot.result in
    let b = ballot c.ballot-2.result in
    let d = ballot c.ballot-3.result in
    let f = ballot c.ballot-4.result in
    let h = ballot c.ballot-5.result in
    let all = a ∷ b ∷ d ∷ f ∷ h ∷ [] in
    let first = c.in_ok-push.ensures.pushed ∙ ap (λ list. with_more list a) c.new-list.ensures in
    let second = c.in_ok-push-2.ensures.pushed ∙ ap (λ list. with_more list b) first in
    let third = c.in_ok-push-3.ensures.pushed ∙ ap (λ list. with_more list d) second in
    let fourth = c.in_ok-push-4.ensures.pushed ∙ ap (λ list. with_more list f) third in
    let fifth = c.in_ok-push-5.ensures.pushed ∙ ap (λ list. with_more list h) fourth in
    let are : c.push-5.new.self.ballots ≡ all = ap (λ (list : ListedBallots). list.ballots) fifth in
    subst (λ (bs : List Ballot). IsListing e bs) (sym are) (record {
      valid = All-from_recursion (IsValid e) all
          (one.valid, (two.valid, (three.valid, (four.valid, (five.valid, tt)))));
      distinct = ascending a b d f h (omega (arith, one.number, two.number)) (omega (arith, two.number, three.number))
          (omega (arith, three.number, four.number)) (omega (arith, four.number, five.number));
    })
