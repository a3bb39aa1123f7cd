use Rattle.std.proofs.Common.{◌-◌, ◌<◌, ◌≤◌, length, ap, sym, subst, ◌∙◌, arith}
use Rattle.store_spec.proofs.Common.{Election, IsContest, get_or-take, slice_get}
use Rattle.ballot_record.proofs.Counts.{contest_count, contest_count_of, contest_at, All-unmap}
use Rattle.ballot_record.specs.Contest.{contest_of, no_contest}
use Rattle.ballot_record.specs.Kept.{election_of}
use Rattle.ballot_record.specs.declared.contest.Contest.{Contest}
use Rattle.std.proofs.Math.ListN.{take, get_or}
use Rattle.ballot_record.proofs.election.Election.contest.Goals as goal

pub bounds-contests-k : goal.bounds-contests-k
bounds-contests-k c =
    let count = contest_count c.self.inside c.args.self.now c.self.invariant c.self.view_is in
    omega (arith, count, c.self.invariant.contest_count)

pub returns : goal.returns
returns c =
    let a = c.self.inside in
    let place = c.args.k - 1 in
    let count = contest_count a c.args.self.now c.self.invariant c.self.view_is in
    let before : place < a.contest_count = omega (arith, count) in
    let within : a.contest_count ≤ length a.contests = omega (arith, c.self.invariant.contest_count, c.self.invariant.contest_places) in
    let e = election_of a in
    let P : Contest → Type 0 = λ contest. IsContest e (contest_of contest) in
    let each = All-unmap contest_of (IsContest e) (take a.contest_count a.contests) c.self.invariant.election.each_contest in
    record {
      contest = ap (λ (e : Election). slice_get e.contests place) (sym c.self.view_is) ∙ contest_at a.contests a.contest_count place no_contest before within;
      valid = subst (λ (e : Election). IsContest e (contest_of (get_or a.contests place no_contest))) c.self.view_is (subst P (get_or-take a.contest_count a.contests place no_contest before) (each place no_contest (omega (arith, contest_count_of a.contests a.contest_count within))));
    }
