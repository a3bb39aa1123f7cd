use Rattle.std.proofs.Common.{◌-◌, inl, inr, arith}
use Rattle.store_spec.proofs.Common.{cases_lt, eq-eqb, eqb-true, slice_index}
use Rattle.ballot_record.proofs.Fitting.{no_marks, none_there, one_more}
use Rattle.ballot_record.proofs.record.Record.has_marks.Goals as goal

pub known-preserved : goal.known-preserved
known-preserved c =
    let r = c.args.self.now in
    one_more c.args.election.now r.style r.marks c.known.place c.known.marked c.not_offered-marked.result c.known.invariant
    (c.not_offered-marked.ensures r.style c.contests_on-contests.ensures.these)

pub others-preserved : goal.others-preserved
others-preserved c =
    let r = c.args.self.now in
    let e = c.args.election.now in
    let place = c.others.place in
    let set = slice_index r.marks place in
    let is = c.contests_on-contests.ensures in
    one_more e r.style r.marks place c.others.marked set c.others.invariant
    (none_there e r.style c.contests_on-contests.result place set is.these is.known (omega (arith, c.contests.ensures.count, c.min-known.ensures, c.others.auto.place, c.others-test.true)))

pub returns : goal.returns
returns c =
    let r = c.args.self.now in
    let e = c.args.election.now in (
      λ none k first last. elim (cases_lt (c.args.sets) k) [
        | inl behind ↦ no_marks e r.style r.marks k (c.requires.behind (k - 1) (omega (arith, behind)))
        | inr judged ↦ c.others.invariant.0 (eqb-true c.others.marked 0 none) k first (omega (arith, judged, c.others-test.false))
      ],
      λ fit. eq-eqb c.others.marked 0 (c.others.invariant.1 (λ k first last. fit k first (omega (arith, last, c.others.auto.place-end, c.requires.few)))),
    )
