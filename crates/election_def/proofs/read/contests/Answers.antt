use Rattle.std.proofs.Common.{◌+◌, ◌∷◌, [], sym, ap, ◌∙◌, subst, arith, map, take, List, refl}
use Rattle.store_spec.proofs.Common.{AllZip, map-append}
use Rattle.serde_json.specs.View.{view}
use Rattle.store_spec.specs.Election as definition
use Rattle.ballot_record.specs.Contest.{contest_of, contests_of}
use Rattle.election_def.specs.Text.{IsContestIn}
use Rattle.election_def.proofs.Arrays.{array_more, array_end, array_none}
use Rattle.election_def.proofs.read.contests.Goals as goal

pub returns-in_default-contest-clause-refused : goal.returns-in_default-contest-clause-refused
returns-in_default-contest-clause-refused c = λ none.
    array_none (IsContestIn c.args.most) (view c.args.value.now) c.in-Some.items.now.items c.deref-item-items.result.now c.loop-item.item-index c.item-item.result
    c.in-Some.ensures c.deref-item-items.ensures.value c.loop-item-test.true (sym c.item-item.is) (c.in_default-contest.ensures.refused refl)

pub loop-item-preserved : goal.loop-item-preserved
loop-item-preserved c =
    let l = c.loop-item in
    let contest = c.in-Some-contest.contest in
    let items = c.deref-item-items.result.now in
    let P : List definition.Contest → Type 0 = λ contests. AllZip (IsContestIn c.args.most) (map view (take (l.item-index + 1) items)) contests in
    subst P (sym (ap contests_of c.in_ok-push.ensures.items ∙ map-append contest_of l.contests.items (contest ∷ [])))
    (array_more (IsContestIn c.args.most) items l.item-index c.item-item.result (contests_of l.contests.items) (contest_of contest) c.loop-item-test.true (sym c.item-item.is) l.invariant c.in-Some-contest.ensures.value)

pub returns-clause-contests : goal.returns-clause-contests
returns-clause-contests c =
    array_end (IsContestIn c.args.most) (contests_of c.loop-item.contests.items) (view c.args.value.now) c.in-Some.items.now.items c.deref-item-items.result.now c.loop-item.item-index
    c.in-Some.ensures c.deref-item-items.ensures.value (omega arith) c.loop-item.invariant
