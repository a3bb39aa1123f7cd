use Rattle.std.proofs.Common.{◌≡◌, ℕ, ◌+◌, [], ◌∷◌, length, sym, ap, subst, ◌∙◌, arith}
use Rattle.store_spec.proofs.Common.{All-nil, All-push, IsValid, is_on_style}
use Rattle.ballot_record.specs.Contest.{contest_of}
use Rattle.tally_export.proofs.Counting.{allowed_is}
use Rattle.tally_export.proofs.Placing.{AddedTo, all_added, contest_passed, few_added, set_added, told_off, told_on}
use Rattle.tally_export.specs.declared.counts.Tally.{Tally}
use Rattle.tally_export.proofs.contests.add_ballot.Goals as goal
use Rattle.tally_export.proofs.contests.add_ballot.Goals.{then-contests-place-eq1, else-contests-place-eq1}

pub count_set-requires-clause-room : goal.count_set-requires-clause-room
count_set-requires-clause-room c =
    let b = c.requires.held.0 in
    few_added c.args.election.now (b ∷ []) c.contests.place c.args.all.now c.contests.all c.requires.valid
    (omega arith) c.requires.room (c.contests.invariant b c.requires.held.1)

pub contests-preserved : goal.contests-preserved
contests-preserved c b is =
    let e = c.args.election.now in
    let place = c.contests.place in
    let word = c.contests_on-contests.result in
    let tells = c.contests_on-contests.ensures.these in
    let own = ap (λ style. is_on_style e style (place + 1)) (sym (c.style_of.ensures b is)) in
    let so_far = c.contests.invariant b is in
    let P : Tally → Type 0 = λ all. AddedTo e (b ∷ []) (place + 1) c.args.all.now all in
    elim c.if-contests-place-eq1.branch [
      | then-contests-place-eq1 w ↦
          subst P (sym w.all-is) (set_added e b place w.from-allowed.result w.set_of.result c.args.all.now c.contests.all
          w.count_set.new.self (own ∙ told_on e c.style_of.result word place tells w.if-contests-place-eq1.true)
          (w.from-allowed.ensures ∙ sym (allowed_is e (place + 1) (contest_of w.contest.result) (omega arith) w.contest.ensures.contest))
          (w.set_of.ensures b is) so_far w.count_set.ensures)
      | else-contests-place-eq1 w ↦
          subst P (sym w.all-is) (contest_passed e b place c.args.all.now c.contests.all (own ∙ told_off e c.style_of.result word place tells w.if-contests-place-eq1.false) so_far)
    ]

pub returns : goal.returns
returns c b is =
    let e = c.args.election.now in
    let l = c.contests in
    let end : l.place ≡ length e.contests = omega arith in
    all_added e (b ∷ []) c.args.all.now l.all c.requires.valid (All-push (IsValid e) [] b (All-nil (IsValid e)) is.0)
    (subst (λ (n : ℕ). AddedTo e (b ∷ []) n c.args.all.now l.all) end (l.invariant b is))
