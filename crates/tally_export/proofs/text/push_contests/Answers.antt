use Rattle.std.proofs.Common.{◌≡◌, ℕ, List, ◌+◌, ◌-◌, ◌++◌, get_or, [], map, length, arith, subst, sym, ◌∙◌}
use Rattle.store_spec.proofs.Common.{choice_line, choices_of, lines_text, range_with_len, string_bytes}
use Rattle.ballot_record.proofs.Versions.{contests_fit, few_choices}
use Rattle.ballot_record.specs.Contest.{contest_of}
use Rattle.tally_export.proofs.Counting.{choices_is}
use Rattle.tally_export.proofs.Texts.{contest_put}
use Rattle.tally_export.proofs.text.push_contests.Goals as goal

pub push_choices-requires : goal.push_choices-requires
push_choices-requires c =
    let few = c.contest.ensures.valid.few_choices in
    omega (arith, c.from-choices.ensures, few, few_choices c.args.election.now)

pub contests-preserved : goal.contests-preserved
contests-preserved c ballots is =
    let e = c.args.election.now in
    let t = c.args.tally.now in
    let place = c.contests.place in
    let offered : c.from-choices.result ≡ choices_of e (place + 1) =
    c.from-choices.ensures ∙ sym (choices_is e (place + 1) (contest_of c.contest.result)
    (omega arith) c.contest.ensures.contest) in
    let text : List ℕ = string_bytes c.push_choices.new.text in
    let apart = string_bytes c.push_contest.new.text in
    contest_put e ballots t place (length e.contests) (string_bytes c.contests.text) apart text _ is
    (omega (arith, contests_fit e c.contests-place-end.ensures.valid)) (omega arith)
    (omega (arith, offered, c.contest.ensures.valid.few_choices, few_choices e))
    (c.contests.invariant ballots is) c.in_ok-push_contest.ensures
    (subst (λ (n : ℕ). text ≡ apart ++ lines_text
    (map (λ c. choice_line (place + 1) c (get_or (get_or t.choices place []) (c - 1) 0)) (range_with_len 1 n)))
    offered c.in_ok-push_choices.ensures)
