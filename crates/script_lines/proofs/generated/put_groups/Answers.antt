use Rattle.std.proofs.Common.{◌≡◌, ◌+◌, ◌-◌, ◌++◌, drop, length, ap, sym, ◌∙◌, arith}
use Rattle.store_spec.proofs.Common.{group_text}
use Rattle.ballot_record.proofs.Versions.{contests_fit}
use Rattle.script_lines.proofs.Ballots.{group_before, groups_from}
use Rattle.script_lines.proofs.generated.put_groups.Goals as goal

pub contests-init : goal.contests-init
contests-init c =
    let e = c.args.election.now in
    let behind = drop c.args.end c.args.line.now in
    let contest = c.contests-contest.result in
    let one : length e.contests + 1 - contest ≡ 1 = omega arith in
    let valid = c.contests-contest.ensures.valid in
    record {
      text = c.put_group-start.ensures.text ∙ ap (λ choices. group_text choices ++ behind) (sym c.marked_choice.ensures)
          ∙ ap (λ n. groups_from e c.args.i contest n ++ behind) (sym one);
      contest = (omega (arith, valid.some_contest), omega arith);
      start = (omega arith, omega arith);
    }

pub contests-preserved : goal.contests-preserved
contests-preserved c =
    let e = c.args.election.now in
    let i = c.contests.invariant in
    let behind = drop c.args.end c.args.line.now in
    let contest = c.contests.contest in
    let put = length e.contests + 1 - contest in
    let back : contest ≡ contest - 1 + 1 = omega arith in
    let apart = drop c.put_byte-start.result c.put_byte-start.new.line in
    record {
      text = group_before e c.args.i (contest - 1) put (length e.contests + 1 - (contest - 1)) behind (drop c.contests.start c.contests.line) apart _
          (omega arith) (omega arith) (i.text ∙ ap (λ k. groups_from e c.args.i k put ++ behind) back) c.put_byte-start.ensures.text
          (c.put_group-start-in-contests.ensures.text ∙ ap (λ choices. group_text choices ++ apart) (sym c.marked_choice-in-contests.ensures));
      contest = (omega arith, omega arith);
      start = (omega arith, omega arith);
    }

pub returns-clause-text : goal.returns-clause-text
returns-clause-text c =
    let e = c.args.election.now in
    let behind = drop c.args.end c.args.line.now in
    let contest = c.contests.contest in
    let first : contest ≡ 1 = omega arith in
    let all : length e.contests + 1 - contest ≡ length e.contests = omega arith in
    c.contests.invariant.text ∙ ap (λ k. groups_from e c.args.i k (length e.contests + 1 - contest) ++ behind) first
    ∙ ap (λ n. groups_from e c.args.i 1 n ++ behind) all

pub returns-clause-start : goal.returns-clause-start
returns-clause-start c = let e = c.args.election.now in let valid = c.contests-contest.ensures.valid in (omega arith, omega (arith, contests_fit e valid))
