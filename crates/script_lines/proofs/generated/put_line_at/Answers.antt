use Rattle.std.proofs.Common.{◌-◌, ℕ, List, [], ◌++◌, drop, min, Option, ap, sym, ◌∙◌}
use Rattle.std.specs.Prelude.{is_some, unwrap_or}
use Rattle.script_lines.proofs.Script.{line_there, no_line}
use Rattle.script_lines.proofs.generated.put_line_at.Goals as goal

pub returns-clause-some : goal.returns-clause-some
returns-clause-some c =
    ap (λ (o : Option (List ℕ)). is_some o)
    (sym (line_there c.args.election.now c.args.seed c.args.count c.args.tabs c.min.result (c.args.index - 1) c.in_ok-part.part (c.min.ensures ∙ ap (min c.args.count) c.limit.ensures.limit) c.in_ok-part.ensures))

pub returns-clause-text : goal.returns-clause-text
returns-clause-text c =
    let there = line_there c.args.election.now c.args.seed c.args.count c.args.tabs c.min.result (c.args.index - 1) c.in_ok-part.part (c.min.ensures ∙ ap (min c.args.count) c.limit.ensures.limit) c.in_ok-part.ensures in
    c.put_part.ensures.text ∙ ap (λ (o : Option (List ℕ)). unwrap_or o [] ++ drop c.args.end c.args.line.now) (sym there)

pub returns-in_err-part-clause-some : goal.returns-in_err-part-clause-some
returns-in_err-part-clause-some c =
    ap (λ (o : Option ℕ). is_some o) c.from_residual.ensures
    ∙ ap (λ (o : Option (List ℕ)). is_some o)
    (sym (no_line c.args.election.now c.args.seed c.args.count c.args.tabs c.min.result (c.args.index - 1) (c.min.ensures ∙ ap (min c.args.count) c.limit.ensures.limit) c.in_err-part.ensures))
