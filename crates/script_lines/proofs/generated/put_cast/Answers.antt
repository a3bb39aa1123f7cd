use Rattle.std.proofs.Common.{◌+◌, ◌∷◌, ◌++◌, drop, ap, ◌∙◌}
use Rattle.store_spec.proofs.Common.{decimal, space}
use Rattle.script_lines.proofs.Ballots.{cast_put}
use Rattle.script_lines.proofs.generated.put_cast.Goals as goal
use Rattle.script_lines.specs.Generated.{generated_number}

pub returns-clause-text : goal.returns-clause-text
returns-clause-text c =
    let groups = drop c.put_groups-groups.result c.put_groups-groups.new.line in
    let style = drop c.put_word-style.result c.put_word-style.new.line in
    let number = drop c.put_word-number.result c.put_word-number.new.line in
    let tab = drop c.put_word-tab.result c.put_word-tab.new.line in
    cast_put c.args.election.now c.args.seed c.args.tabs c.args.i (drop c.args.end c.args.line.now) groups style number tab (drop c.put_bytes.result c.put_bytes.new.line)
    c.ballot_style-style.ensures.valid c.put_groups-groups.ensures.text
    (c.put_word-style.ensures.text ∙ ap (λ n. decimal n ++ space ∷ groups) (c.from.ensures ∙ c.ballot_style-style.ensures.style))
    (c.put_word-number.ensures.text ∙ ap (λ n. decimal n ++ space ∷ style) (c.ballot_number.ensures ∙ ap (generated_number c.args.seed) c.from-2.ensures))
    (c.put_word-tab.ensures.text ∙ ap (λ n. decimal (1 + n) ++ space ∷ number) c.from-3.ensures)
    c.put_bytes.ensures.text
