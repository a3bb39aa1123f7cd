use Rattle.std.proofs.Common.{◌≡◌, ◌-◌, ℕ, List, [], ◌∷◌, ◌++◌, drop, ap, subst, ◌∙◌, arith}
use Rattle.store_spec.proofs.Common.{IfSome, drop_all, slice_get, unwrap_or}
use Rattle.script_lines.proofs.generated.put_ended_line.Goals as goal
use Rattle.script_lines.specs.Generated.{generated}

pub returns-clause-text : goal.returns-clause-text
returns-clause-text c =
    let next = unwrap_or (slice_get (generated c.args.election.now c.args.seed c.args.count c.args.tabs) (c.args.index - 1)) [] in
    subst (λ (behind : List ℕ). IfSome c.put_line_at.result (λ start. drop start c.put_line_at.new.line ≡ next ++ behind))
    (c.put_byte-end.ensures.text ∙ ap (λ behind. 10 ∷ behind) (drop_all 704 c.args.room.now (omega arith)))
    c.put_line_at.ensures.text
