use Rattle.std.proofs.Common.{◌≡◌, ◌+◌, ◌-◌, ◌++◌, length, drop, ap, ◌∙◌, arith}
use Rattle.store_spec.proofs.Common.{lines_text, take_at, with_items}
use Rattle.script_lines.proofs.Left.{few_lines, line_ready, nothing_left}
use Rattle.script_lines.proofs.generated_script.GeneratedScript.next_line.Goals as goal
use Rattle.script_lines.specs.Generated.{generated}

pub invariant_of-self-clause-few : goal.invariant_of-self-clause-few
invariant_of-self-clause-few c = let s = c.args.self.now in omega (arith, few_lines s.election s.seed s.count s.tabs (s.index + 1 - 1) c.in-Some.ensures.some)

pub returns-in-Some-clause-left : goal.returns-in-Some-clause-left
returns-in-Some-clause-left c =
    let s = c.args.self.now in
    let lines = generated s.election s.seed s.count s.tabs in
    let room = c.put_ended_line.new.room in
    let put : (with_items s.line room).items ≡ room = take_at room (drop (length room) s.line.items) s.line.len (omega arith) in
    ap (λ items. drop c.in-Some.start items ++ lines_text (drop (s.index + 1) lines)) put
    ∙ line_ready lines s.index s.given s.line.items (drop c.in-Some.start room) (c.requires ∙ s.line.ok.0) c.in-Some.ensures.some c.in-Some.ensures.text

pub returns-in-None-clause-end : goal.returns-in-None-clause-end
returns-in-None-clause-end c _ =
    let s = c.args.self.now in
    nothing_left (generated s.election s.seed s.count s.tabs) s.index s.given s.line.items (c.requires ∙ s.line.ok.0) c.in-None.ensures.some
