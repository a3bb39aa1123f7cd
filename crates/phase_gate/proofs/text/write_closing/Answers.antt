use Rattle.std.proofs.Common.{◌≡◌, ◌++◌, codes, map, string_bytes}
use Rattle.store_spec.proofs.Common.{IfOk-weaker, all_reply_lines, counted}
use Rattle.phase_gate.proofs.Summaries.{closing_sums, sums}
use Rattle.phase_gate.proofs.Told.{put_as_told}
use Rattle.phase_gate.proofs.text.write_closing.Goals as goal
use Rattle.phase_gate.specs.Writing.{written_of}
use Rattle.phase_gate.specs.declared.writing.Writing.TheVariants.{Summary}

pub returns-in-Summary : goal.returns-in-Summary
returns-in-Summary g c =
    let line = counted (codes "closed") c.args.held in
    let text = all_reply_lines 1 (map (λ list. map g.R.Reply.word list.items) c.args.lists.now) ++ line in
    let old = string_bytes c.args.text.now in
    let new = string_bytes c.push_count-in-Summary.new.text in
    IfOk-weaker c.push_count-in-Summary.result (λ _. new ≡ old ++ line) (λ _. new ≡ old ++ written_of c.args.writing text)
    (λ _ put. put_as_told c.args.writing Summary text line old new c.in-Summary.is
    (sums text line (closing_sums g.R.Reply.word (λ list. list.items) c.args.lists.now c.args.held
    c.requires.words)) put)
    c.push_count-in-Summary.ensures
