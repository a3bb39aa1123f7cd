use Rattle.std.proofs.Common.{[], append-nil, sym, string_bytes}
use Rattle.store_spec.proofs.Common.{counted, opened, phase_text}
use Rattle.phase_gate.proofs.Summaries.{opening_sums, sums}
use Rattle.phase_gate.proofs.Told.{put_as_told}
use Rattle.phase_gate.proofs.text.write_opening.Goals as goal
use Rattle.phase_gate.specs.declared.writing.Writing.TheVariants.{Summary}
use Rattle.script_lines.specs.Words.{work}

pub returns-in-Summary : goal.returns-in-Summary
returns-in-Summary c =
    let named = work c.args.named in
    let text = counted (phase_text (opened named c.args.tabs)) c.args.tabs in
    let now = string_bytes c.args.text.now in
    put_as_told c.args.writing Summary text [] now now c.in-Summary.is
    (sums text [] (opening_sums named c.args.tabs)) (sym (append-nil now))
