use Rattle.std.proofs.Common.{[], append-nil, sym, string_bytes}
use Rattle.store_spec.proofs.Common.{refusal}
use Rattle.phase_gate.proofs.Summaries.{refusal_sums, sums}
use Rattle.phase_gate.proofs.Told.{put_as_told}
use Rattle.phase_gate.proofs.text.write_refusal.Goals as goal
use Rattle.phase_gate.specs.declared.writing.Writing.TheVariants.{Summary}

pub returns-in-Summary : goal.returns-in-Summary
returns-in-Summary c =
    let text = refusal c.args.index c.args.why.now in
    let now = string_bytes c.args.text.now in
    put_as_told c.args.writing Summary text [] now now c.in-Summary.is
    (sums text [] (refusal_sums c.args.index c.args.why.now c.requires)) (sym (append-nil now))
