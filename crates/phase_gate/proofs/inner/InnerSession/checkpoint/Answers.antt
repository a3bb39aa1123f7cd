use Rattle.std.proofs.Common.{◌++◌, codes, ap, string_bytes, subst, sym, ◌∙◌}
use Rattle.store_spec.proofs.Common.{Checkpoint, counted}
use Rattle.phase_gate.proofs.Told.{tells_checkpoint}
use Rattle.phase_gate.proofs.inner.InnerSession.checkpoint.Goals as goal
use Rattle.phase_gate.specs.InnerSession.{WritesLine, closes_of, election_of, phase_at, state_of}

pub returns-clause-does : goal.returns-clause-does
returns-clause-does g c = λ writing index.
    let self = c.args.self in
    let text = string_bytes c.push_count.new.text in
    subst (WritesLine writing self index Checkpoint text) (sym c.of.ensures)
    (tells_checkpoint writing (closes_of self) (election_of self) index (state_of self) (phase_at self) c.requires.closed text
    (c.in_ok-push_count.ensures ∙ ap (λ old. old ++ counted (codes "checkpoint") c.len.result) c.requires.nothing
    ∙ ap (counted (codes "checkpoint")) c.len.ensures.count))
