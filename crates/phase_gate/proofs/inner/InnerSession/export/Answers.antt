use Rattle.std.proofs.Common.{[], ap, subst, sym, ◌∙◌}
use Rattle.store_spec.proofs.Common.{Export, export_text}
use Rattle.phase_gate.proofs.Told.{export_untold, tells_export}
use Rattle.phase_gate.proofs.inner.InnerSession.export.Goals as goal
use Rattle.phase_gate.specs.InnerSession.{WritesLine, ballots_of, closes_of, election_of, phase_at, state_of}
use Rattle.phase_gate.specs.Writing.{written_of}

pub returns-in-All-clause-does : goal.returns-in-All-clause-does
returns-in-All-clause-does g c = λ index.
    let self = c.args.self in
    let text = export_text (election_of self) (ballots_of self) in
    subst (WritesLine c.args.writing self index Export []) (sym c.of.ensures)
    (tells_export c.args.writing (closes_of self) (election_of self) index (state_of self) (phase_at self) c.requires text
    (ap (λ writing. written_of writing text) (sym c.in-All.is)))

pub returns-in-Summary-clause-does : goal.returns-in-Summary-clause-does
returns-in-Summary-clause-does g c = λ index.
    let self = c.args.self in
    let text = export_text (election_of self) (ballots_of self) in
    subst (WritesLine c.args.writing self index Export []) (sym c.of-in-Summary.ensures)
    (tells_export c.args.writing (closes_of self) (election_of self) index (state_of self) (phase_at self) c.requires []
    (sym (ap (λ writing. written_of writing text) c.in-Summary.is ∙ export_untold (election_of self) (ballots_of self))))
