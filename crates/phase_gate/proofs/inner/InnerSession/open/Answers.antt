use Rattle.std.proofs.Common.{◌≡◌, ◌++◌, ap, string_bytes, subst, sym, ◌∙◌}
use Rattle.store_spec.proofs.Common.{Election, Open, counted, opened, phase_text, stays, wrong_phase}
use Rattle.phase_gate.proofs.Phases.{elsewhere, open_phase}
use Rattle.phase_gate.proofs.Told.{tells_line, tells_open}
use Rattle.phase_gate.proofs.MayWait.{opened_may_wait}
use Rattle.phase_gate.proofs.inner.InnerSession.open.Goals as goal
use Rattle.phase_gate.specs.InnerSession.{WritesLine, closes_of, election_of, phase_at, state_of}
use Rattle.phase_gate.specs.Standing.{MayWait}
use Rattle.phase_gate.specs.Writing.{written_of}
use Rattle.phase_gate.specs.Waiting.{AreListsOf, phase_of, phase_or_closed}
use Rattle.script_lines.specs.Words.{work}

pub invariant_of-of : goal.invariant_of-of
invariant_of-of g c =
    let e = election_of c.args.self in
    let now = c.in_ok-opened-in-None.field-0 in
    record {
      may_wait = subst (MayWait e) (sym c.in_ok-opened-in-None.ensures.phase) (opened_may_wait e (work c.args.named) c.args.tabs c.requires.tabs);
      lists = λ lists is.
          let same : now ≡ lists = cc in
          subst (AreListsOf e) same (subst (λ (x : Election). AreListsOf x now) c.election.ensures.election c.in_ok-opened-in-None.ensures.lists);
    }

pub returns-in_ok-write_opening-in-None-clause-does : goal.returns-in_ok-write_opening-in-None-clause-does
returns-in_ok-write_opening-in-None-clause-does g c =
    let self = c.args.self in
    let named = work c.args.named in
    let text = string_bytes c.write_opening.new.text in
    let reply = written_of c.args.writing (counted (phase_text (opened named c.args.tabs)) c.args.tabs) in
    subst (WritesLine c.args.writing self c.args.index (Open named c.args.tabs) text) (sym c.of.ensures)
    (tells_open c.args.writing (closes_of self) (election_of self) c.args.index (state_of self) (phase_at self)
    (ap phase_or_closed c.in-None.is) named c.args.tabs text
    (phase_of c.in_ok-opened-in-None.field-0) c.in_ok-opened-in-None.ensures.phase
    (c.in_ok-write_opening-in-None.ensures ∙ ap (λ old. old ++ reply) c.requires.nothing))

pub returns-in-Some-clause-does : goal.returns-in-Some-clause-does
returns-in-Some-clause-does g c =
    let self = c.args.self in
    let named = work c.args.named in
    let other = open_phase self.waiting c.in-Some.field-0 c.in-Some.is in
    tells_line c.refuse_phase.result c.args.writing self c.args.index (Open named c.args.tabs) (string_bytes c.refuse_phase.new.reply)
    (stays (state_of self) (wrong_phase c.args.index (phase_at self)))
    ((elsewhere (closes_of self) (election_of self) c.args.index (state_of self) (phase_at self) other).0 named c.args.tabs)
    c.refuse_phase.ensures.stays
