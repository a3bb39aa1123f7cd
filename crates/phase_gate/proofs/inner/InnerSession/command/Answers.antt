use Rattle.std.proofs.Common.{◌≡◌, codes, string_bytes, subst, sym}
use Rattle.store_spec.proofs.Common.{CastInvalid, DoesBy, Export, Tally, refusal, stays, wrong_phase}
use Rattle.phase_gate.proofs.Phases.{elsewhere, invalid_elsewhere, invalid_there, named_closed, named_open}
use Rattle.phase_gate.proofs.Told.{tells_line, tells_tally}
use Rattle.phase_gate.proofs.inner.InnerSession.command.Goals as goal
use Rattle.phase_gate.proofs.inner.InnerSession.command.Goals.{in_default-via-in-CastInvalid+in_default, in_default-via-in-Checkpoint+in_default, in_default-via-in-Tally+in_default, in_default-via-in-Export+in_default}
use Rattle.phase_gate.specs.InnerSession.{WritesLine, closes_of, election_of, phase_at, state_of}
use Rattle.phase_gate.specs.declared.phase.Phase.TheVariants as names
use Rattle.script_lines.specs.Line.{command_line}
use Rattle.script_lines.specs.declared.line.Command.{Command}

pub returns-in-CastInvalid-Casting-clause-does : goal.returns-in-CastInvalid-Casting-clause-does
returns-in-CastInvalid-Casting-clause-does g c =
    let self = c.args.self in
    let tab = c.in-CastInvalid-Casting.tab-0 in
    rw c.in-CastInvalid-Casting.is-0
    (tells_line c.refuse.result c.args.writing self c.args.index (CastInvalid tab) (string_bytes c.refuse.new.reply)
    (stays (state_of self) (refusal c.args.index (codes "invalid")))
    (invalid_there (closes_of self) (election_of self) c.args.index (state_of self) tab c.phase.result (phase_at self)
    c.phase.ensures c.in-CastInvalid-Casting.is-1) c.refuse.ensures.stays)

pub returns-in-Tally-Closed-clause-does : goal.returns-in-Tally-Closed-clause-does
returns-in-Tally-Closed-clause-does g c =
    let self = c.args.self in
    rw c.in-Tally-Closed.is-0
    (subst (WritesLine c.args.writing self c.args.index Tally (string_bytes c.args.reply.now)) (sym c.of.ensures)
    (tells_tally c.args.writing (closes_of self) (election_of self) c.args.index (state_of self) (phase_at self)
    (named_closed c.phase.result (phase_at self) c.phase.ensures c.in-Tally-Closed.is-1)))

pub returns-in-Export-Closed-clause-does : goal.returns-in-Export-Closed-clause-does
returns-in-Export-Closed-clause-does g c =
    rw c.in-Export-Closed.is-0
    (subst (λ text. WritesLine c.args.writing c.args.self c.args.index Export text c.export.result) (sym c.requires.nothing)
    (c.export.ensures.does c.args.index))

pub returns-in_default-clause-does : goal.returns-in_default-clause-does
returns-in_default-clause-does g c =
    let self = c.args.self in
    let name = c.phase.result in
    let phase = phase_at self in
    let refused = stays (state_of self) (wrong_phase c.args.index phase) in
    let Does : Command → Type 0 = λ command. DoesBy (closes_of self) (election_of self) c.args.index (state_of self) (command_line command) phase refused in
    let there = λ (other : ¬ (name ≡ names.Closed)). elsewhere (closes_of self) (election_of self) c.args.index (state_of self) phase
    (named_open name phase c.phase.ensures other) in
    let does : Does c.args.command = elim c.in_default.branch [
      | in_default-via-in-CastInvalid+in_default w ↦ subst Does (sym w.in_default.is-0)
          (invalid_elsewhere (closes_of self) (election_of self) c.args.index (state_of self) w.in_default.field-0-0 name phase c.phase.ensures w.in_default.not-Casting-1)
      | in_default-via-in-Checkpoint+in_default w ↦ subst Does (sym w.in_default.is-0) (there w.in_default.not-Closed-1).1
      | in_default-via-in-Tally+in_default w ↦ subst Does (sym w.in_default.is-0) (there w.in_default.not-Closed-1).2
      | in_default-via-in-Export+in_default w ↦ subst Does (sym w.in_default.is-0) (there w.in_default.not-Closed-1).3
    ] in
    tells_line c.refuse_phase.result c.args.writing self c.args.index (command_line c.args.command) (string_bytes c.refuse_phase.new.reply)
    refused does c.refuse_phase.ensures.stays
