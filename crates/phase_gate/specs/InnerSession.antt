-- How the parts of a session are seen.
use Rattle.std.specs.Prelude.{◌≡◌, ℕ, List, [], ◌∷◌, Option, None, Some, codes}
use Rattle.phase_gate.specs.Standing.{Standing}
use Rattle.phase_gate.specs.Writing.{WritesReply}
use Rattle.phase_gate.specs.Waiting.{phase_or_closed}
use Rattle.phase_gate.specs.declared.inner.Answer.{Answer}
use Rattle.phase_gate.specs.declared.inner.InnerSession.{InnerSession}
use Rattle.phase_gate.specs.declared.phase.Phase.{Phase}
use Rattle.phase_gate.specs.declared.phase.Phase.TheVariants as names
use Rattle.phase_gate.specs.declared.inner.Task.{Task}
use Rattle.phase_gate.specs.declared.inner.Task.TheVariants.{Acknowledge, Tally, Export}
use Rattle.phase_gate.specs.declared.waiting.Queued.{Queued}
use Rattle.phase_gate.specs.declared.waiting.Queued.TheVariants.{Waits, NoList, OtherPhase}
use Rattle.phase_gate.specs.declared.session.Session.TheInside.{Inside}
use Rattle.phase_gate.specs.declared.writing.Writing.{Writing}
use Rattle.script_lines.specs.declared.line.Said.{Said}
use Rattle.store_spec.specs.Ballot.{Ballot}
use Rattle.store_spec.specs.Election.{Election}
use Rattle.store_spec.specs.Report.{export_text, tally_text}
use Rattle.store_spec.specs.ScriptLine.{ScriptLine}
use Rattle.store_spec.specs.Session as session
use Rattle.store_spec.specs.Session.{Closes, DoesBy, Effect, State, in_phase, refusal, replies, stays, wrong_phase}
use Rattle.store_spec.specs.Session.Phase.{Closed, Casts, Withdraws, Finds}

abbrev pub election_of : {S : Type 0} {s : _} → InnerSession S s → Election
election_of {S} {s} inner = s.election inner.store

abbrev pub ballots_of : {S : Type 0} {s : _} → InnerSession S s → List Ballot
ballots_of {S} {s} inner = s.ballots inner.store

-- what a close asks of its store
abbrev pub closes_of : {S : Type 0} {s : _} → InnerSession S s → Closes
closes_of {S} {s} inner = s.closes (election_of inner)

abbrev pub phase_at : {S : Type 0} {s : _} → InnerSession S s → session.Phase
phase_at inner = phase_or_closed inner.waiting

abbrev pub state_of : {S : Type 0} {s : _} → InnerSession S s → State
state_of inner = in_phase (phase_at inner) (ballots_of inner)

-- what is written where this is left to do, and this text was put
abbrev pub written_at : Task → Election → List Ballot → List ℕ → List ℕ
written_at Tally e set text = tally_text e set
written_at Export e set text = export_text e set
written_at task e set text = text

-- the sets that are acknowledged where this is left to do
abbrev pub acknowledged_at : Task → List Ballot → List (List Ballot)
acknowledged_at Acknowledge set = set ∷ []
acknowledged_at task set = []

-- what a line did, with what is written of its reply, where this text was put
abbrev pub effect_of : {S : Type 0} {s : _} → Answer S s → List ℕ → Effect
effect_of answer text = record {
  reply = written_at answer.task (election_of answer.inner) (ballots_of answer.inner) text;
  acknowledged = acknowledged_at answer.task (ballots_of answer.inner);
  next = state_of answer.inner;
}

-- with this text put, an answer writes what line number n does, which says this
abbrev pub WritesLine : {S : Type 0} {s : _} → Writing → InnerSession S s → ℕ → ScriptLine → List ℕ → Answer S s → Type 0
WritesLine writing inner n line text answer =
    WritesReply writing (DoesBy (closes_of inner) (election_of inner) n (state_of inner) line (phase_at inner)) (effect_of answer text)

abbrev pub standing_of : {S : Type 0} {s : _} → Inside S s → Standing
standing_of session = record { election = election_of session.inner; state = state_of session.inner; writing = session.writing }

-- this is the name of the phase
abbrev pub IsPhaseName : Phase → session.Phase → Type 0
IsPhaseName name Closed = name ≡ names.Closed
IsPhaseName name (Casts lists) = name ≡ names.Casting
IsPhaseName name (Withdraws lists) = name ≡ names.Withdrawing
IsPhaseName name (Finds lists) = name ≡ names.Finding

-- what a line did whose item came there
abbrev pub queued_effect : ℕ → State → Queued → Effect
queued_effect n s Waits = replies [] s
queued_effect n s NoList = stays s (refusal n (codes "invalid"))
queued_effect n s OtherPhase = stays s (wrong_phase n s.phase)

-- what became of a line: it was handled in place, and nothing is replied to it, or it says this, and nothing was done
abbrev pub IsQueued : Option Said → (Effect → Type 0) → (Said → Type 0) → State → State → Type 0
IsQueued None Did Is before after = Did (replies [] after)
IsQueued (Some said) Did Is before after = Is said × (after ≡ before)
