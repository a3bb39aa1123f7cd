use Rattle.std.proofs.Common.{◌≡◌, IfOk, string_bytes, subst}
use Rattle.store_spec.proofs.Common.{refusal, stays}
use Rattle.phase_gate.proofs.inner.InnerSession.refuse_phase.Goals as goal
use Rattle.phase_gate.specs.InnerSession.{effect_of, state_of}
use Rattle.phase_gate.specs.Writing.{as_written}

pub returns-clause-stays : goal.returns-clause-stays
returns-clause-stays g c =
    subst (λ why. IfOk c.refuse.result (λ answer. effect_of answer (string_bytes c.refuse.new.reply) ≡ as_written
    c.args.writing (stays (state_of c.args.self) (refusal c.args.index why)))) c.refusal-why.ensures
    c.refuse.ensures.stays
