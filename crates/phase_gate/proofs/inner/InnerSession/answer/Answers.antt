use Rattle.std.proofs.Common.{Some, codes, inl, refl, string_bytes}
use Rattle.store_spec.proofs.Common.{AnswersBy, refusal, stays}
use Rattle.phase_gate.proofs.Told.{tells}
use Rattle.phase_gate.proofs.inner.InnerSession.answer.Goals as goal
use Rattle.phase_gate.specs.InnerSession.{closes_of, effect_of, election_of, state_of}

pub returns-in-Malformed-clause-answers : goal.returns-in-Malformed-clause-answers
returns-in-Malformed-clause-answers g c = λ line said.
    let self = c.args.self in
    tells c.refuse.result c.args.writing (stays (state_of self) (refusal c.args.index (codes "malformed")))
    (AnswersBy (closes_of self) (election_of self) c.args.index (state_of self) (Some line))
    (λ answer. effect_of answer (string_bytes c.refuse.new.reply))
    (inl (rw c.in-Malformed.is at said, refl)) c.refuse.ensures.stays
