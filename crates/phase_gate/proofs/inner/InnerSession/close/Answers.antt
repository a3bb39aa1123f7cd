use Rattle.std.proofs.Common.{Ok, ap, refl, string_bytes, subst, sym}
use Rattle.store_spec.proofs.Common.{Close, DoesBy, Phase, closing, stays, wrong_phase}
use Rattle.phase_gate.proofs.Closes.{closes_told}
use Rattle.phase_gate.proofs.Phases.{close_closed, closes_open}
use Rattle.phase_gate.proofs.Told.{tells_line}
use Rattle.phase_gate.proofs.inner.InnerSession.close.Goals as goal
use Rattle.phase_gate.specs.InnerSession.{WritesLine, ballots_of, closes_of, election_of, phase_at, state_of}
use Rattle.phase_gate.specs.Replies.{ClosesBy, words_of}
use Rattle.phase_gate.specs.Waiting.{phase_or_closed}

pub returns-in-None-clause-does : goal.returns-in-None-clause-does
returns-in-None-clause-does g c =
    let self = c.args.self in
    let phase = phase_at self in
    tells_line c.refuse_phase.result c.args.writing self c.args.index Close (string_bytes c.refuse_phase.new.reply)
    (stays (state_of self) (wrong_phase c.args.index phase))
    (close_closed (closes_of self) (election_of self) c.args.index (state_of self) phase (ap phase_or_closed c.in-None.is))
    c.refuse_phase.ensures.stays

pub returns-in_ok-tell_replies-in-Some-clause-does : goal.returns-in_ok-tell_replies-in-Some-clause-does
returns-in_ok-tell_replies-in-Some-clause-does g c =
    let self = c.args.self in
    let writing = c.args.writing in
    let phase = phase_at self in
    let text = string_bytes c.tell_replies.new.text in
    let after = c.in_ok-store-in-Some.store in
    let words = words_of c.in_ok-store-in-Some.replies in
    let effect = closing words (g.S.Store.ballots after) in
    let gives = c.requires.plays.gives self.store c.in-Some.waiting (Ok (after, c.in_ok-store-in-Some.replies)) c.in_ok-store-in-Some.ensures in
    let closes = subst (λ (p : Phase). ClosesBy (closes_of self) (ballots_of self) p effect) (sym (ap phase_or_closed c.in-Some.is)) gives.1 in
    subst (WritesLine writing self c.args.index Close text) (sym c.of.ensures)
    (closes_told writing (DoesBy (closes_of self) (election_of self) c.args.index (state_of self) Close phase)
    (string_bytes c.args.reply.now) text words words c.len.result (g.S.Store.ballots after)
    (closes_open (closes_of self) (election_of self) c.args.index (state_of self) phase effect closes) refl
    c.requires.nothing c.in_ok-tell_replies-in-Some.ensures c.len.ensures.count)
