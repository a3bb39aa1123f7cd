use Rattle.std.proofs.Common.{◌≡◌, subst}
use Rattle.store_spec.proofs.Common.{Election}
use Rattle.phase_gate.proofs.MayWait.{entry_waits_or_not}
use Rattle.phase_gate.proofs.inner.InnerSession.queue_entry.Goals as goal
use Rattle.phase_gate.specs.InnerSession.{election_of}
use Rattle.phase_gate.specs.Standing.{MayWait}
use Rattle.phase_gate.specs.Waiting.{AreListsOf, phase_of, phase_or_closed}

pub invariant_of-self : goal.invariant_of-self
invariant_of-self g c =
    let e = election_of c.args.self.now in
    let now = c.wait.new.self in
    let may = subst (λ waiting. MayWait e (phase_or_closed waiting)) c.in-Some.is c.args.self.now.may_wait in
    record {
      may_wait = entry_waits_or_not e c.args.entry c.args.tab c.args.ballot.now (phase_of c.in-Some.waiting) c.wait.result
          (phase_of now) c.requires.tab.0 c.requires.entry may c.wait.ensures.goes c.wait.ensures.unchanged;
      lists = λ lists is.
          let same : now ≡ lists = cc in
          subst (AreListsOf e) same (subst (λ (x : Election). AreListsOf x now) c.election.ensures.election c.wait.ensures.lists);
    }
